use Rattle.std.proofs.Common.{◌∙◌, drop, ap, sym}
use Rattle.std.specs.Option.{option_map}
use Rattle.ir_lexer.specs.Tokens.{texts_of}
use Rattle.ir_grammar.specs.Tokens.{seen}
use Rattle.ir_grammar.proofs.Derivations.{found_from, none_is_derived}
use Rattle.ir_grammar.proofs.walking.read_nonterminal.Goals as goal

pub returns-in-Some-clause-derived : goal.returns-in-Some-clause-derived
returns-in-Some-clause-derived c =
    found_from c.args.start (texts_of c.args.bytes.now (drop c.args.from c.args.tokens.now)) (seen c.in-Some.kept.items) c.args.from c.in-Some.count
    (rw (sym c.tokens_from.ensures) (c.in_ok-kept.ensures.spelled ∙ ap (λ found. option_map (λ f. (seen f.0.items, f.1)) found) c.in-Some.is))

pub returns-in-None-clause-refused : goal.returns-in-None-clause-refused
returns-in-None-clause-refused c =
    none_is_derived c.args.start (texts_of c.args.bytes.now (drop c.args.from c.args.tokens.now))
    (rw (sym c.tokens_from.ensures) (c.in_ok-kept.ensures.spelled ∙ ap (λ found. option_map (λ f. (seen f.0.items, f.1)) found) c.in-None.is))
