use Rattle.std.proofs.Common.{◌≡◌, [], ◌∷◌, drop, reverse}
use Rattle.ir_lexer.specs.Tokens.{texts_of}
use Rattle.ir_grammar.specs.declared.grammar.Item.TheVariants as item
use Rattle.ir_grammar.specs.Tokens.{seen}
use Rattle.ir_grammar.specs.Mirrors.Walk.{walk}
use Rattle.ir_grammar.proofs.Steps.{behind}
use Rattle.ir_grammar.proofs.walking.taken.Given as goal

abbrev pub invariant-loop-at : goal.invariant-loop-at
invariant-loop-at l =
    walk (item.One l.fn.start ∷ []) (texts_of l.bytes l.tokens) ≡ behind (seen l.kept.items) l.at (walk (reverse l.stack) (texts_of l.bytes (drop l.at l.tokens)))
