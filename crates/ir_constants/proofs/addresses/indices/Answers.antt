use Rattle.std.proofs.Common.{◌≡◌, ◌∙◌, ◌+◌, ◌≤◌, ◌∷◌, [], All, ap, sym, subst, arith, length, drop, length-drop}
use Rattle.std.proofs.lemmas.List.{take_rest}
use Rattle.std.proofs.lemmas.List.Elements.{All-push}
use Rattle.ir_grammar.specs.declared.lexeme.Lexeme.{Lexeme}
use Rattle.ir_grammar.specs.Tokens.{seen}
use Rattle.ir_constants.specs.Mirrors.Indices.{IsIndex}
use Rattle.ir_constants.specs.Constants.{is_close_paren, index_at}
use Rattle.ir_constants.proofs.Closed.{extended, closed, list_more, list_end}
use Rattle.ir_constants.proofs.addresses.indices.Goals as goal

pub reading-preserved : goal.reading-preserved
reading-preserved c =
    let rest = take_rest c.args.kept.now c.reading.at in
    let taken = rw c.in-Some.is at c.index.ensures.taken in
    let number = rw c.in-Some.is at c.index.ensures.number in
    record {
      read = ap (λ is. extended is (c.reading.at + c.in-Some.taken) (closed is_close_paren index_at (seen (drop (c.reading.at + c.in-Some.taken) c.args.kept.now)))) c.in_ok-push-in-Some.ensures.ok
          ∙ list_more is_close_paren index_at c.args.kept.now _ c.reading.at c.reading.indices c.in-Some.index c.in-Some.taken rest (sym c.is_closed.ensures ∙ c.reading-test.true) (sym c.in-Some.is ∙ c.index.ensures.exact) taken.0 taken.1
          ∙ c.reading.invariant.read;
      within = omega (arith, taken, ap (length {A = Lexeme}) rest, length-drop c.reading.at c.args.kept.now, c.reading.invariant.within);
      numbers = subst (All IsIndex) (sym c.in_ok-push-in-Some.ensures.ok)
          (All-push IsIndex c.reading.indices c.in-Some.index c.reading.invariant.numbers number);
    }

pub returns-clause-exact : goal.returns-clause-exact
returns-clause-exact c =
    list_end is_close_paren index_at c.args.kept.now _ c.reading.at c.reading.indices (take_rest c.args.kept.now c.reading.at) (sym c.is_closed.ensures ∙ c.reading-test.false) ∙ c.reading.invariant.read
