use Rattle.std.proofs.Common.{◌∙◌, ◌+◌, ◌-◌, ◌<◌, take, ◌++◌, ◌∷◌, [], ap, sym, arith, length, drop, length-drop}
use Rattle.std.proofs.lemmas.List.{take_rest}
use Rattle.straight_form.specs.Spelled.{seen}
use Rattle.straight_form.specs.declared.lexeme.Lexeme.{Lexeme}
use Rattle.straight_reader.specs.Readings.{entities_from, extended}
use Rattle.straight_reader.proofs.Reading.{entities_more, seen-length}
use Rattle.straight_reader.proofs.parse.entities.Goals as goal

pub reading-preserved : goal.reading-preserved
reading-preserved c =
    let rest = take_rest c.args.lexemes.now c.reading.at in
    let enough = rw c.in-Some.is at c.in_ok-entity.ensures.within in
    let some : 0 < length (seen (take (length c.args.lexemes.now - c.reading.at) (drop c.reading.at c.args.lexemes.now))) =
    omega (arith, seen-length (take (length c.args.lexemes.now - c.reading.at) (drop c.reading.at c.args.lexemes.now)), ap (length {A = Lexeme}) rest, length-drop c.reading.at c.args.lexemes.now, c.reading-test.true) in
    record {
      read = ap (λ es. extended es (entities_from 0 (seen (drop (c.reading.at + c.entity_len-at.result) c.args.lexemes.now)))) c.in_ok-push-in-Some.ensures.ok
          ∙ ap (λ n. extended (c.reading.entities ++ c.in-Some.entity ∷ []) (entities_from 0 (seen (drop (c.reading.at + n) c.args.lexemes.now)))) c.entity_len-at.ensures
          ∙ entities_more c.args.lexemes.now _ c.reading.at c.reading.entities c.in-Some.entity rest some (sym c.in-Some.is ∙ c.in_ok-entity.ensures.exact)
          ∙ c.reading.invariant.read;
      within = omega (arith, enough, ap (length {A = Lexeme}) rest, length-drop c.reading.at c.args.lexemes.now, c.reading.invariant.within, c.entity_len-at.ensures);
    }
