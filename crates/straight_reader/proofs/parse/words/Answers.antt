use Rattle.std.proofs.Common.{◌≡◌, ◌∙◌, ◌+◌, ◌∷◌, Some, [], ap, sym, arith, length, drop, length-append, length-drop}
use Rattle.std.proofs.lemmas.List.{take_rest}
use Rattle.straight_form.specs.Spelled.{seen}
use Rattle.straight_form.specs.declared.lexeme.Lexeme.{Lexeme}
use Rattle.straight_form.specs.declared.surface.Value.{Value}
use Rattle.straight_reader.specs.Readings.{words_from, extended}
use Rattle.straight_reader.proofs.Reading.{words_more}
use Rattle.straight_reader.proofs.parse.words.Goals as goal

pub reading-preserved : goal.reading-preserved
reading-preserved c =
    let pushed : length c.push.new.self ≡ length c.reading.words + 1 = ap (length {A = Value}) c.in_ok-push-in-Some.ensures.ok ∙ length-append c.reading.words (c.in-Some.operand ∷ []) in
    record {
      read = ap (λ ws. extended ws (words_from 0 (seen (drop (c.reading.at + 3) c.args.lexemes.now)))) c.in_ok-push-in-Some.ensures.ok
          ∙ words_more c.args.lexemes.now _ c.reading.at c.reading.words c.in-Some.operand (take_rest c.args.lexemes.now c.reading.at)
          (ap (λ b. Some (c.in-Some.operand, b)) (sym c.if-not-more.false) ∙ sym c.in-Some.is ∙ c.in_ok-operand.ensures.exact)
          ∙ c.reading.invariant.read;
      taken = omega (arith, pushed);
      within = let enough = rw c.in-Some.is at c.in_ok-operand.ensures.within in
          omega (arith, enough, ap (length {A = Lexeme}) (take_rest c.args.lexemes.now c.reading.at), length-drop c.reading.at c.args.lexemes.now, c.reading.invariant.within);
    }
