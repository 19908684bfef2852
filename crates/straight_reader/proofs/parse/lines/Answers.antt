use Rattle.std.proofs.Common.{◌≡◌, ◌∙◌, ◌+◌, ◌∷◌, ◌++◌, [], ap, sym, arith, length, drop, length-drop}
use Rattle.std.proofs.lemmas.List.{take_rest}
use Rattle.straight_form.specs.Spelled.{seen}
use Rattle.straight_form.specs.declared.lexeme.Lexeme.{Lexeme}
use Rattle.straight_reader.specs.Readings.{line_len, lines_len, lines_from, extended}
use Rattle.straight_reader.proofs.Reading.{lines_more, lines_len-more}
use Rattle.straight_reader.proofs.parse.lines.Goals as goal

pub reading-preserved : goal.reading-preserved
reading-preserved c =
    let pushed : lines_len c.push.new.self ≡ lines_len c.reading.lines + line_len c.in-Some.line = ap lines_len c.in_ok-push-in-Some.ensures.ok ∙ lines_len-more c.reading.lines c.in-Some.line in
    record {
      read = ap (λ ls. extended ls (lines_from 0 (seen (drop (c.reading.at + c.line_len-at.result) c.args.lexemes.now)))) c.in_ok-push-in-Some.ensures.ok
          ∙ ap (λ n. extended (c.reading.lines ++ c.in-Some.line ∷ []) (lines_from 0 (seen (drop (c.reading.at + n) c.args.lexemes.now)))) c.line_len-at.ensures
          ∙ lines_more c.args.lexemes.now _ c.reading.at c.reading.lines c.in-Some.line (take_rest c.args.lexemes.now c.reading.at) (sym c.begins_line.ensures.exact ∙ c.reading-test.true) (sym c.in-Some.is ∙ c.in_ok-line.ensures.exact)
          ∙ c.reading.invariant.read;
      taken = omega (arith, pushed, c.line_len-at.ensures, c.reading.invariant.taken);
      within = let enough = rw c.in-Some.is at c.in_ok-line.ensures.within in
          omega (arith, enough, ap (length {A = Lexeme}) (take_rest c.args.lexemes.now c.reading.at), length-drop c.reading.at c.args.lexemes.now, c.reading.invariant.within, c.line_len-at.ensures);
    }
