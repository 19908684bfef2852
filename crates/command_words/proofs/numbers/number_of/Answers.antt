use Rattle.std.proofs.Common.{◌∙◌, sym, ap, arith}
use Rattle.command_words.specs.Mirrors.{is_plain}
use Rattle.command_words.proofs.NumberWords.{parsed, not_plain, not_parsed}
use Rattle.command_words.proofs.numbers.number_of.Goals as goal

pub returns-in-Err : goal.returns-in-Err
returns-in-Err c = not_parsed c.args.most c.args.word.now (omega (arith, c.ranges.most.fits)) c.in-Err.ensures.value.0

pub returns-then-not-is_plain : goal.returns-then-not-is_plain
returns-then-not-is_plain c = not_plain c.args.most c.args.word.now (omega (arith, c.ranges.most.fits)) (ap is_plain (sym c.as_bytes.ensures.value) ∙ sym c.is_plain.ensures ∙ c.if-not-is_plain.true)

pub returns : goal.returns
returns c =
    parsed c.args.most c.in-Ok.number c.args.word.now c.in-Ok.ensures.value.0.0 c.in-Ok.ensures.value.0.1 (ap is_plain (sym c.as_bytes.ensures.value) ∙ sym c.is_plain.ensures ∙ c.if-not-is_plain.false) c.if-number-most.false
