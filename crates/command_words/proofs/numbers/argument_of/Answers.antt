use Rattle.std.proofs.Common.{◌∙◌, sym, None, rules, arith}
use Rattle.std.proofs.lemmas.Str.Pattern.{strip_prefix_char}
use Rattle.command_words.proofs.NumberWords.{natural_some, natural_none}
use Rattle.command_words.proofs.numbers.argument_of.Goals as goal

pub returns-in-Some-number_of-2 : goal.returns-in-Some-number_of-2
returns-in-Some-number_of-2 c =
    let reads = natural_some c.args.word.now c.in-Some-number_of-2.number (strip_prefix_char 45 c.args.word.now None c.in-None.ensures.cases (omega arith)) (sym c.number_of-in-None.ensures ∙ c.in-Some-number_of-2.is) in
    search rules

pub returns-in-None-number_of-2 : goal.returns-in-None-number_of-2
returns-in-None-number_of-2 c = natural_none c.args.word.now (strip_prefix_char 45 c.args.word.now None c.in-None.ensures.cases (omega arith)) (sym c.in-None-number_of-2.ensures)
