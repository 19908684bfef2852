use Rattle.std.proofs.Common.{◌∙◌, ap, sym, drop, option_map}
use Rattle.std.proofs.lemmas.List.{take_rest}
use Rattle.straight_reader.specs.Readings.{lines_len, entity_by}
use Rattle.straight_reader.proofs.Reading.{body_is}
use Rattle.straight_reader.proofs.parse.body.Goals as goal

pub returns-in-Some-2-clause-exact : goal.returns-in-Some-2-clause-exact
returns-in-Some-2-clause-exact c =
    ap (option_map (λ result. entity_by c.args.internal c.args.name c.args.params c.in-Some.lines result)) (sym c.in-Some-2.is ∙ c.in_ok-result.ensures.exact)
    ∙ sym (body_is c.args.internal c.args.name c.args.params c.args.lexemes.now _ c.in-Some.lines (sym c.in-Some.is ∙ c.in_ok-lines.ensures.exact)
    (take_rest c.args.lexemes.now c.lines_len.result ∙ ap (λ n. drop n c.args.lexemes.now) (c.lines_len.ensures ∙ ap lines_len c.as_slice.ensures)))

pub returns-in-None-2-clause-exact : goal.returns-in-None-2-clause-exact
returns-in-None-2-clause-exact c =
    ap (option_map (λ result. entity_by c.args.internal c.args.name c.args.params c.in-Some.lines result)) (sym c.in-None-2.is ∙ c.in_ok-result.ensures.exact)
    ∙ sym (body_is c.args.internal c.args.name c.args.params c.args.lexemes.now _ c.in-Some.lines (sym c.in-Some.is ∙ c.in_ok-lines.ensures.exact)
    (take_rest c.args.lexemes.now c.lines_len.result ∙ ap (λ n. drop n c.args.lexemes.now) (c.lines_len.ensures ∙ ap lines_len c.as_slice.ensures)))
