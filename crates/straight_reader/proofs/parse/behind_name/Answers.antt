use Rattle.std.proofs.Common.{◌≡◌, ◌∙◌, ap, sym, subst, drop, IfOk}
use Rattle.std.proofs.lemmas.List.{take_rest}
use Rattle.straight_reader.specs.Readings.{group_len}
use Rattle.straight_reader.proofs.Reading.{params_is}
use Rattle.straight_reader.proofs.parse.behind_name.Goals as goal

pub returns-in-Some-clause-exact : goal.returns-in-Some-clause-exact
returns-in-Some-clause-exact c =
    subst (λ known. IfOk c.block.result (λ found. found ≡ known))
    (sym (params_is c.args.internal c.args.name c.args.lexemes.now _ c.in-Some.params (sym c.in-Some.is ∙ c.in_ok-params.ensures.exact)
    (take_rest c.args.lexemes.now c.group_len-taken.result ∙ ap (λ n. drop n c.args.lexemes.now) (c.group_len-taken.ensures ∙ ap group_len c.len.ensures))))
    c.block.ensures.exact
