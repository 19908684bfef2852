use Rattle.std.proofs.Common.{◌∙◌, ◌≤◌, length, arith}
use Rattle.std.proofs.lemmas.Bool.Decides.{nat_tests}
use Rattle.session_runs.proofs.Texts.{no_other_left, no_type_left}
use Rattle.session_runs.proofs.deed.same_types.Goals as goal

pub returns-in-None : goal.returns-in-None
returns-in-None c =
    let past : length c.args.others.now ≤ c.loop-place.place = grind (arith, nat_tests, c.in-None.ensures.lookup.0) in
    no_other_left c.args.types.now c.args.others.now c.loop-place.place c.loop-place-test.true past ∙ c.loop-place.invariant

pub returns : goal.returns
returns c = no_type_left c.args.types.now c.args.others.now c.loop-place.place (omega arith) ∙ c.loop-place.invariant
