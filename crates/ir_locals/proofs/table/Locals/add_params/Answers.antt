use Rattle.std.proofs.Common.{◌∙◌, ◌++◌, ◌∷◌, [], sym, ap}
use Rattle.ir_locals.specs.declared.local.Local.TheVariants.{Param}
use Rattle.ir_locals.specs.Locals.{are_locals}
use Rattle.ir_locals.proofs.Steps.{stops_at_name}
use Rattle.ir_locals.proofs.table.Locals.add_params.Goals as goal

pub returns-then-not-branch : goal.returns-then-not-branch
returns-then-not-branch c =
    let failed = rw c.if-not-branch.true at c.in_ok-add.ensures in
    stops_at_name Param c.loop-place.place c.args.params.now c.loop-place.place c.index-params-place.result c.loop-place.self _ c.loop-place-test.true c.index-params-place.is
    (ap (λ n. are_locals (c.loop-place.self ++ (n, Param c.loop-place.place) ∷ [])) (sym c.as_slice.ensures) ∙ failed) c.loop-place.invariant.made
