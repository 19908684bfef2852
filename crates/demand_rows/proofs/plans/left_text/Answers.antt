use Rattle.std.proofs.Common.{sym, subst}
use Rattle.straight_plan.specs.Left.{IsPlan}
use Rattle.demand_rows.proofs.EntryPlans.{entry-plan, only-module}
use Rattle.demand_rows.proofs.plans.left_text.Goals as goal

pub leave-requires-clause-plan : goal.leave-requires-clause-plan
leave-requires-clause-plan c =
    let m = c.index-modules-0.result in
    let modules = c.args.program.now in
    let one = only-module modules c.modules.result.now m c.modules.ensures.straight c.modules.ensures.modules c.index-modules-0.is in
    let suited = c.root_suits.ensures in
    subst (IsPlan m.items c.in_ok-start.start) (sym c.as_slice.ensures)
    (entry-plan c.least_plan_is_a_plan.ensures (record { place = suited.place; function = suited.function; copied = suited.copied; alone = suited.alone })
    m modules c.args.place c.args.args.now c.in_ok-start.start c.in_ok-cuts.cuts one.0 one.1 c.requires.entry c.in_ok-start.ensures c.in_ok-cuts.ensures.planned)
