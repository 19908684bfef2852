use Rattle.std.proofs.Common.{◌≡◌, ◌∙◌}
use Rattle.straight_plan.specs.Left.{left_items}
use Rattle.straight_leave.specs.Places.{place_in, rows_of}
use Rattle.straight_leave.specs.Rewritten.{new_items}
use Rattle.straight_leave.proofs.Plans.{plan_fits, places_short, rows_apart}
use Rattle.straight_leave.proofs.Renumbering.{items_are}
use Rattle.straight_leave.proofs.Same.{place_is}
use Rattle.straight_leave.proofs.leave.Goals as goal

pub rows_of-requires-clause-short : goal.rows_of-requires-clause-short
rows_of-requires-clause-short c = places_short c.args.plan.now (plan_fits c.args.m.now c.args.start.now c.args.plan.now c.requires.straight c.requires.plan)

pub rows_of-requires-clause-distinct : goal.rows_of-requires-clause-distinct
rows_of-requires-clause-distinct c =
    rows_apart c.rows_are_apart.ensures.rows c.demands_are_ordered.ensures.equal c.args.plan.now (plan_fits c.args.m.now c.args.start.now c.args.plan.now c.requires.straight c.requires.plan)
    c.requires.plan.ordered

pub returns : goal.returns
returns c =
    let m = c.args.m.now in
    let start = c.args.start.now in
    let plan = c.args.plan.now in
    let fit = plan_fits m start plan c.requires.straight c.requires.plan in
    let items : c.in_ok-items.items ≡ left_items m.items start plan =
    c.in_ok-items.ensures ∙ (λ i. new_items (c.as_slice.ensures i) (place_in (c.in_ok-rows.ensures i)) start plan)
    ∙ items_are m.items (place_in (rows_of plan)) start plan (λ ask. place_is c.rows_are_apart.ensures.rows plan ask fit) in
    λ i. record { layout = c.in_ok-copied.ensures i; triple = c.in_ok-copied-2.ensures i; items = items i }
