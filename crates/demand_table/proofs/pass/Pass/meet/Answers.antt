use Rattle.std.proofs.Common.{sym, subst, ◌∙◌}
use Rattle.atomic_table.specs.Seated.{TableId}
use Rattle.table_rule.specs.declared.view.View.{View}
use Rattle.table_rule.specs.Tells.{KnowsRow}
use Rattle.demand_table.specs.Passes.{IsClaimed}
use Rattle.demand_table.specs.Ties.{Ties}
use Rattle.demand_table.proofs.Shown.{seen_is}
use Rattle.demand_table.proofs.Merging.{ties_met, one_row, claimed_once, one_table, met_invariant, merged_as, sane_as}
use Rattle.demand_table.proofs.pass.Pass.meet.Goals as goal

pub invariant_of-result : goal.invariant_of-result
invariant_of-result c =
    let v = c.self.inside.seat.me.0 in
    let w = c.other.inside.seat.me.0 in
    let sane = sane_as _ _ _ c.join.ensures.both c.recall.ensures.sane in
    let one = one_table _ _ _ _ _ _ _ c.self.view_is c.other.view_is c.requires.belongs.0 c.requires.belongs.1 in
    let j = subst (λ (z : TableId). Ties z w c.other.inside.found.items c.other.inside.open_rows c.other.inside.worker) one c.other.invariant.1 in
    met_invariant _ _ _ _ _ _ _ _ _ (c.recall.ensures.same.0 ∙ c.join.ensures.same) (c.recall.ensures.same.1 ∙ c.join.ensures.both) c.self.invariant.0 c.lesser.ensures
    (ties_met _ v w _ _ _ _ _ _ _ _ c.self.invariant.1 j sane (merged_as _ _ _ _ c.as_slice.ensures.value c.merge_slots.ensures.merged) c.merge_rows.ensures.together)

pub returns-clause-one_row : goal.returns-clause-one_row
returns-clause-one_row c ticket row other_row a b =
    let sane = sane_as _ _ _ c.join.ensures.both c.recall.ensures.sane in
    one_row c.self.inside.seat.me.0 c.other.inside.seat.me.0 sane ticket row other_row
    (subst (λ (z : View). KnowsRow z ticket row) (sym (seen_is _ _ _ c.self.view_is)) a) (subst (λ (z : View). KnowsRow z ticket other_row) (sym (seen_is _ _ _ c.other.view_is)) b)

pub returns-clause-claimed_once : goal.returns-clause-claimed_once
returns-clause-claimed_once c ticket a b =
    let sane = sane_as _ _ _ c.join.ensures.both c.recall.ensures.sane in
    claimed_once c.self.inside.seat.me.0 c.other.inside.seat.me.0 sane ticket
    (subst (λ (z : View). IsClaimed z ticket) (sym (seen_is _ _ _ c.self.view_is)) a) (subst (λ (z : View). IsClaimed z ticket) (sym (seen_is _ _ _ c.other.view_is)) b)
