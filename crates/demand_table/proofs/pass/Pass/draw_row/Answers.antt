use Rattle.std.proofs.Common.{arith, ap, refl, ◌∙◌, ◌<◌}
use Rattle.table_rule.specs.declared.view.View.{View}
use Rattle.demand_table.proofs.Tied.{ties_opened}
use Rattle.demand_table.proofs.Shown.{again, seen_is}
use Rattle.demand_table.proofs.pass.Pass.draw_row.Goals as goal

pub offset_bounds-self-inside-worker : goal.offset_bounds-self-inside-worker
offset_bounds-self-inside-worker c = let w = c.self.invariant.1.works in let lt : c.self.inside.worker < 64 = w.few c.self.inside.worker w.own in omega (arith, lt)

pub bounds-self-inside-worker : goal.bounds-self-inside-worker
bounds-self-inside-worker c = let w = c.self.invariant.1.works in w.few c.self.inside.worker w.own

pub invariant_of-self : goal.invariant_of-self
invariant_of-self c =
    let s = c.draw-number.ensures.same in
    let free = ap (λ (z : View). z.held) (seen_is _ _ _ c.self.view_is) ∙ c.requires.nothing in
    again _ _ _ _ _ _ _ _ s.0 s.1 c.self.invariant.0 (ties_opened _ _ _ _ _ c.self.invariant.1 _ c.draw-number.result c.self.inside.worker c.draw-number.ensures.number.0 free refl)
