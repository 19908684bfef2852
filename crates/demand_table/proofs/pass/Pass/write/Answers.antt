use Rattle.std.proofs.Common.{sym, subst}
use Rattle.table_rule.specs.declared.view.View.{View}
use Rattle.table_rule.specs.Layout.{Has}
use Rattle.demand_table.proofs.Tied.{ties_writes}
use Rattle.demand_table.proofs.Shown.{again, seen_is, row_in}
use Rattle.demand_table.proofs.pass.Pass.write.Goals as goal

pub store-requires-clause-row : goal.store-requires-clause-row
store-requires-clause-row c =
    let e = sym (seen_is _ _ _ c.self.view_is) in (
      row_in _ _ _ _ _ _ c.self.view_is c.table.view_is c.requires.belongs c.table.invariant.0 _ _ _ c.self.invariant.1 c.args.row.number c.requires.row.0,
      (c.args.row.worker, c.requires.row.1.0, subst (λ (z : View). Has z.held (c.args.row.worker, (c.args.row.number, c.requires.row.1.0))) e c.requires.row.1.1),
    )

pub invariant_of-self : goal.invariant_of-self
invariant_of-self c =
    let s = c.store.ensures.same in
    again _ _ _ _ _ _ _ _ s.0 s.1 c.self.invariant.0 (ties_writes _ _ _ _ _ c.self.invariant.1 _ c.args.row.number c.args.word c.args.value c.store.ensures.stored)

pub returns-clause-long : goal.returns-clause-long
returns-clause-long c ws h =
    let e = sym (seen_is _ _ _ c.self.view_is) in
    (c.self.invariant.1.holds.all c.args.row.worker c.args.row.number ws (subst (λ (z : View). Has z.held (c.args.row.worker, (c.args.row.number, ws))) e h)).1
