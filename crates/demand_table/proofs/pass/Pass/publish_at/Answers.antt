use Rattle.std.proofs.Common.{arith, ◌+◌, ◌<◌, ◌≤◌}
use Rattle.demand_table.proofs.Shown.{again}
use Rattle.demand_table.proofs.Publishing.{at_hand, slot_low, worker_low, publishes_ties, publishes_is, named_low, named_ties, named_is}
use Rattle.demand_table.proofs.pass.Pass.publish_at.Goals as goal

pub publish-found-requires-clause-ready : goal.publish-found-requires-clause-ready
publish-found-requires-clause-ready c = let r = c.requires.ready in let h = at_hand _ _ _ _ _ _ c.self.view_is c.self.invariant.1 c.args.row.worker c.args.row.number c.args.slot c.requires.ready in (c.args.row.worker, r.0, r.1, r.2, r.3, r.4, h.0, h.1, h.2, h.3)

pub offset_bounds-self-inside-row : goal.offset_bounds-self-inside-row
offset_bounds-self-inside-row c = let lt : c.args.row.worker < 64 = worker_low _ _ _ _ _ _ c.self.view_is c.self.invariant.1 c.args.row.worker c.args.row.number c.args.slot c.requires.ready in omega (arith, lt)

pub bounds-self-inside-row : goal.bounds-self-inside-row
bounds-self-inside-row c = worker_low _ _ _ _ _ _ c.self.view_is c.self.invariant.1 c.args.row.worker c.args.row.number c.args.slot c.requires.ready

pub overflow_add-slot : goal.overflow_add-slot
overflow_add-slot c = let le : c.args.slot + 1 ≤ 131072 = slot_low _ _ _ _ _ _ c.self.view_is c.self.invariant.1 c.args.row.worker c.args.row.number c.args.slot c.requires.ready in omega (arith, le)

pub overflow_cast-slot : goal.overflow_cast-slot
overflow_cast-slot c = let le : c.args.slot + 1 ≤ 131072 = slot_low _ _ _ _ _ _ c.self.view_is c.self.invariant.1 c.args.row.worker c.args.row.number c.args.slot c.requires.ready in omega (arith, le)

pub invariant_of-self : goal.invariant_of-self
invariant_of-self c =
    let s = c.publish-found.ensures.same in
    again _ _ _ _ _ _ _ _ s.0 s.1 c.self.invariant.0 (publishes_ties _ _ _ _ _ _ c.self.view_is c.self.invariant.1 c.args.row.worker c.args.row.number c.args.slot c.requires.ready _ c.publish-found.result c.publish-found.ensures.found c.if-found-eq0.true c.requires.row)

pub returns-then-found-eq0-clause-placed : goal.returns-then-found-eq0-clause-placed
returns-then-found-eq0-clause-placed c = publishes_is _ _ _ _ _ _ c.self.view_is c.self.invariant.1 c.args.row.worker c.args.row.number c.args.slot c.requires.ready _ c.publish-found.result c.publish-found.ensures.found c.if-found-eq0.true

pub overflow_add-slot-2 : goal.overflow_add-slot-2
overflow_add-slot-2 c = let le : c.args.slot + 1 ≤ 131072 = slot_low _ _ _ _ _ _ c.self.view_is c.self.invariant.1 c.args.row.worker c.args.row.number c.args.slot c.requires.ready in omega (arith, le)

pub overflow_cast-slot-2 : goal.overflow_cast-slot-2
overflow_cast-slot-2 c = let le : c.args.slot + 1 ≤ 131072 = slot_low _ _ _ _ _ _ c.self.view_is c.self.invariant.1 c.args.row.worker c.args.row.number c.args.slot c.requires.ready in omega (arith, le)

pub index_mut-requires-2 : goal.index_mut-requires-2
index_mut-requires-2 c = let h = named_low _ _ _ _ _ _ c.self.view_is c.self.invariant.1 c.args.row.worker c.args.row.number c.args.slot c.requires.ready _ c.publish-found.result c.publish-found.ensures.found c.if-found-eq0.false in let ok = c.self.inside.found.ok.0 in omega (arith, h, ok)

pub invariant_of-self-2 : goal.invariant_of-self-2
invariant_of-self-2 c =
    let s = c.publish-found.ensures.same in
    again _ _ _ _ _ _ _ _ s.0 s.1 c.self.invariant.0 (named_ties _ _ _ _ _ _ c.self.view_is c.self.invariant.1 c.args.row.worker c.args.row.number c.args.slot c.requires.ready _ c.publish-found.result c.publish-found.ensures.found c.if-found-eq0.false)

pub returns-clause-named : goal.returns-clause-named
returns-clause-named c = named_is _ _ _ _ _ _ c.self.view_is c.self.invariant.1 c.args.row.worker c.args.row.number c.args.slot c.requires.ready _ c.publish-found.result c.publish-found.ensures.found c.if-found-eq0.false
