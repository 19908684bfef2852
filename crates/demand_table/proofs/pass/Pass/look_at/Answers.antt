use Rattle.std.proofs.Common.{arith, ◌+◌}
use Rattle.demand_table.proofs.Tied.{ties_empty, ties_named}
use Rattle.demand_table.proofs.Shown.{again, crowd_at}
use Rattle.demand_table.proofs.pass.Pass.look_at.Goals as goal

pub invariant_of-self : goal.invariant_of-self
invariant_of-self c =
    let s = c.look-found.ensures.same in
    again _ _ _ _ _ _ _ _ s.0 s.1 c.self.invariant.0 (ties_empty _ _ _ _ _ c.self.invariant.1 _ (c.args.slot + 1) (c.look-found.ensures.found.none c.if-found-eq0.true))

pub returns-then-found-eq0-clause-crowd : goal.returns-then-found-eq0-clause-crowd
returns-then-found-eq0-clause-crowd c = crowd_at _ _ _ _ _ _ c.self.view_is c.look-found.ensures.found

pub invariant_of-self-2 : goal.invariant_of-self-2
invariant_of-self-2 c =
    let s = c.look-found.ensures.same in
    let lt = c.requires.slot in
    let n = c.look-found.ensures.found.names c.if-found-eq0.false in
    again _ _ _ _ _ _ _ _ s.0 s.1 c.self.invariant.0 (ties_named _ _ _ _ _ c.self.invariant.1 _ (c.args.slot + 1) c.look-found.result n.0 c.if-found-eq0.false n.1 (omega arith) (omega (arith, lt)))

pub returns-clause-crowd : goal.returns-clause-crowd
returns-clause-crowd c = crowd_at _ _ _ _ _ _ c.self.view_is c.look-found.ensures.found
