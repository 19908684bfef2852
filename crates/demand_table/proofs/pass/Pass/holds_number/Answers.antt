use Rattle.std.proofs.Common.{arith}
use Rattle.demand_table.proofs.Held.{bare_none, bare_more, holds_one, holds_none, some_at, not_some_at}
use Rattle.demand_table.proofs.pass.Pass.holds_number.Goals as goal

pub loop-worker-init : goal.loop-worker-init
loop-worker-init c = bare_none _

pub returns-then-is_some : goal.returns-then-is_some
returns-then-is_some c =
    let lt = c.loop-worker-test.true in
    let wide = c.self.invariant.1.holds.wide in
    let s = some_at _ c.loop-worker.worker _ (omega (arith, lt, wide)) c.is_some.ensures c.if-is_some.true in
    holds_one _ _ _ _ _ _ c.self.view_is c.self.invariant.1 c.loop-worker.worker s.0 s.1

pub loop-worker-preserved : goal.loop-worker-preserved
loop-worker-preserved c =
    let lt = c.loop-worker-test.true in
    let wide = c.self.invariant.1.holds.wide in
    bare_more c.loop-worker.worker _ c.loop-worker.invariant (not_some_at _ c.loop-worker.worker _ (omega (arith, lt, wide)) c.is_some.ensures c.if-is_some.false)

pub returns : goal.returns
returns c = let le = c.loop-worker-test.false in holds_none _ _ _ _ _ _ c.self.view_is c.self.invariant.1 c.loop-worker.worker le c.loop-worker.invariant
