use Rattle.std.proofs.Common.{arith}
use Rattle.demand_table.proofs.Held.{past_none, past_skip, past_more, ready_at, all_past, row_at, none_at}
use Rattle.demand_table.proofs.pass.Pass.ready_row.Goals as goal

pub loop-worker-init : goal.loop-worker-init
loop-worker-init c = past_none _ _

pub loop-worker-preserved-in_default : goal.loop-worker-preserved-in_default
loop-worker-preserved-in_default c =
    let lt = c.loop-worker-test.true in
    let wide = c.self.invariant.1.holds.wide in
    past_skip _ c.loop-worker.worker _ c.loop-worker.invariant (none_at _ c.loop-worker.worker (omega (arith, lt, wide)) c.in_default.not-Some)

pub returns-then-number-rows-clause-some : goal.returns-then-number-rows-clause-some
returns-then-number-rows-clause-some c =
    let lt = c.loop-worker-test.true in
    let wide = c.self.invariant.1.holds.wide in
    let e = c.len-rows.ensures in
    let ok = c.self.inside.found.ok.0 in
    ready_at _ _ _ _ _ _ c.self.view_is c.self.invariant.1 c.loop-worker.worker c.in-Some.number c.len-rows.result (row_at _ c.loop-worker.worker _ (omega (arith, lt, wide)) c.in-Some.is) c.if-number-rows.true (omega (arith, e, ok))

pub loop-worker-preserved : goal.loop-worker-preserved
loop-worker-preserved c =
    let lt = c.loop-worker-test.true in
    let wide = c.self.invariant.1.holds.wide in
    past_more _ c.loop-worker.worker c.in-Some.number _ c.loop-worker.invariant (row_at _ c.loop-worker.worker _ (omega (arith, lt, wide)) c.in-Some.is) c.if-number-rows.false

pub returns-clause-none : goal.returns-clause-none
returns-clause-none c =
    let e = c.len-rows.ensures in
    let ok = c.self.inside.found.ok.0 in
    all_past _ _ _ _ _ _ c.self.view_is c.self.invariant.1 c.loop-worker.worker c.len-rows.result c.loop-worker-test.false (omega (arith, e, ok)) c.loop-worker.invariant
