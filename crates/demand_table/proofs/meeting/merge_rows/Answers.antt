use Rattle.std.proofs.Common.{arith}
use Rattle.demand_table.proofs.Merging.{together_keep, together_take}
use Rattle.demand_table.proofs.Held.{none_test, some_test}
use Rattle.demand_table.proofs.meeting.merge_rows.Goals as goal

pub loop-worker-preserved-then-is_none : goal.loop-worker-preserved-then-is_none
loop-worker-preserved-then-is_none c =
    let lt = c.loop-worker-test.true in
    let wide = c.told-others in
    together_keep c.loop-worker.worker _ _ _ c.loop-worker.invariant (none_test _ c.loop-worker.worker _ (omega (arith, lt, wide)) c.is_none.ensures c.if-is_none.true)

pub loop-worker-preserved : goal.loop-worker-preserved
loop-worker-preserved c =
    let lt = c.loop-worker-test.true in
    let wide = c.told-others in
    let wide2 = c.told-rows in
    let s = some_test _ c.loop-worker.worker _ (omega (arith, lt, wide)) c.is_none.ensures c.if-is_none.false in
    together_take c.loop-worker.worker s.0 _ _ _ _ c.loop-worker.invariant s.1 s.2 (omega (arith, lt, wide2))
