use Rattle.std.proofs.Common.{sym}
use Rattle.call_cycles.proofs.Lists.{take_rest, popped}
use Rattle.call_cycles.proofs.search.cut.Goals as goal

pub loop-bound-preserved : goal.loop-bound-preserved
loop-bound-preserved c =
    take_rest c.args.bounds.now c.loop-bound.bounds c.pop.new.self c.args.place c.in-Some.bound c.loop-bound.invariant
    (popped c.loop-bound.bounds c.pop.new.self c.pop.result c.in-Some.bound c.pop.ensures (sym c.in-Some.ensures)) c.if-bound-place.false
