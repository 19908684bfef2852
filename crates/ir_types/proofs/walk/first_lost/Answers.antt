use Rattle.ir_types.proofs.Walks.{GoesOnFrom-more, IsFirstLost-here, goes_through}
use Rattle.ir_types.proofs.walk.first_lost.Goals as goal

pub returns-in-None : goal.returns-in-None
returns-in-None c = IsFirstLost-here c.args.ty.now c.loop-at.part.now c.args.indices.now c.loop-at.at _ c.loop-at-test.true c.in-None.ensures c.loop-at.invariant

pub loop-at-preserved : goal.loop-at-preserved
loop-at-preserved c = GoesOnFrom-more c.args.ty.now c.loop-at.part.now c.in-Some.inner.now c.args.indices.now c.loop-at.at _ c.loop-at-test.true c.in-Some.ensures c.loop-at.invariant

pub returns : goal.returns
returns c = goes_through c.args.ty.now c.loop-at.part.now c.args.indices.now c.loop-at.at c.loop-at-test.false c.loop-at.invariant
