use Rattle.std.proofs.lemmas.Bool.{false≢true}
use Rattle.ir_check.proofs.WalkLemmas.{enters_next, enters_none}
use Rattle.ir_check.proofs.walks.enters.Goals as goal

pub returns-in-None : goal.returns-in-None
returns-in-None c = (
  λ e. absurd (false≢true e),
  λ h. absurd (enters_none c.loop-index.part.now c.args.indices.now c.loop-index.index-index c.index-item.result c.loop-index-test.true c.index-item.is c.in-None.ensures (c.loop-index.invariant.1 h)),
)

pub loop-index-preserved : goal.loop-index-preserved
loop-index-preserved c =
    let next = enters_next c.loop-index.part.now c.in-Some.inner.now c.args.indices.now c.loop-index.index-index c.index-item.result c.loop-index-test.true c.index-item.is c.in-Some.ensures in
    (λ h. c.loop-index.invariant.0 (next.1 h), λ h. next.0 (c.loop-index.invariant.1 h))
