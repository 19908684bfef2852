use Rattle.std.proofs.Common.{arith, refl}
use Rattle.ir_paths.specs.declared.far.Far.{Far}
use Rattle.ir_paths.proofs.Sharing.{shared_had, shared_new}
use Rattle.ir_paths.proofs.batch.share_bits.Goals as goal
use Rattle.ir_paths.proofs.batch.share_bits.Goals.{then-own-asked-eq0+else-used-eq64, else-own-asked-eq0}

pub loop-at-preserved : goal.loop-at-preserved
loop-at-preserved c =
    let x : Far = record { definer = 0; place = 0 } in
    elim c.if-own-asked-eq0.branch [
      | then-own-asked-eq0+else-used-eq64 w ↦
          shared_new c.args.far.now c.loop-at.own c.if-own-asked-eq0.own c.loop-at.used c.if-own-asked-eq0.used c.loop-at.at _ x c.loop-at.invariant w.own-is w.used-is c.loop-at-test.true refl
          (omega (arith, c.loop-at.auto.own, c.requires.within c.loop-at.at x c.loop-at-test.true)) w.if-used-eq64.false
      | else-own-asked-eq0 w ↦
          shared_had c.args.far.now c.loop-at.own c.if-own-asked-eq0.own c.loop-at.used c.if-own-asked-eq0.used c.loop-at.at x c.loop-at.invariant w.own-is w.used-is c.loop-at-test.true w.if-own-asked-eq0.false
    ]
