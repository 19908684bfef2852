use Rattle.ir_paths.proofs.Sharing.{Shared}
use Rattle.ir_paths.proofs.batch.share_bits.Given as goal

abbrev pub invariant-loop-at : goal.invariant-loop-at
invariant-loop-at l = Shared l.far l.own l.used l.at
