use Rattle.std.proofs.Common.{length}
use Rattle.ir_paths.proofs.Passing.{Asks}
use Rattle.ir_paths.proofs.batch.all_passed.Given as goal

abbrev pub invariant-loop-rest : goal.invariant-loop-rest
invariant-loop-rest l = Asks l.blocks l.fn.far.items l.rest

abbrev pub decreases-loop-rest : goal.decreases-loop-rest
decreases-loop-rest l = length l.rest
