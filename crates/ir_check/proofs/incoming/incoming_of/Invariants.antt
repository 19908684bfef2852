-- the edges of the blocks so far, and of those that are left, are all
use Rattle.std.proofs.Common.{◌≡◌, [], drop, length, replicate}
use Rattle.ir_check.specs.Incoming.{with_blocks}
use Rattle.ir_check.proofs.incoming.incoming_of.Given as goal

abbrev pub invariant-loop-from : goal.invariant-loop-from
invariant-loop-from l = with_blocks l.incoming l.from (drop l.from l.blocks) ≡ with_blocks (replicate (length l.blocks) []) 0 l.blocks
