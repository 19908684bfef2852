-- each block is counted as often as it stood so far
use Rattle.std.proofs.Common.{◌≡◌, ℕ, get_or, take}
use Rattle.ir_check.specs.Incoming.{times}
use Rattle.ir_check.proofs.phis.count_blocks.Given as goal

abbrev pub invariant-loop-block : goal.invariant-loop-block
invariant-loop-block l = (from : ℕ) → get_or l.counts from 0 ≡ times from (take l.block-index l.blocks)
