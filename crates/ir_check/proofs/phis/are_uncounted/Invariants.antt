-- no block so far is counted
use Rattle.std.proofs.Common.{◌≡◌, get_or, take}
use Rattle.std.specs.Prelude.{All}
use Rattle.ir_check.proofs.phis.are_uncounted.Given as goal

abbrev pub invariant-loop-block : goal.invariant-loop-block
invariant-loop-block l = All (λ block. get_or l.counts block 0 ≡ 0) (take l.block-index l.blocks)
