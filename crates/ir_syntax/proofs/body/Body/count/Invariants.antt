-- the count so far, and that of the blocks that are left, is that of all
use Rattle.std.proofs.Common.{◌≡◌, ◌+◌, ◌-◌, ◌^◌, ◌<◌, min, drop, map, sum}
use Rattle.ir_syntax.specs.Results.{block_count, count}
use Rattle.ir_syntax.proofs.body.Body.count.Given as goal

abbrev pub invariant-loop-block : goal.invariant-loop-block
invariant-loop-block l = record {
  all : min (l.count + sum (map block_count (drop l.block-index l.block-items))) (2 ^ 64 - 1) ≡ min (count l.self) (2 ^ 64 - 1);
  fits : l.count < 2 ^ 64;
}
