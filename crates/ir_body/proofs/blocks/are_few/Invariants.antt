-- what is left, and the blocks that are left
use Rattle.std.proofs.Common.{◌≡◌, ◌≤◌, drop, sum, map, nat_le}
use Rattle.ir_syntax.specs.Results.{block_count}
use Rattle.ir_body.proofs.blocks.are_few.Given as goal

abbrev pub invariant-counting : goal.invariant-counting
invariant-counting l = record {
  left : nat_le (sum (map block_count (drop l.block-index l.blocks))) l.left ≡ nat_le (sum (map block_count l.blocks)) 1048576;
  small : l.left ≤ 1048576;
}
