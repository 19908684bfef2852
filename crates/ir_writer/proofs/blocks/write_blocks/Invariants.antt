-- the text so far, and then that of the blocks that are left, is the text of all
use Rattle.std.proofs.Common.{◌≡◌, ◌+◌, ◌≤◌, ◌++◌, sum, map, drop}
use Rattle.ir_lexer.specs.Written.{bytes_of}
use Rattle.ir_syntax.specs.Results.{block_count}
use Rattle.ir_syntax.specs.FormedBody.{item_name}
use Rattle.ir_writer.specs.Instructions.{blocks_parts}
use Rattle.ir_writer.proofs.blocks.write_blocks.Given as goal

abbrev pub invariant-loop-place : goal.invariant-loop-place
invariant-loop-place l = record {
  few : l.number + sum (map block_count (drop l.place l.blocks)) ≤ 1048576;
  text : l.out ++ bytes_of (blocks_parts (map item_name l.items) l.place l.number (drop l.place l.blocks)) ≡ l.initial.out ++ bytes_of (blocks_parts (map item_name l.items) 0 0 l.blocks);
}
