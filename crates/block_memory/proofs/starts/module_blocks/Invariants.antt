use Rattle.std.proofs.Common.{◌≡◌, drop}
use Rattle.block_memory.specs.Starts.{items_start}
use Rattle.block_memory.specs.Mirrors.Laying.{behind}
use Rattle.block_memory.proofs.starts.module_blocks.Given as goal

abbrev pub invariant-loop-item : goal.invariant-loop-item
invariant-loop-item l = behind l.row (items_start l.p l.home (drop l.item-index l.m.items)) ≡ items_start l.p l.home l.m.items
