-- the names so far, and then those that are left, are those before, and then all
use Rattle.std.proofs.Common.{◌≡◌, ◌++◌, drop}
use Rattle.std.specs.List.{flat_map}
use Rattle.ir_syntax.specs.Named.{block_names}
use Rattle.ir_syntax.proofs.body.Body.add_names.Given as goal

abbrev pub invariant-loop-block : goal.invariant-loop-block
invariant-loop-block l = l.named ++ flat_map block_names (drop l.block-index l.block-items) ≡ l.fn.named ++ flat_map block_names l.block-items
