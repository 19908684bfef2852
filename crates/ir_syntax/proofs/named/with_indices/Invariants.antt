-- the names so far, and then those that are left, are those before, and then all
use Rattle.std.proofs.Common.{◌≡◌, ◌++◌, drop, map}
use Rattle.std.specs.List.{flat_map}
use Rattle.ir_syntax.specs.Named.{operand_names}
use Rattle.ir_syntax.proofs.named.with_indices.Given as goal

abbrev pub invariant-loop-index : goal.invariant-loop-index
invariant-loop-index l = l.named ++ flat_map operand_names (map (λ index. index.1) (drop l.index-index l.indices)) ≡ l.fn.named ++ flat_map operand_names (map (λ index. index.1) l.indices)
