-- the indices made so far, and then those that are left, mapped, are all, mapped
use Rattle.std.proofs.Common.{◌≡◌, ◌++◌, map, drop}
use Rattle.ir_syntax.proofs.mapped.map_indices.Given as goal

abbrev pub invariant-loop-index : goal.invariant-loop-index
invariant-loop-index g l =
    l.made ++ map (λ index. (index.0, g.M.MapOperand.maps l.mapping index.1)) (drop l.index-index l.indices) ≡ map (λ index. (index.0, g.M.MapOperand.maps l.mapping index.1)) l.indices
