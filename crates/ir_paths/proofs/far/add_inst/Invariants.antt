use Rattle.std.proofs.Common.{◌≡◌, ◌++◌, drop, flat_map}
use Rattle.ir_syntax.specs.Operands.{operands}
use Rattle.ir_paths.specs.FarUses.{operand_far}
use Rattle.ir_paths.proofs.far.add_inst.Given as goal

abbrev pub invariant-loop-k : goal.invariant-loop-k
invariant-loop-k l =
    l.far.items ++ flat_map (operand_far l.definers l.place l.until) (drop l.k (operands l.inst))
    ≡ l.fn.far.items ++ flat_map (operand_far l.definers l.place l.until) (operands l.inst)
