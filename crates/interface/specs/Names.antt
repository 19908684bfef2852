-- The calls of functions by their names, and what else is named, in blocks.
use Rattle.std.specs.Prelude.{ℕ, ◌≤◌, List, ◌++◌, Option, None, Some, IsSome, length, drop, map, flat_map, option_map}
use Rattle.ir_types.specs.declared.scalar.Known.{Known}
use Rattle.ir_syntax.specs.declared.constant.Operand.{Operand}
use Rattle.ir_syntax.specs.declared.body.Inst.{Inst}
use Rattle.ir_syntax.specs.declared.body.Block.{Block}
use Rattle.ir_syntax.specs.Callees.{inst_callee}
use Rattle.ir_syntax.specs.Named.{operand_names, phi_names, term_names}
use Rattle.ir_syntax.specs.Operands.{operands}

-- the operands that are no written callee; the callee is a call's first operand
abbrev pub uses_beside : Option ℕ → List Operand → List Operand
uses_beside None all = all
uses_beside (Some place) all = drop 1 all

abbrev pub inst_uses : Inst → List Operand
inst_uses inst = uses_beside (inst_callee inst) (operands inst)

-- the place of the item that is called by its name, with what is known of each argument
abbrev pub call_of : (Operand → Known) → Inst → Option (ℕ × List Known)
call_of known inst = option_map (λ place. (place, map known (inst_uses inst))) (inst_callee inst)

-- the items that are named otherwise
abbrev pub inst_others : Inst → List ℕ
inst_others inst = flat_map operand_names (inst_uses inst)

abbrev pub block_others : Block → List ℕ
block_others block = flat_map phi_names block.phis ++ flat_map inst_others block.insts ++ term_names block.term

-- A call by a name has at most 32 arguments.
abbrev pub HasFewArgs : Inst → Type 0
HasFewArgs inst = IsSome (inst_callee inst) → length (inst_uses inst) ≤ 32
