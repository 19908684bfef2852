-- The residual body of a function: what folding leaves of it.
use Rattle.std.specs.Prelude.{◌==◌, ℕ, suc, ◌+◌, Bool, true, List, [], ◌∷◌, ◌++◌, Option, None, Some, length, map, count_by, if◌then◌else◌}
use Rattle.ir_types.specs.declared.scalar.Scalar.{Scalar}
use Rattle.ir_types.specs.declared.scalar.Known.{Known}
use Rattle.ir_types.specs.declared.scalar.Known.TheVariants.{Unknown, Num, Null}
use Rattle.ir_syntax.specs.declared.constant.Const.TheVariants as const
use Rattle.ir_syntax.specs.declared.constant.Operand.{Operand}
use Rattle.ir_syntax.specs.declared.constant.Operand.TheVariants as operand
use Rattle.ir_syntax.specs.declared.body.Inst.{Inst}
use Rattle.ir_syntax.specs.declared.body.Term.{Term}
use Rattle.ir_syntax.specs.declared.body.Term.TheVariants as term
use Rattle.ir_syntax.specs.declared.body.Phi.{Phi}
use Rattle.ir_syntax.specs.declared.body.Block.{Block}
use Rattle.ir_syntax.specs.declared.body.Body.{Body}
use Rattle.ir_syntax.specs.declared.item.Func.{Func}
use Rattle.ir_syntax.specs.Definite.{has_result}
use Rattle.ir_syntax.specs.Mapped.{map_operands}
use Rattle.ir_syntax.specs.Results.{result_type, block_results}
use Rattle.fold_facts.specs.Assigned.{Assigned}
use Rattle.fold_facts.specs.Places.{blocks_of}
use Rattle.interface.specs.Masks.{rank, is_chosen}
use Rattle.interface.specs.Summaries.{known_of}
use Rattle.specialise.specs.Leaving.{Leaving, leaving}

-- ---- operands

-- a known value as an operand
abbrev pub value_or : Operand → Known → Operand
value_or other Unknown = other
value_or other (Num n) = operand.Const (const.Int n)
value_or other Null = operand.Const const.Null

-- A use of a parameter or a result becomes its value, where that is known. Any other result that stays gets its new number.
abbrev pub left_operand : Leaving → Operand → Operand
left_operand w (operand.Param k) = value_or (operand.Param k) (known_of w.setting w.facts (operand.Param k))
left_operand w (operand.Reg k) = value_or (operand.Reg (rank w.kept k)) (known_of w.setting w.facts (operand.Reg k))
left_operand w (operand.Const constant) = operand.Const constant

-- ---- phis

-- The j-th entry for a block stands for the j-th edge from there. It stays where that edge is reached.
abbrev pub left_entry : Leaving → ℕ → ℕ → Operand × ℕ → List (Operand × ℕ)
left_entry w place j entry = if w.edge entry.1 place j then (left_operand w entry.0, rank w.reached entry.1) ∷ [] else []

-- what stays of entries, behind entries for these blocks
abbrev pub left_entries : Leaving → ℕ → List ℕ → List (Operand × ℕ) → List (Operand × ℕ)
left_entries w place before [] = []
left_entries w place before (entry ∷ more) = left_entry w place (count_by (λ other. other == entry.1) before) entry ++ left_entries w place (entry.1 ∷ before) more

abbrev pub left_phi : Leaving → ℕ → ℕ → Phi → List Phi
left_phi w place n phi = if is_chosen w.kept n then record { ty = phi.ty; entries = left_entries w place [] phi.entries } ∷ [] else []

-- of phis whose results have the numbers from n on, those whose results stay
abbrev pub left_phis : Leaving → ℕ → ℕ → List Phi → List Phi
left_phis w place n [] = []
left_phis w place n (phi ∷ more) = left_phi w place n phi ++ left_phis w place (suc n) more

-- ---- instructions

-- An instruction without a result stays, and another where its result does.
abbrev pub stays : Leaving → ℕ → Option Scalar → Bool
stays w n None = true
stays w n (Some ty) = is_chosen w.kept n

abbrev pub left_inst : Leaving → ℕ → Inst → List Inst
left_inst w n inst = if stays w n (result_type inst) then map_operands (left_operand w) inst ∷ [] else []

abbrev pub left_insts : Leaving → ℕ → List Inst → List Inst
left_insts w n [] = []
left_insts w n (inst ∷ more) = left_inst w n inst ++ left_insts w (n + has_result (result_type inst)) more

-- ---- terminators

abbrev pub number_in : Known → Option ℕ
number_in Unknown = None
number_in (Num n) = Some n
number_in Null = None

-- the block of the first case for a number, and else the default
abbrev pub case_block : ℕ → ℕ → List (ℕ × ℕ) → ℕ
case_block n default [] = default
case_block n default (case ∷ more) = if case.0 == n then case.1 else case_block n default more

-- A branch on a known number goes to the one block.
abbrev pub left_branch : Leaving → Option ℕ → Operand → ℕ → ℕ → Term
left_branch w None cond one other = term.CondBr (left_operand w cond) (rank w.reached one) (rank w.reached other)
left_branch w (Some n) cond one other = term.Br (rank w.reached (if n == 0 then other else one))

abbrev pub left_switch : Leaving → Option ℕ → Scalar → Operand → ℕ → List (ℕ × ℕ) → Term
left_switch w None ty value default cases = term.Switch ty (left_operand w value) (rank w.reached default) (map (λ case. (case.0, rank w.reached case.1)) cases)
left_switch w (Some n) ty value default cases = term.Br (rank w.reached (case_block n default cases))

abbrev pub left_term : Leaving → Term → Term
left_term w term.RetVoid = term.RetVoid
left_term w (term.Ret ty value) = term.Ret ty (left_operand w value)
left_term w (term.Br to) = term.Br (rank w.reached to)
left_term w (term.CondBr cond one other) = left_branch w (number_in (known_of w.setting w.facts cond)) cond one other
left_term w (term.Switch ty value default cases) = left_switch w (number_in (known_of w.setting w.facts value)) ty value default cases
left_term w term.Unreachable = term.Unreachable

-- ---- blocks

-- the block at a place, whose results have the numbers from `first` on, where it is reached
abbrev pub left_block : Leaving → ℕ → ℕ → Block → List Block
left_block w place first block =
    if is_chosen w.reached place
    then record { phis = left_phis w place first block.phis; insts = left_insts w (first + length block.phis) block.insts; term = left_term w block.term } ∷ []
    else []

abbrev pub left_blocks : Leaving → ℕ → ℕ → List Block → List Block
left_blocks w place first [] = []
left_blocks w place first (block ∷ more) = left_block w place first block ++ left_blocks w (suc place) (first + length (block_results block)) more

-- What is left of a function by an assignment, where this is known of its parameters. Parameters keep their numbers, and calls
-- their callees and arguments.
abbrev pub residual : List Known → Func → Assigned → Body
residual known func a = record { blocks = left_blocks (leaving known (blocks_of func) a) 0 0 (blocks_of func) }
