-- The uses of a body that the block in which they stand doesn't settle.
use Rattle.std.specs.Prelude.{ℕ, suc, ◌+◌, ◌==◌, nat_lt, Bool, true, ◌&&◌, List, [], ◌∷◌, ◌++◌, Option, None, Some, length, map, flat_map, slice_get, if◌then◌else◌}
use Rattle.ir_syntax.specs.declared.constant.Operand.{Operand}
use Rattle.ir_syntax.specs.declared.constant.Operand.TheVariants as operand
use Rattle.ir_syntax.specs.declared.body.Inst.{Inst}
use Rattle.ir_syntax.specs.declared.body.Term.{Term}
use Rattle.ir_syntax.specs.declared.body.Phi.{Phi}
use Rattle.ir_syntax.specs.declared.body.Block.{Block}
use Rattle.ir_syntax.specs.Results.{result_type, block_results}
use Rattle.ir_syntax.specs.Definite.{operands, term_operands, has_result}
use Rattle.ir_paths.specs.declared.far.Far.{Far}

-- for each result the block that defines it, where the first block stands at a place
abbrev pub definers_from : ℕ → List Block → List ℕ
definers_from place [] = []
definers_from place (block ∷ more) = map (λ ty. place) (block_results block) ++ definers_from (suc place) more

-- `before` says whether the result would come before the use if its own block defined it.
abbrev pub far_of : ℕ → Bool → Option ℕ → List Far
far_of place before None = []
far_of place before (Some definer) = if before && (definer == place) then [] else record { definer = definer; place = place } ∷ []

abbrev pub far_use : List ℕ → ℕ → Bool → ℕ → List Far
far_use definers place before register = far_of place before (slice_get definers register)

-- Results with numbers below `until` come before the operand.
abbrev pub operand_far : List ℕ → ℕ → ℕ → Operand → List Far
operand_far definers place until (operand.Param k) = []
operand_far definers place until (operand.Reg k) = far_use definers place (nat_lt k until) k
operand_far definers place until (operand.Const constant) = []

-- An operand of a phi stands at the end of a block, behind all its results.
abbrev pub end_far : List ℕ → ℕ → Operand → List Far
end_far definers place (operand.Param k) = []
end_far definers place (operand.Reg k) = far_use definers place true k
end_far definers place (operand.Const constant) = []

-- There are `count` blocks.
abbrev pub entry_far : List ℕ → ℕ → Operand × ℕ → List Far
entry_far definers count entry = if nat_lt entry.1 count then end_far definers entry.1 entry.0 else []

abbrev pub phi_far : List ℕ → ℕ → Phi → List Far
phi_far definers count phi = flat_map (entry_far definers count) phi.entries

abbrev pub insts_far : List ℕ → ℕ → ℕ → List Inst → Term → List Far
insts_far definers place until [] term = flat_map (operand_far definers place until) (term_operands term)
insts_far definers place until (i ∷ is) term = flat_map (operand_far definers place until) (operands i) ++ insts_far definers place (until + has_result (result_type i)) is term

-- The results of the block begin with the number `first`.
abbrev pub block_far : List ℕ → ℕ → ℕ → ℕ → Block → List Far
block_far definers count place first block = flat_map (phi_far definers count) block.phis ++ insts_far definers place (first + length block.phis) block.insts block.term

abbrev pub far_from : List ℕ → ℕ → ℕ → ℕ → List Block → List Far
far_from definers count place first [] = []
far_from definers count place first (block ∷ more) = block_far definers count place first block ++ far_from definers count (suc place) (first + length (block_results block)) more

abbrev pub far_uses : List Block → List Far
far_uses blocks = far_from (definers_from 0 blocks) (length blocks) 0 0 blocks
