-- The results of a body, and how many instructions it has.
use Rattle.std.specs.Prelude.{ℕ, ◌+◌, List, ◌++◌, Option, None, Some, length, map, sum}
use Rattle.std.specs.List.{filter_map, flat_map}
use Rattle.ir_types.specs.declared.scalar.Scalar.{Scalar}
use Rattle.ir_types.specs.declared.scalar.Scalar.TheVariants.{I1, Ptr}
use Rattle.ir_syntax.specs.declared.body.Inst.{Inst}
use Rattle.ir_syntax.specs.declared.body.Inst.TheVariants.{Bin, Icmp, Select, Cast, Alloca, Load, Store, Gep, Call}
use Rattle.ir_syntax.specs.declared.body.Block.{Block}
use Rattle.ir_syntax.specs.declared.body.Body.{Body}

-- the type of an instruction's result: a store has none, and a call of a function that returns nothing
abbrev pub result_type : Inst → Option Scalar
result_type (Bin op flags ty a b) = Some ty
result_type (Icmp pred ty a b) = Some I1
result_type (Select ty cond a b) = Some ty
result_type (Cast op nneg from to a) = Some to
result_type (Alloca ty count align) = Some Ptr
result_type (Load ty at align) = Some ty
result_type (Store ty value at align) = None
result_type (Gep inbounds ty base indices) = Some Ptr
result_type (Call fn_ty ret_ext callee args) = fn_ty.returns

-- the types of a block's results, in the order of the text
abbrev pub block_results : Block → List Scalar
block_results block = map (λ phi. phi.ty) block.phis ++ filter_map result_type block.insts

-- the types of a body's results: the k-th is that of register k
abbrev pub results : Body → List Scalar
results body = flat_map block_results body.blocks

-- how many phis, instructions and terminators a block has: one terminator
abbrev pub block_count : Block → ℕ
block_count block = length block.phis + length block.insts + 1

-- and a body
abbrev pub count : Body → ℕ
count body = sum (map block_count body.blocks)
