-- What a body of a function may be: what a text can write.
use Rattle.std.specs.Prelude.{◌≡◌, ◌≢◌, ℕ, zero, pos, ◌<◌, ◌≤◌, Bool, true, false, ◌||◌, List, [], ◌∷◌, Option, None, Some, All, IfSome, length, slice_get, codes, bytes_eq, IsTrue}
use Rattle.ir_types.specs.declared.scalar.Scalar.{Scalar}
use Rattle.ir_types.specs.declared.scalar.Scalar.TheVariants.{I1, Ptr}
use Rattle.ir_types.specs.declared.scalar.FnType.{FnType}
use Rattle.ir_types.specs.declared.scalar.BinOp.{BinOp}
use Rattle.ir_types.specs.declared.scalar.BinOp.TheVariants.{Add, Sub, Mul, Udiv, Sdiv, Shl, Lshr, Ashr, Or}
use Rattle.ir_types.specs.declared.scalar.Flags.{Flags}
use Rattle.ir_types.specs.declared.scalar.CastOp.TheVariants.{Zext}
use Rattle.ir_types.specs.declared.shape.Ty.TheBlock.{One}
use Rattle.ir_syntax.specs.declared.constant.Const.{Const, out-Const}
use Rattle.ir_syntax.specs.declared.constant.Const.TheBlock.{Int}
use Rattle.ir_syntax.specs.declared.constant.Const.TheOpen.{Const-F}
use Rattle.ir_syntax.specs.declared.constant.Operand.{Operand}
use Rattle.ir_syntax.specs.declared.constant.Operand.TheVariants as operand
use Rattle.ir_syntax.specs.declared.body.Inst.{Inst}
use Rattle.ir_syntax.specs.declared.body.Inst.TheVariants.{Bin, Icmp, Select, Cast, Alloca, Load, Store, Gep, Call}
use Rattle.ir_syntax.specs.declared.body.Term.{Term}
use Rattle.ir_syntax.specs.declared.body.Term.TheVariants.{RetVoid, Ret, Br, CondBr, Switch, Unreachable}
use Rattle.ir_syntax.specs.declared.body.Phi.{Phi}
use Rattle.ir_syntax.specs.declared.body.Arg.{Arg}
use Rattle.ir_syntax.specs.declared.body.Block.{Block}
use Rattle.ir_syntax.specs.declared.body.Body.{Body}
use Rattle.ir_syntax.specs.declared.item.Item.{Item}
use Rattle.ir_syntax.specs.declared.item.Item.TheVariants as item
use Rattle.ir_types.specs.Scalars.{is_number_of}
use Rattle.ir_syntax.specs.Suits.{IsType, Suits}
use Rattle.ir_syntax.specs.Results.{results, count}
pub use Rattle.ir_syntax.specs.Intrinsics.{is_intrinsic}

-- What a body may name: the items of its module, and so many parameters, results and blocks.
pub record Places : Type 0 where
  pub items : List Item
  pub params : ℕ
  pub results : ℕ
  pub blocks : ℕ

-- A parameter and a register are there, and a constant suits the type that is written for it.
abbrev pub IsOperand : Places → Scalar → Operand → Type 0
IsOperand places ty (operand.Param k) = k < places.params
IsOperand places ty (operand.Reg k) = k < places.results
IsOperand places ty (operand.Const constant) = Suits (length places.items) (One ty) constant

-- An alignment is a power of two from 1 to 2^32, kept as its exponent.
abbrev pub IsAlign : Option ℕ → Type 0
IsAlign align = IfSome align (λ exponent. exponent ≤ 32)

-- ---- flags

-- `nuw` and `nsw` stand at addition, subtraction, multiplication and shifts to the left,
abbrev pub may_wrap : BinOp → Bool
may_wrap Add = true
may_wrap Sub = true
may_wrap Mul = true
may_wrap Shl = true
may_wrap _ = false

-- `exact` at divisions and shifts to the right,
abbrev pub may_be_exact : BinOp → Bool
may_be_exact Udiv = true
may_be_exact Sdiv = true
may_be_exact Lshr = true
may_be_exact Ashr = true
may_be_exact _ = false

-- and `disjoint` at `or`.
abbrev pub may_be_disjoint : BinOp → Bool
may_be_disjoint Or = true
may_be_disjoint _ = false

-- An operation has no flag but its own.
pub record AllowsFlags (op : BinOp) (flags : Flags) : Type 0 where
  pub nuw : IsTrue flags.nuw → IsTrue (may_wrap op)
  pub nsw : IsTrue flags.nsw → IsTrue (may_wrap op)
  pub exact : IsTrue flags.exact → IsTrue (may_be_exact op)
  pub disjoint : IsTrue flags.disjoint → IsTrue (may_be_disjoint op)

-- ---- calls

abbrev pub item_name : Item → List ℕ
item_name (item.Var var) = var.name
item_name (item.Func func) = func.name

abbrev pub is_intrinsic_item : Option Item → Bool
is_intrinsic_item None = false
is_intrinsic_item (Some found) = is_intrinsic (item_name found)

abbrev pub is_intrinsic_address : List Item → Const-F Const → Bool
is_intrinsic_address items (Const-F.Addr at (pos zero)) = is_intrinsic_item (slice_get items at)
is_intrinsic_address items _ = false

-- The callee is written as the name of an intrinsic.
abbrev pub names_intrinsic : List Item → Operand → Bool
names_intrinsic items (operand.Param k) = false
names_intrinsic items (operand.Reg k) = false
names_intrinsic items (operand.Const constant) = is_intrinsic_address items (out-Const constant)

-- The last argument is the constant false of i1.
abbrev pub EndsInFalse : List Arg → Type 0
EndsInFalse [] = ⊥
EndsInFalse (arg ∷ []) = (arg.ty ≡ I1) × (arg.value ≡ operand.Const (Int 0))
EndsInFalse (arg ∷ next ∷ more) = EndsInFalse (next ∷ more)

pub record FormedCall (places : Places) (fn_ty : FnType) (callee : Operand) (args : List Arg) : Type 0 where
  -- the written type has at most 32 parameters
  pub few_params : length fn_ty.params ≤ 32
  -- and the call at most 32 arguments
  pub few_args : length args ≤ 32
  -- the callee is an operand of `ptr`
  pub has_callee : IsOperand places Ptr callee
  -- each argument is an operand of its type
  pub has_args : All (λ arg. IsOperand places arg.ty arg.value) args
  -- a copy or fill of memory isn't volatile
  pub not_volatile : IsTrue (names_intrinsic places.items callee) → EndsInFalse args

-- ---- instructions

-- An index is an operand of an integer type.
abbrev pub IsIndex : Places → Scalar × Operand → Type 0
IsIndex places index = (index.0 ≢ Ptr) × IsOperand places index.0 index.1

-- Operands have the types that are written for them: a condition is of i1, and an address of `ptr`.
abbrev pub FormedInst : Places → Inst → Type 0
FormedInst places (Bin op flags ty a b) = AllowsFlags op flags × IsOperand places ty a × IsOperand places ty b
FormedInst places (Icmp pred ty a b) = IsOperand places ty a × IsOperand places ty b
FormedInst places (Select ty cond a b) = IsOperand places I1 cond × IsOperand places ty a × IsOperand places ty b
FormedInst places (Cast op nneg from to a) = (IsTrue nneg → op ≡ Zext) × IsOperand places from a
FormedInst places (Alloca ty count align) = IsType ty × IsAlign align
FormedInst places (Load ty at align) = IsOperand places Ptr at × IsAlign align
FormedInst places (Store ty value at align) = IsOperand places ty value × IsOperand places Ptr at × IsAlign align
FormedInst places (Gep inbounds ty base indices) = IsType ty × IsOperand places Ptr base × All (IsIndex places) indices
FormedInst places (Call fn_ty ret_ext callee args) = FormedCall places fn_ty callee args

-- A phi has at least one entry: an operand of its type, and a block of the body.
pub record FormedPhi (places : Places) (phi : Phi) : Type 0 where
  pub has_entry : 0 < length phi.entries
  pub has_operands : All (λ entry. IsOperand places phi.ty entry.0) phi.entries
  pub has_blocks : All (λ entry. entry.1 < places.blocks) phi.entries

-- A terminator goes to blocks of the body. A case of a switch is a number of its type.
abbrev pub FormedTerm : Places → Term → Type 0
FormedTerm places RetVoid = Unit {0}
FormedTerm places (Ret ty value) = IsOperand places ty value
FormedTerm places (Br to) = to < places.blocks
FormedTerm places (CondBr cond one other) = IsOperand places I1 cond × (one < places.blocks) × (other < places.blocks)
FormedTerm places (Switch ty value default cases) =
    IsOperand places ty value × (default < places.blocks) × All (λ case. IsTrue (is_number_of ty case.0) × (case.1 < places.blocks)) cases
FormedTerm places Unreachable = Unit {0}

pub record FormedBlock (places : Places) (block : Block) : Type 0 where
  pub phis : All (FormedPhi places) block.phis
  pub insts : All (FormedInst places) block.insts
  pub term : FormedTerm places block.term

-- what a body of a function with so many parameters may name
abbrev pub places_of : List Item → ℕ → Body → Places
places_of items params body = record { items = items; params = params; results = length (results body); blocks = length body.blocks }

pub record FormedBody (items : List Item) (params : ℕ) (body : Body) : Type 0 where
  -- a body has 1 to 65,535 blocks
  pub has_block : 0 < length body.blocks
  pub few_blocks : length body.blocks ≤ 65535
  -- and at most 1,048,576 phis, instructions and terminators
  pub few_insts : count body ≤ 1048576
  -- what its blocks name is there, and suits
  pub has_blocks : All (FormedBlock (places_of items params body)) body.blocks
