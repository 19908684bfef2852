-- Which modules are well typed.
use Rattle.std.specs.Prelude.{◌≡◌, ◌≢◌, ℕ, zero, ◌*◌, ◌^◌, ◌<◌, ◌==◌, pos, false, List, [], ◌∷◌, Option, None, Some, All, AllPairs, IsSome, IfSome, OnSome, IsTrue, length, map, take, flat_map, count_by, slice_get, codes, bytes_eq, if◌then◌else◌}
use Rattle.ir_types.specs.declared.scalar.Scalar.{Scalar}
use Rattle.ir_types.specs.declared.scalar.Scalar.TheVariants.{I1, I8, I16, I32, I64, Ptr}
use Rattle.ir_types.specs.declared.scalar.FnType.{FnType}
use Rattle.ir_types.specs.declared.scalar.CastOp.{CastOp}
use Rattle.ir_types.specs.declared.scalar.CastOp.TheVariants.{Zext, Sext, Trunc}
use Rattle.ir_types.specs.declared.shape.Ty.{Ty, out-Ty}
use Rattle.ir_types.specs.declared.shape.Ty.TheOpen.{Ty-F}
use Rattle.ir_types.specs.Layout.{size, extent}
use Rattle.ir_syntax.specs.declared.constant.Const.{Const, out-Const}
use Rattle.ir_syntax.specs.declared.constant.Const.TheOpen.{Const-F}
use Rattle.ir_syntax.specs.declared.constant.Const.TheFolds.{fold-Const}
use Rattle.ir_syntax.specs.declared.constant.Operand.{Operand}
use Rattle.ir_syntax.specs.declared.constant.Operand.TheVariants as operand
use Rattle.ir_syntax.specs.declared.body.Inst.{Inst}
use Rattle.ir_syntax.specs.declared.body.Inst.TheVariants.{Bin, Icmp, Select, Cast, Alloca, Load, Store, Gep, Call}
use Rattle.ir_syntax.specs.declared.body.Term.{Term}
use Rattle.ir_syntax.specs.declared.body.Term.TheVariants.{RetVoid, Ret, Br, CondBr, Switch, Unreachable}
use Rattle.ir_syntax.specs.declared.body.Phi.{Phi}
use Rattle.ir_syntax.specs.declared.body.Arg.{Arg}
use Rattle.ir_syntax.specs.declared.body.Block.{Block}
use Rattle.ir_syntax.specs.declared.item.Var.{Var}
use Rattle.ir_syntax.specs.declared.item.Func.{Func}
use Rattle.ir_syntax.specs.declared.item.Item.{Item}
use Rattle.ir_syntax.specs.declared.item.Item.TheVariants as item
use Rattle.ir_syntax.specs.declared.item.Module.{Module}
use Rattle.ir_syntax.specs.Edges.{edges}
use Rattle.ir_syntax.specs.FormedBody.{is_intrinsic_item}
use Rattle.ir_syntax.specs.Results.{results}
use Rattle.ir_syntax.specs.Intrinsics.{is_intrinsic}
use Rattle.ir_syntax.specs.Named.{names}
pub use Rattle.ir_types.specs.Scalars.{width, IsInteger}
pub use Rattle.ir_syntax.specs.Intrinsics.{intrinsic_type}
pub use Rattle.ir_syntax.specs.FunctionTypes.{type_of, function_type}
pub use Rattle.ir_syntax.specs.Callees.{written_callee}

-- ---- sizes

-- The type and each of its parts has a size below 2^31.
abbrev pub IsNarrow : Ty → Type 0
IsNarrow ty = (extent ty).widest < 2 ^ 31

-- ---- operands

-- What the operands of a body may be: its module's items, and the types of its parameters and results.
pub record Types : Type 0 where
  pub items : List Item
  pub params : List Scalar
  pub results : List Scalar

-- An intrinsic is named as a callee alone.
abbrev pub NamesNoIntrinsic : List Item → Const → Type 0
NamesNoIntrinsic items constant = All (λ place. is_intrinsic_item (slice_get items place) ≡ false) (names constant)

-- A parameter and a register have the type that is written for them.
abbrev pub HasType : Types → Scalar → Operand → Type 0
HasType types ty (operand.Param k) = slice_get types.params k ≡ Some ty
HasType types ty (operand.Reg k) = slice_get types.results k ≡ Some ty
HasType types ty (operand.Const constant) = NamesNoIntrinsic types.items constant

-- ---- casts

-- `zext` and `sext` go to a wider integer, `trunc` to a narrower one.
abbrev pub Widths : CastOp → Scalar → Scalar → Type 0
Widths Zext from to = width from < width to
Widths Sext from to = width from < width to
Widths Trunc from to = width to < width from

-- ---- walks into a type

abbrev pub number_in : Const-F Const → Option ℕ
number_in (Const-F.Int n) = Some n
number_in _ = None

-- the number that an index is, where it is one
abbrev pub number_of : Operand → Option ℕ
number_of (operand.Param k) = None
number_of (operand.Reg k) = None
number_of (operand.Const constant) = number_in (out-Const constant)

abbrev pub field_at : List Ty → Option ℕ → Option Ty
field_at fields None = None
field_at fields (Some k) = slice_get fields k

-- An index enters no scalar. It enters an array's element; a struct's field where it is a number of i32 in range.
-- `Rest` is asked of the part that it enters.
abbrev pub EntersIn : Ty-F Ty → Scalar × Operand → (Ty → Type 0) → Type 0
EntersIn (Ty-F.One scalar) index Rest = ⊥
EntersIn (Ty-F.Array count element) index Rest = Rest element
EntersIn (Ty-F.Struct fields) index Rest = (index.0 ≡ I32) × IsSome (field_at fields (number_of index.1)) × IfSome (field_at fields (number_of index.1)) Rest

abbrev pub Enters : Ty → List (Scalar × Operand) → Type 0
Enters ty [] = Unit {0}
Enters ty (index ∷ more) = EntersIn (out-Ty ty) index (λ part. Enters part more)

-- The first index steps over whole values of the type.
abbrev pub IsWalk : Ty → List (Scalar × Operand) → Type 0
IsWalk ty [] = Unit {0}
IsWalk ty (first ∷ more) = Enters ty more

-- ---- calls

-- A callee that is written as a name is a function of the written type; any other is a pointer.
abbrev pub CalleeSuits : Types → FnType → Operand → Option ℕ → Type 0
CalleeSuits types fn_ty callee None = HasType types Ptr callee
CalleeSuits types fn_ty callee (Some place) = function_type (slice_get types.items place) ≡ Some fn_ty

pub record TypedCall (types : Types) (fn_ty : FnType) (callee : Operand) (args : List Arg) : Type 0 where
  -- the fixed arguments have the written types
  pub fixed : map (λ arg. arg.ty) (take (length fn_ty.params) args) ≡ fn_ty.params
  -- more come only with `...`
  pub no_more : fn_ty.variadic ≡ false → length args ≡ length fn_ty.params
  pub has_args : All (λ arg. HasType types arg.ty arg.value) args
  pub has_callee : CalleeSuits types fn_ty callee (written_callee callee)

-- ---- instructions

abbrev pub TypedInst : Types → Inst → Type 0
TypedInst types (Bin op flags ty a b) = IsInteger ty × HasType types ty a × HasType types ty b
TypedInst types (Icmp pred ty a b) = HasType types ty a × HasType types ty b
TypedInst types (Select ty cond a b) = HasType types I1 cond × HasType types ty a × HasType types ty b
TypedInst types (Cast op nneg from to a) = IsInteger from × IsInteger to × Widths op from to × HasType types from a
TypedInst types (Alloca ty count align) = IsNarrow ty × (size ty * count < 2 ^ 31)
TypedInst types (Load ty at align) = HasType types Ptr at
TypedInst types (Store ty value at align) = HasType types ty value × HasType types Ptr at
TypedInst types (Gep inbounds ty base indices) = IsNarrow ty × HasType types Ptr base × All (λ index. HasType types index.0 index.1) indices × IsWalk ty indices
TypedInst types (Call fn_ty ret_ext callee args) = TypedCall types fn_ty callee args

-- `ret` has the function's return type, and the cases of a switch are distinct.
abbrev pub TypedTerm : Types → Option Scalar → Term → Type 0
TypedTerm types returns RetVoid = returns ≡ None
TypedTerm types returns (Ret ty value) = (returns ≡ Some ty) × HasType types ty value
TypedTerm types returns (Br to) = Unit {0}
TypedTerm types returns (CondBr cond one other) = HasType types I1 cond
TypedTerm types returns (Switch ty value default cases) = IsInteger ty × HasType types ty value × AllPairs (λ a b. a.0 ≢ b.0) cases
TypedTerm types returns Unreachable = Unit {0}

-- A phi of the block at a place.
pub record TypedPhi (types : Types) (blocks : List Block) (place : ℕ) (phi : Phi) : Type 0 where
  -- its entries name just the incoming edges of the block, each edge once
  pub edges : (from : ℕ) → count_by (λ entry. entry.1 == from) phi.entries ≡ edges blocks from place
  -- entries for one block are equal
  pub agree : AllPairs (λ a b. a.1 ≡ b.1 → a.0 ≡ b.0) phi.entries
  pub has_types : All (λ entry. HasType types phi.ty entry.0) phi.entries

pub record TypedBlock (types : Types) (returns : Option Scalar) (blocks : List Block) (place : ℕ) (block : Block) : Type 0 where
  pub phis : All (TypedPhi types blocks place) block.phis
  pub insts : All (TypedInst types) block.insts
  pub term : TypedTerm types returns block.term

pub record TypedBody (types : Types) (returns : Option Scalar) (blocks : List Block) : Type 0 where
  -- the first block has no incoming edge
  pub not_entered : (from : ℕ) → edges blocks from 0 ≡ 0
  pub each : (place : ℕ) → IfSome (slice_get blocks place) (TypedBlock types returns blocks place)

-- ---- items

pub record TypedFunc (items : List Item) (func : Func) : Type 0 where
  pub intrinsic : IsTrue (is_intrinsic func.name) → type_of func ≡ intrinsic_type func.name
  -- a definition isn't variadic
  pub fixed : OnSome func.body (func.variadic ≡ false)
  pub has_body : IfSome func.body (λ body. TypedBody (record { items = items; params = map (λ param. param.ty) func.params; results = results body }) func.returns body.blocks)

pub record TypedVar (items : List Item) (var : Var) : Type 0 where
  pub narrow : IsNarrow var.ty
  pub names : IfSome var.init (NamesNoIntrinsic items)

abbrev pub TypedItem : List Item → Item → Type 0
TypedItem items (item.Var var) = TypedVar items var
TypedItem items (item.Func func) = TypedFunc items func

-- Each item of the module is well typed among its items.
abbrev pub Typed : Module → Type 0
Typed m = All (TypedItem m.items) m.items
