-- What holds of each state that a program comes to.
use Rattle.std.proofs.Common.{◌≡◌, ◌⊎◌, ℕ, ◌+◌, ◌<◌, ◌≤◌, IsTrue, List, [], ◌∷◌, ◌++◌, length, All, Contains, IsSome, slice_get, Option, Some, None, option_and_then}
use Rattle.std.specs.List.{AllZip, filter_map}
use Rattle.ir_types.specs.declared.scalar.Scalar.{Scalar}
use Rattle.ir_types.specs.declared.scalar.Scalar.TheVariants.{Ptr}
use Rattle.ir_types.specs.Scalars.{is_number_of}
use Rattle.ir_syntax.specs.declared.symbol.Sym.{Sym}
use Rattle.ir_syntax.specs.declared.symbol.Target.{Target}
use Rattle.ir_syntax.specs.declared.symbol.Target.TheVariants as target
use Rattle.ir_syntax.specs.declared.body.Inst.{Inst}
use Rattle.ir_syntax.specs.declared.body.Inst.TheVariants.{Bin, Icmp, Select, Cast, Alloca, Load, Store, Gep, Call}
use Rattle.ir_syntax.specs.declared.body.Block.{Block}
use Rattle.ir_syntax.specs.declared.body.Body.{Body}
use Rattle.ir_syntax.specs.declared.item.Func.{Func}
use Rattle.ir_syntax.specs.declared.item.Item.{Item}
use Rattle.ir_syntax.specs.declared.item.Item.TheVariants as item
use Rattle.ir_syntax.specs.Results.{result_type, results}
use Rattle.ir_syntax.specs.Definite.{first_result, Defines, IsPath}
use Rattle.ir_syntax.specs.FunctionTypes.{type_of}
use Rattle.ir_syntax.specs.Builtins.{type_of_builtin}
use Rattle.ir_syntax.specs.Intrinsics.{type_of_intrinsic}
use Rattle.ir_syntax.specs.Programs.{ProgramData}
use Rattle.ir_syntax.specs.Symbols.{item_at}
use Rattle.ir_syntax.specs.Targets.{entry_at}
use Rattle.block_memory.specs.declared.value.Name.{Name}
use Rattle.block_memory.specs.declared.value.Name.TheVariants as name
use Rattle.block_memory.specs.declared.value.Val.{Val}
use Rattle.block_memory.specs.declared.value.Val.TheVariants as val
use Rattle.block_memory.specs.declared.value.Part.{Part}
use Rattle.block_memory.specs.declared.value.Part.TheVariants as part
use Rattle.block_memory.specs.Blocks.{LiveBlock, Live, MemoryData, var_at, block_at}
use Rattle.ir_steps.specs.States.{Frame, slot, StateData}
use Rattle.ir_steps.specs.Calls.{function_at}

-- there is one, and it is so
abbrev pub Has : {X : Type 0} → (X → Type 0) → Option X → Type 0
Has P None = ⊥
Has P (Some x) = P x

-- ---- names

-- a variable with an initialiser
abbrev pub IsDefinedVar : Option Item → Type 0
IsDefinedVar None = ⊥
IsDefinedVar (Some (item.Var var)) = IsSome var.init
IsDefinedVar (Some (item.Func func)) = ⊥

-- What a function stands for, by its canonical symbol.
abbrev pub Answers : Sym → Func → Target → Type 0
Answers symbol func (target.Def of) = (of ≡ symbol) × IsSome func.body
Answers symbol func target.Outside = Unit {0}
Answers symbol func (target.Builtin of) = type_of func ≡ type_of_builtin of
Answers symbol func (target.Intrinsic of) = type_of func ≡ type_of_intrinsic of
Answers symbol func target.Nothing = ⊥

-- a function that may be called
pub record IsCallable (p : ProgramData) (symbol : Sym) : Type 0 where
  pub func : Func
  pub is : item_at p.modules symbol ≡ Some (item.Func func)
  pub to : Target
  pub stands : entry_at p.targets symbol ≡ Some to
  pub answers : Answers symbol func to

-- The name is that of a block of a program that has made so many.
abbrev pub IsThere : ProgramData → ℕ → Name Sym → Type 0
IsThere p made (name.Var symbol) = IsDefinedVar (item_at p.modules symbol)
IsThere p made (name.Func symbol) = IsCallable p symbol
IsThere p made (name.Made number) = number < made

-- ---- values and memory

-- a value of the type, which names no other block
abbrev pub IsValue : ProgramData → ℕ → Scalar → Val Sym → Type 0
IsValue p made ty (val.Num n) = IsTrue (is_number_of ty n)
IsValue p made ty val.Null = ty ≡ Ptr
IsValue p made ty (val.At of offset) = (ty ≡ Ptr) × IsThere p made of
IsValue p made ty val.Poison = Unit {0}

abbrev pub IsPart : ProgramData → ℕ → Part Sym → Type 0
IsPart p made part.Poison = Unit {0}
IsPart p made (part.Num byte) = Unit {0}
IsPart p made (part.Of of offset k) = IsThere p made of

pub record MemoryFits (p : ProgramData) (mem : MemoryData) : Type 0 where
  -- each defined variable has a block
  pub vars : (symbol : Sym) → IsDefinedVar (item_at p.modules symbol) → IsSome (var_at mem symbol)
  -- and the bytes of blocks name blocks that are there
  pub parts : (of : Name Sym) (block : LiveBlock) → block_at mem of ≡ Some (Live block) → All (IsPart p (length mem.made)) block.parts

-- The memory fits, and as many blocks were made as in the other.
pub record StillFits (p : ProgramData) (before : MemoryData) (mem : MemoryData) : Type 0 where
  pub fits : MemoryFits p mem
  pub same_made : length mem.made ≡ length before.made

-- ---- frames

-- what is left of the frame's block is its tail
pub record AtPlace (blocks : List Block) (f : Frame) : Type 0 where
  pub block : Block
  pub at : slice_get blocks f.block ≡ Some block
  pub done : List Inst
  pub split : block.insts ≡ done ++ f.rest
  pub last : f.last ≡ block.term
  pub next : f.next ≡ first_result blocks f.block + (length block.phis + length (filter_map result_type done))

-- defined in a block that was visited before, or before this place in the frame's own
abbrev pub IsPassed : List Block → List ℕ → ℕ → ℕ → ℕ → Type 0
IsPassed blocks visited place next r = ((from : ℕ) × Contains visited from × Defines blocks from r) ⊎ ((first_result blocks place ≤ r) × (r < next))

-- a slot holds a value of its type
abbrev pub IsHeld : ProgramData → ℕ → Option Scalar → Option (Val Sym) → Type 0
IsHeld p made None o = ⊥
IsHeld p made (Some ty) None = ⊥
IsHeld p made (Some ty) (Some v) = IsValue p made ty v

pub record FrameFits (p : ProgramData) (made : ℕ) (f : Frame) : Type 0 where
  pub func : Func
  pub body : Body
  pub is : item_at p.modules f.func ≡ Some (item.Func func)
  pub has_body : func.body ≡ Some body
  pub place : AtPlace body.blocks f
  -- the blocks that the call has come through, last visited first
  pub visited : List ℕ
  pub path : IsPath body.blocks (f.block ∷ visited)
  pub set : (r : ℕ) → IsPassed body.blocks visited f.block f.next r → IsHeld p made (slice_get (results body) r) (slot f.results r)
  pub slots : length f.results ≡ length (results body)
  pub args : AllZip (λ param v. IsValue p made param.ty v) func.params f.args

-- the return type of the function that a symbol names
abbrev pub returns_at : ProgramData → Sym → Option Scalar
returns_at p symbol = option_and_then (λ func. func.returns) (function_at p symbol)

-- at the head is a call of a function with the return type
abbrev pub IsCalling : Option Scalar → List Inst → Type 0
IsCalling returns [] = ⊥
IsCalling returns (Bin op flags ty a b ∷ is) = ⊥
IsCalling returns (Icmp pred ty a b ∷ is) = ⊥
IsCalling returns (Select ty cond a b ∷ is) = ⊥
IsCalling returns (Cast op nneg from to a ∷ is) = ⊥
IsCalling returns (Alloca ty count align ∷ is) = ⊥
IsCalling returns (Load ty at align ∷ is) = ⊥
IsCalling returns (Store ty v at align ∷ is) = ⊥
IsCalling returns (Gep inbounds ty base indices ∷ is) = ⊥
IsCalling returns (Call fn_ty ret_ext callee args ∷ is) = fn_ty.returns ≡ returns

-- the frames that wait for a return of the type
abbrev pub Wait : ProgramData → ℕ → Option Scalar → List Frame → Type 0
Wait p made returns [] = Unit {0}
Wait p made returns (f ∷ fs) = FrameFits p made f × IsCalling returns f.rest × Wait p made (returns_at p f.func) fs

abbrev pub FramesFit : ProgramData → ℕ → List Frame → Type 0
FramesFit p made [] = Unit {0}
FramesFit p made (f ∷ fs) = FrameFits p made f × Wait p made (returns_at p f.func) fs

pub record StateFits (p : ProgramData) (s : StateData) : Type 0 where
  pub memory : MemoryFits p s.memory
  pub frames : FramesFit p (length s.memory.made) s.frames
