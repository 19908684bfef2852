-- What the type of programs says of an instruction that the code needs.
use Rattle.std.specs.Prelude.{◌≡◌, ◌<◌, ◌*◌, ◌^◌, IsSome, List, ◌∷◌}
use Rattle.ir_types.specs.Layout.{size}
use Rattle.ir_syntax.specs.declared.body.Inst.{Inst}
use Rattle.ir_syntax.specs.declared.body.Inst.TheVariants.{Bin, Icmp, Select, Cast, Alloca, Load, Store, Gep, Call}
use Rattle.ir_syntax.specs.declared.symbol.Sym.{Sym}
use Rattle.ir_syntax.specs.Typed.{IsNarrow}
use Rattle.ir_syntax.specs.Programs.{ProgramData}
use Rattle.block_memory.specs.declared.value.Val.{Val}
use Rattle.block_memory.specs.declared.value.Val.TheVariants as val
use Rattle.ir_meaning.specs.Models.{FrameData, block_in, rest_of}

-- a block that an alloca makes is below 2^31 bytes, and so are the types that it and an address are written with
abbrev pub IsNarrowInst : Inst → Type 0
IsNarrowInst (Bin op flags ty a b) = Unit {0}
IsNarrowInst (Icmp pred ty a b) = Unit {0}
IsNarrowInst (Select ty cond a b) = Unit {0}
IsNarrowInst (Cast op nneg from to a) = Unit {0}
IsNarrowInst (Alloca ty count align) = IsNarrow ty × (size ty * count < 2 ^ 31)
IsNarrowInst (Load ty at align) = Unit {0}
IsNarrowInst (Store ty a at align) = Unit {0}
IsNarrowInst (Gep inbounds ty base indices) = IsNarrow ty
IsNarrowInst (Call fn_ty ret_ext callee args) = Unit {0}

abbrev pub IsNumber : Val Sym → Type 0
IsNumber (val.Num n) = Unit {0}
IsNumber val.Null = ⊥
IsNumber (val.At of offset) = ⊥
IsNumber val.Poison = ⊥

-- A call stands in a block of its body, and what the type of programs says holds of the instruction at hand.
pub record Stands (p : ProgramData) (f : FrameData) : Type 0 where
  pub within : IsSome (block_in p f.func f.block)
  pub narrow : (i : Inst) (behind : List Inst) → rest_of f.place (block_in p f.func f.block) ≡ i ∷ behind → IsNarrowInst i
