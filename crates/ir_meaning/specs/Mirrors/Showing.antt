-- Addresses in blocks with bytes, as they are shown.
use Rattle.std.specs.Prelude.{◌≡◌, ℕ, List}
use Rattle.ir_types.specs.declared.scalar.FnType.{FnType}
use Rattle.ir_syntax.specs.declared.symbol.Sym.{Sym}
use Rattle.block_memory.specs.declared.value.Name.{Name}
use Rattle.block_memory.specs.declared.value.Name.TheVariants as name
use Rattle.block_memory.specs.declared.value.Val.{Val}
use Rattle.block_memory.specs.declared.value.Val.TheVariants as val
use Rattle.ir_steps.specs.declared.session.Shown.{Shown}
use Rattle.ir_steps.specs.declared.session.Wanted.{Wanted}

-- the value is an address in the block of the name, which is no function's
abbrev pub IsInto : Val Sym → Name Sym → Type 0
IsInto (val.Num n) of = ⊥
IsInto val.Null of = ⊥
IsInto (val.At (name.Var symbol) offset) of = of ≡ name.Var symbol
IsInto (val.At (name.Func symbol) offset) of = ⊥
IsInto (val.At (name.Made number) offset) of = of ≡ name.Made number
IsInto val.Poison of = ⊥

abbrev pub wanting : List ℕ → FnType → List Shown → Wanted
wanting called fn_ty shown = record { name = called; fn_ty = fn_ty; args = shown }
