-- Initial bytes written into a block.
use Rattle.std.specs.Prelude.{◌≡◌, ℕ, ◌+◌, ℤ, Bool, true, false, List, [], ◌++◌, length, map, flat_map, slice_get, Option, Some, None, option_map}
use Rattle.ir_types.specs.declared.shape.Ty.{Ty}
use Rattle.ir_types.specs.declared.shape.Ty.TheOpen.{Ty-F}
use Rattle.ir_syntax.specs.declared.constant.Const.{Const}
use Rattle.ir_syntax.specs.declared.item.Item.{Item}
use Rattle.ir_syntax.specs.declared.item.Module.{Module}
use Rattle.ir_syntax.specs.declared.symbol.Sym.{Sym}
use Rattle.ir_syntax.specs.InitialBytes.{InitialPart, fields_from, initial_parts}
use Rattle.ir_syntax.specs.Programs.{ProgramData}
use Rattle.block_memory.specs.declared.value.Name.{Name}
use Rattle.block_memory.specs.declared.value.Val.{Val}
use Rattle.block_memory.specs.declared.value.Val.TheVariants as val
use Rattle.block_memory.specs.declared.value.Part.{Part}
use Rattle.block_memory.specs.Starts.{named_parts}
use Rattle.block_memory.specs.Mirrors.Writing.{set_from}

-- Just from one offset up to another parts hold bytes that a module says, by the names of the program.
pub record IsLaid (p : ProgramData) (home : ℕ) (initial : List InitialPart) (at end : ℕ) (old new : List (Part Sym)) : Type 0 where
  pub bytes : List (Part Sym)
  pub named : named_parts p home initial ≡ Some bytes
  pub ends : at + length bytes ≡ end
  pub written : new ≡ set_from old at bytes

-- What was laid so far, followed by the rest, is the whole.
pub record IsLaidBefore (p : ProgramData) (home : ℕ) (whole rest : List InitialPart) (at end : ℕ) (old new : List (Part Sym)) : Type 0 where
  pub front : List InitialPart
  pub laid : IsLaid p home front at end old new
  pub makes : front ++ rest ≡ whole

-- the bytes of constants at one type, one after the other
abbrev pub elements : Ty → List Const → List InitialPart
elements element constants = flat_map (λ part. part element) (map initial_parts constants)

-- the bytes of constants at the types of fields, from an offset up to the end of their struct
abbrev pub fields_behind : ℕ → ℕ → List Const → List Ty → List InitialPart
fields_behind at end constants fields = fields_from at end (map initial_parts constants) fields

abbrev pub items_of : Option Module → List Item
items_of None = []
items_of (Some m) = m.items

-- the items of the module of a place
abbrev pub items_in : ProgramData → ℕ → List Item
items_in p home = items_of (slice_get p.modules home)

abbrev pub is_scalar : Ty-F Ty → Bool
is_scalar (Ty-F.One scalar) = true
is_scalar (Ty-F.Array count element) = false
is_scalar (Ty-F.Struct fields) = false

-- a block's name with an offset
abbrev pub address_at : ℤ → Name Sym → Val Sym
address_at offset of = val.At of offset

-- items behind those that stand there
abbrev pub behind : {A : Type 0} → List A → Option (List A) → Option (List A)
behind front rest = option_map (λ items. front ++ items) rest
