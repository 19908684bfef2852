-- The bytes that a variable begins with: its initialiser laid out in memory (LLVM Language Reference Manual, "Global Variables",
-- "Simple Constants", "Complex Constants", "Undefined Values", "Poison Values"). The order of bytes is little-endian.
use Rattle.std.specs.Prelude.{ℕ, zero, suc, ◌+◌, ◌-◌, ◌/◌, ◌%◌, ℤ, List, [], ◌∷◌, ◌++◌, map, replicate, flat_map, Option, option_map}
use Rattle.ir_types.specs.declared.shape.Ty.{Ty, out-Ty}
use Rattle.ir_types.specs.declared.shape.Ty.TheOpen.{Ty-F}
use Rattle.ir_types.specs.Layout.{size, align, round_up}
use Rattle.ir_syntax.specs.declared.constant.Const.{Const}
use Rattle.ir_syntax.specs.declared.constant.Const.TheOpen.{Const-F}
use Rattle.ir_syntax.specs.declared.constant.Const.TheFolds.{fold-Const}
use Rattle.ir_syntax.specs.declared.item.Var.{Var}

-- One byte, as a module says it: poison, a number, or one of the eight bytes of an item's address plus an offset. The item is named by
-- its place in the module, since what symbol it stands for is a matter of the whole program.
pub data InitialPart : Type 0 where
  Poison : InitialPart
  Num : (byte : ℕ) → InitialPart
  Of : (item : ℕ) → (offset : ℤ) → (k : ℕ) → InitialPart

-- so many bytes of a number, the lowest first
abbrev pub little_endian : ℕ → ℕ → List ℕ
little_endian zero n = []
little_endian (suc count) n = n % 256 ∷ little_endian count (n / 256)

-- the numbers of an address's bytes
abbrev pub address_bytes : List ℕ
address_bytes = 0 ∷ 1 ∷ 2 ∷ 3 ∷ 4 ∷ 5 ∷ 6 ∷ 7 ∷ []

abbrev pub zeros : ℕ → List InitialPart
zeros count = replicate count (Num 0)

-- The fields of a struct from an offset on, each behind zeros up to the next multiple of its alignment, and zeros up to the struct's end.
abbrev pub fields_from : ℕ → ℕ → List (Ty → List InitialPart) → List Ty → List InitialPart
fields_from at end [] fields = zeros (end - at)
fields_from at end (part ∷ parts) [] = zeros (end - at)
fields_from at end (part ∷ parts) (field ∷ fields) =
    zeros (round_up at (align field) - at) ++ (part field ++ fields_from (round_up at (align field) + size field) end parts fields)

-- The elements of an array stand one after the other.
abbrev pub parts_in : Ty → Ty-F Ty → List (Ty → List InitialPart) → List InitialPart
parts_in ty (Ty-F.One scalar) parts = []
parts_in ty (Ty-F.Array count element) parts = flat_map (λ part. part element) parts
parts_in ty (Ty-F.Struct fields) parts = fields_from 0 (size ty) parts fields

-- One constant, where each part says what it lays down at a type.
abbrev pub initial_step : Const-F (Ty → List InitialPart) → Ty → List InitialPart
initial_step (Const-F.Int n) ty = map Num (little_endian (size ty) n)
initial_step Const-F.Null ty = zeros (size ty)
initial_step (Const-F.Addr item offset) ty = map (Of item offset) address_bytes
initial_step Const-F.Undef ty = replicate (size ty) Poison
initial_step Const-F.Poison ty = replicate (size ty) Poison
initial_step Const-F.Zero ty = zeros (size ty)
initial_step (Const-F.Text bytes) ty = map Num bytes
initial_step (Const-F.Many parts) ty = parts_in ty (out-Ty ty) parts

-- the bytes of a constant at a type that takes it
unfoldable pub initial_parts : Const → Ty → List InitialPart
initial_parts = fold-Const (Ty → List InitialPart) initial_step

-- those of a variable; a declaration has none
abbrev pub initial_bytes : Var → Option (List InitialPart)
initial_bytes var = option_map (λ init. initial_parts init var.ty) var.init
