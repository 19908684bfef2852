-- Which constants a type takes, and which types a module may write.
use Rattle.std.specs.Prelude.{ℕ, ◌^◌, ◌≤◌, Bool, true, false, ◌&&◌, ◌==◌, nat_lt, List, [], ◌∷◌, length, IsTrue}
use Rattle.std.specs.List.{list_all}
use Rattle.ir_types.specs.declared.scalar.Scalar.{Scalar}
use Rattle.ir_types.specs.declared.scalar.Scalar.TheVariants.{I1, I8, I16, I32, I64, Ptr}
use Rattle.ir_types.specs.declared.shape.Ty.{Ty, out-Ty}
use Rattle.ir_types.specs.declared.shape.Ty.TheOpen.{Ty-F}
use Rattle.ir_types.specs.Nesting.{nesting, nodes}
pub use Rattle.ir_types.specs.Scalars.{is_number_of}
use Rattle.ir_syntax.specs.declared.constant.Const.{Const}
use Rattle.ir_syntax.specs.declared.constant.Const.TheOpen.{Const-F}
use Rattle.ir_syntax.specs.declared.constant.Const.TheFolds.{fold-Const}

-- A written type nests at most 64 deep and has at most 4,096 nodes.
pub record IsType (ty : Ty) : Type 0 where
  pub nests : nesting ty ≤ 64
  pub has_nodes : nodes ty ≤ 4096

abbrev pub is_pointer : Scalar → Bool
is_pointer Ptr = true
is_pointer _ = false

abbrev pub is_byte : Ty-F Ty → Bool
is_byte (Ty-F.One I8) = true
is_byte _ = false

-- an integer, at an integer type that has it
abbrev pub takes_number : Ty-F Ty → ℕ → Bool
takes_number (Ty-F.One scalar) n = is_number_of scalar n
takes_number (Ty-F.Array count element) n = false
takes_number (Ty-F.Struct fields) n = false

-- null, or the address of an item
abbrev pub takes_address : Ty-F Ty → Bool
takes_address (Ty-F.One scalar) = is_pointer scalar
takes_address (Ty-F.Array count element) = false
takes_address (Ty-F.Struct fields) = false

-- `zeroinitializer`: of a scalar it is a number or null instead
abbrev pub takes_zero : Ty-F Ty → Bool
takes_zero (Ty-F.One scalar) = false
takes_zero (Ty-F.Array count element) = true
takes_zero (Ty-F.Struct fields) = true

-- a text of n bytes, at n elements of i8
abbrev pub takes_text : Ty-F Ty → ℕ → Bool
takes_text (Ty-F.One scalar) n = false
takes_text (Ty-F.Array count element) n = is_byte (out-Ty element) && count == n
takes_text (Ty-F.Struct fields) n = false

-- as many parts as fields, each at its field's type
abbrev pub each_takes : List (Ty → Bool) → List Ty → Bool
each_takes [] [] = true
each_takes [] (ty ∷ tys) = false
each_takes (part ∷ parts) [] = false
each_takes (part ∷ parts) (ty ∷ tys) = part ty && each_takes parts tys

-- just as many parts as elements or fields
abbrev pub takes_parts : Ty-F Ty → List (Ty → Bool) → Bool
takes_parts (Ty-F.One scalar) parts = false
takes_parts (Ty-F.Array count element) parts = length parts == count && list_all (λ part. part element) parts
takes_parts (Ty-F.Struct fields) parts = each_takes parts fields

-- One constant, where each part says which types take it. `items` is the number of the module's items.
abbrev pub suits_step : ℕ → Const-F (Ty → Bool) → Ty → Bool
suits_step items (Const-F.Int n) ty = takes_number (out-Ty ty) n
suits_step items Const-F.Null ty = takes_address (out-Ty ty)
suits_step items (Const-F.Addr item offset) ty = takes_address (out-Ty ty) && nat_lt item items
suits_step items Const-F.Undef ty = true
suits_step items Const-F.Poison ty = true
suits_step items Const-F.Zero ty = takes_zero (out-Ty ty)
suits_step items (Const-F.Text bytes) ty = takes_text (out-Ty ty) (length bytes)
suits_step items (Const-F.Many parts) ty = takes_parts (out-Ty ty) parts

-- The type takes the constant, in a module of so many items.
unfoldable pub suits : ℕ → Const → Ty → Bool
suits items = fold-Const (Ty → Bool) (suits_step items)

abbrev pub Suits : ℕ → Ty → Const → Type 0
Suits items ty constant = IsTrue (suits items constant ty)
