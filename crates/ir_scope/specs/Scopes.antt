-- What names stand for in a module: its types and its symbols.
use Rattle.std.specs.Prelude.{ℕ, Bool, false, nat_eq, bytes_eq, codes, List, [], ◌∷◌, map, Option, Some, None, if◌then◌else◌}
use Rattle.std.specs.List.{list_any}
use Rattle.ir_types.specs.declared.shape.Ty.{Ty}
use Rattle.name_table.specs.Places.{place_among}

-- the types of names, and the names of the items in their order
pub record Names : Type 0 where
  pub types : List (List ℕ × Ty)
  pub symbols : List (List ℕ)

-- What names stand for. The first of doubled names counts.
pub record Env : Type 0 where
  pub types : List ℕ → Option Ty
  pub symbols : List (List ℕ)

abbrev pub type_among : List (List ℕ × Ty) → List ℕ → Option Ty
type_among [] name = None
type_among (t ∷ ts) name = if bytes_eq name t.0 then Some t.1 else type_among ts name

abbrev pub env_of : Names → Env
env_of names = record { types = type_among names.types; symbols = names.symbols }

abbrev pub is_at : Option ℕ → ℕ → Bool
is_at None place = false
is_at (Some k) place = nat_eq k place

-- the intrinsics, which copy and fill memory
abbrev pub intrinsics : List (List ℕ)
intrinsics = codes "llvm.memcpy.p0.p0.i64" ∷ codes "llvm.memmove.p0.p0.i64" ∷ codes "llvm.memset.p0.i64" ∷ []

-- the item at this place has the name of an intrinsic
abbrev pub is_intrinsic_place : List (List ℕ) → ℕ → Bool
is_intrinsic_place symbols place = list_any (λ name. is_at (place_among name symbols) place) intrinsics
