-- How it becomes known what names stand for: a type that can be read is added, until none is.
use Rattle.std.specs.Prelude.{◌≡◌, ℕ, suc, ◌+◌, ◌≤◌, ◌<◌, Bool, true, false, ◌&&◌, is_some, is_none, List, [], ◌∷◌, ◌++◌, length, take, Option, Some, None, slice_get, if◌then◌else◌}
use Rattle.ir_types.specs.declared.shape.Ty.{Ty}
use Rattle.name_table.specs.Places.{place_among}
use Rattle.ir_grammar.specs.Tokens.{Kept}
use Rattle.ir_scope.specs.Scopes.{type_among, is_at}
use Rattle.ir_scope.specs.Types.{written_type}
use Rattle.type_names.specs.TypeNames.{Named, written_for, stands_in}
use Rattle.type_names.specs.Written.{names_of}

-- names with what they stand for
abbrev pub Known : Type 0
Known = List (List ℕ × Ty)

-- ---- one type is tried

abbrev pub with_read : Known → List ℕ → Option (Ty × ℕ) → Known
with_read known name None = known
with_read known name (Some found) = known ++ (name, found.0) ∷ []

-- what is known once a named type was tried: its name stands for the type that is written, if nothing was known of it and that can be read
abbrev pub tried : Known → Named → Known
tried known t = if is_some (type_among known t.0) then known else with_read known t.0 (written_type (type_among known) t.1)

-- whether something was added then
abbrev pub adds : Known → Named → Bool
adds known t = is_none (type_among known t.0) && is_some (written_type (type_among known) t.1)

abbrev pub tried_if : Known → Bool → Named → Known
tried_if known first t = if first then tried known t else known

abbrev pub adds_if : Known → Bool → Named → Bool
adds_if known first t = first && adds known t

abbrev pub is_first : List Named → ℕ → Named → Bool
is_first types place t = is_at (place_among t.0 (names_of types)) place

-- the same for the type of a place, if there is one, and it is the first of its name
abbrev pub tried_here : List Named → ℕ → Known → Option Named → Known
tried_here types place known None = known
tried_here types place known (Some t) = tried_if known (is_first types place t) t

abbrev pub tried_at : List Named → ℕ → Known → Known
tried_at types place known = tried_here types place known (slice_get types place)

abbrev pub adds_here : List Named → ℕ → Known → Option Named → Bool
adds_here types place known None = false
adds_here types place known (Some t) = adds_if known (is_first types place t) t

abbrev pub adds_at : List Named → ℕ → Known → Bool
adds_at types place known = adds_here types place known (slice_get types place)

-- ---- what is known

-- each answer of the first is one of the second
pub record IsMore {A B : Type 0} (less more : A → Option B) : Type 0 where
  pub kept : (a : A) (b : B) → less a ≡ Some b → more a ≡ Some b

-- how many of these are unknown
abbrev pub unknown : Known → List Named → ℕ
unknown known [] = 0
unknown known (t ∷ ts) = if is_none (type_among known t.0) then suc (unknown known ts) else unknown known ts

-- What is known stands in as many steps, and with those that are unknown there are no more than there are types.
pub record AreKnown (types : List Named) (known : Known) : Type 0 where
  pub stand : IsMore (type_among known) (stands_in types (length known))
  pub few : length known + unknown known types ≤ length types

-- What is written for the first of these of a name can't be read, if nothing is known of the name.
pub record IsClosed (ts : List Named) (known : Known) : Type 0 where
  pub none : (name : List ℕ) (ks : List Kept) → written_for ts name ≡ Some ks → type_among known name ≡ None → written_type (type_among known) ks ≡ None

-- What is known once the types up to a place were tried, and whether something was added.
pub record IsPassed (types : List Named) (before now : Known) (place : ℕ) (added : Bool) : Type 0 where
  pub known : AreKnown types now
  pub closed : added ≡ false → IsClosed (take place types) now
  pub fewer : unknown now types ≤ unknown before types
  pub less : added ≡ true → unknown now types < unknown before types
