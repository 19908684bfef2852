-- What the named types of a module stand for.
use Rattle.std.specs.Prelude.{ℕ, zero, suc, Bool, true, false, ◌&&◌, ◌||◌, is_some, bytes_eq, List, [], ◌∷◌, length, map, drop, Option, Some, None, option_map, option_and_then, if◌then◌else◌}
use Rattle.std.specs.List.{filter_map}
use Rattle.ir_lexer.specs.Texts.{name_of}
use Rattle.ir_types.specs.declared.shape.Ty.{Ty}
use Rattle.name_table.specs.Places.{place_among}
use Rattle.ir_grammar.specs.declared.shape.Shape.TheVariants as is
use Rattle.ir_grammar.specs.Tokens.{Kept}
use Rattle.ir_scope.specs.Scopes.{is_at}
use Rattle.ir_scope.specs.Types.{written_type}
use Rattle.ir_types.specs.Names.{is_name}

-- a named type: its name, and what is written for it
abbrev pub Named : Type 0
Named = List ℕ × List Kept

-- %name = type T, or type opaque
abbrev pub named_type : List Kept → Option Named
named_type ((is.Local, text) ∷ ks) = Some (name_of (drop 1 text), ks)
named_type _ = None

-- the named types of entities, in their order
abbrev pub named_types : List (List Kept) → List Named
named_types entities = filter_map named_type entities

-- what is written for the first of these of a name
abbrev pub written_for : List Named → List ℕ → Option (List Kept)
written_for [] name = None
written_for (t ∷ ts) name = if bytes_eq name t.0 then Some t.1 else written_for ts name

-- what a name stands for, where names are followed through so many steps at most
abbrev pub stands_in : List Named → ℕ → List ℕ → Option Ty
stands_in types zero name = None
stands_in types (suc steps) name = option_and_then (λ ks. option_map (λ f. f.0) (written_type (stands_in types steps) ks)) (written_for types name)

-- What a name stands for. One that reaches itself stands for nothing, and neither does an opaque one; every other one
-- takes at most as many steps as there are named types.
unfoldable pub stands_for : List Named → List ℕ → Option Ty
stands_for types name = stands_in types (length types) name

abbrev pub is_opaque : List Kept → Bool
is_opaque ((is.Opaque, text) ∷ ks) = true
is_opaque _ = false

-- The named type of this place is the first of its name, and opaque or one that stands for a type.
abbrev pub is_type_entity : List Named → ℕ → Named → Bool
is_type_entity types place t =
    is_name t.0 && is_at (place_among t.0 (map (λ (n : Named). n.0) types)) place && (is_opaque t.1 || is_some (stands_for types t.0))
