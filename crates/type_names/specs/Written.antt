-- What contracts see of named types, and which of them a module may have.
use Rattle.std.specs.Prelude.{ℕ, suc, Bool, List, [], ◌∷◌, map}
use Rattle.ir_grammar.specs.Tokens.{seen}
use Rattle.type_names.specs.declared.named.NamedType.{NamedType}
use Rattle.type_names.specs.TypeNames.{Named, is_type_entity}

abbrev pub named_of : NamedType → Named
named_of t = (t.name, seen t.written.now)

abbrev pub named : List NamedType → List Named
named types = map named_of types

-- the names, in their order
abbrev pub names_of : List Named → List (List ℕ)
names_of types = map (λ (t : Named). t.0) types

-- for each of these, from a place among the types on, whether it is the first of its name, and opaque or one that stands for a type
abbrev pub entities_from : List Named → ℕ → List Named → List Bool
entities_from types place [] = []
entities_from types place (t ∷ ts) = is_type_entity types place t ∷ entities_from types (suc place) ts

unfoldable pub type_entities : List Named → List Bool
type_entities types = entities_from types 0 types
