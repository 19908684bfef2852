-- Which types a module may have, in order.
use Rattle.std.proofs.Common.{◌≡◌, ◌∙◌, ℕ, zero, suc, ◌+◌, ◌<◌, ◌&&◌, ◌||◌, is_some, Bool, List, [], ◌∷◌, ◌++◌, length, take, get_or, Option, Some, refl, sym, ap, arith}
use Rattle.std.specs.List.{slice_get}
use Rattle.std.proofs.lemmas.List.{take_more, map-append, length-map, length-take-le}
use Rattle.ir_types.specs.declared.shape.Ty.{Ty}
use Rattle.name_table.specs.Places.{place_among}
use Rattle.ir_grammar.specs.Tokens.{seen}
use Rattle.ir_types.specs.Names.{is_name}
use Rattle.ir_scope.specs.Scopes.{type_among, is_at}
use Rattle.type_names.specs.declared.named.NamedType.{NamedType}
use Rattle.type_names.specs.TypeNames.{Named, is_opaque, stands_for, is_type_entity}
use Rattle.type_names.specs.Written.{named_of, named, names_of, entities_from, type_entities}
use Rattle.type_names.specs.Learning.{Known}
use Rattle.type_names.proofs.Knowing.{no_some}

entities_last : (types ts : List Named) (from : ℕ) (t : Named) → entities_from types from (ts ++ t ∷ []) ≡ entities_from types from ts ++ is_type_entity types (from + length ts) t ∷ []
entities_last types [] from t =
    let same : from ≡ from + 0 = omega arith in
    ap (λ n. is_type_entity types n t ∷ []) same
entities_last types (u ∷ us) from t =
    let same : suc from + length us ≡ from + suc (length us) = omega arith in
    ap (λ es. is_type_entity types from u ∷ es) (entities_last types us (suc from) t ∙ ap (λ n. entities_from types (suc from) us ++ is_type_entity types n t ∷ []) same)

entities_next : (types : List NamedType) (place : ℕ) (t : NamedType) → place < length types → t ≡ get_or types place t →
    entities_from (named types) 0 (named (take (place + 1) types)) ≡ entities_from (named types) 0 (named (take place types)) ++ is_type_entity (named types) place (named_of t) ∷ []
entities_next types place t within is =
    let there : named (take (place + 1) types) ≡ named (take place types) ++ named_of t ∷ [] =
    ap named (take_more types place t within ∙ ap (λ (u : NamedType). take place types ++ u ∷ []) (sym is)) ∙ map-append named_of (take place types) (t ∷ []) in
    let count : 0 + length (named (take place types)) ≡ place = omega (arith, length-map (take place types) named_of, length-take-le place types (omega arith)) in
    ap (entities_from (named types) 0) there ∙ entities_last (named types) (named (take place types)) 0 (named_of t)
    ∙ ap (λ n. entities_from (named types) 0 (named (take place types)) ++ is_type_entity (named types) n (named_of t) ∷ []) count

pub same_entity : (types : List NamedType) (symbols : List (List ℕ)) (known : Known) (place : ℕ) (t : NamedType) → symbols ≡ names_of (named types) → type_among known t.name ≡ stands_for (named types) t.name →
    (is_name t.name && is_at (place_among t.name symbols) place && (is_opaque (seen t.written.now) || is_some (type_among known t.name))) ≡ is_type_entity (named types) place (named_of t)
same_entity types symbols known place t names stands =
    ap (λ (ns : List (List ℕ)). is_name t.name && is_at (place_among t.name ns) place && (is_opaque (seen t.written.now) || is_some (type_among known t.name))) names
    ∙ ap (λ (o : Option Ty). is_name t.name && is_at (place_among t.name (names_of (named types))) place && (is_opaque (seen t.written.now) || is_some o)) stands

-- one more answer is added
pub entities_pushed : (types : List NamedType) (place : ℕ) (t : NamedType) (before after : List Bool) (answer : Bool) → place < length types → t ≡ get_or types place t →
    before ≡ entities_from (named types) 0 (named (take place types)) → answer ≡ is_type_entity (named types) place (named_of t) → after ≡ before ++ answer ∷ [] →
    after ≡ entities_from (named types) 0 (named (take (place + 1) types))
entities_pushed types place t before after answer within at so_far is pushed =
    pushed ∙ ap (λ (es : List Bool). es ++ answer ∷ []) so_far ∙ ap (λ (e : Bool). entities_from (named types) 0 (named (take place types)) ++ e ∷ []) is ∙ sym (entities_next types place t within at)

-- ---- each of them, by its place

entities_at : (types ts : List Named) (from place : ℕ) (t : Named) → slice_get ts place ≡ Some t → slice_get (entities_from types from ts) place ≡ Some (is_type_entity types (from + place) t)
entities_at types [] from place t e = no_some t e
entities_at types (u ∷ us) from zero t e =
    let same : from ≡ from + 0 = omega arith in
    let is : u ≡ t = cc e in
    ap (λ n. Some (is_type_entity types n u)) same ∙ ap (λ (v : Named). Some (is_type_entity types (from + 0) v)) is
entities_at types (u ∷ us) from (suc place) t e =
    let same : suc from + place ≡ from + suc place = omega arith in
    entities_at types us (suc from) place t e ∙ ap (λ n. Some (is_type_entity types n t)) same

-- the answer for the type of a place
pub type_entity_at : (types : List Named) (place : ℕ) (t : Named) → slice_get types place ≡ Some t → slice_get (type_entities types) place ≡ Some (is_type_entity types place t)
unfolding type_entities
type_entity_at types place t e =
    let same : 0 + place ≡ place = omega arith in
    entities_at types types 0 place t e ∙ ap (λ n. Some (is_type_entity types n t)) same

entities_length : (types ts : List Named) (from : ℕ) → length (entities_from types from ts) ≡ length ts
entities_length types [] from = refl
entities_length types (t ∷ ts) from = ap suc (entities_length types ts (suc from))

-- there are as many answers as types
pub type_entities_length : (types : List Named) → length (type_entities types) ≡ length types
unfolding type_entities
type_entities_length types = entities_length types types 0
