-- A written module is read again.
use Rattle.std.proofs.Common.{◌≡◌, ◌≢◌, ◌∙◌, ℕ, zero, suc, ◌+◌, ◌<◌, true, false, List, [], ◌∷◌, ◌++◌, length, get_or, map, Option, Some, None, option_map, Ok, refl, sym, ap, subst, arith, bytes_eq}
use Rattle.std.specs.Prelude.{All, AllPairs, IfSome, Result, codes}
use Rattle.std.specs.List.{cons_option}
use Rattle.std.proofs.lemmas.Bool.{cond-true, cond-false, eq-eqb, false_from_ne_true}
use Rattle.std.proofs.lemmas.List.{length-map, get_or-map}
use Rattle.std.proofs.lemmas.List.Elements.{All-head, All-tail}
use Rattle.std.proofs.lemmas.Slice.Eq.{bytes_eq-Decides}
use Rattle.ir_syntax.specs.declared.item.Item.{Item}
use Rattle.ir_syntax.specs.declared.item.Module.{Module}
use Rattle.ir_syntax.specs.FormedBody.{item_name}
use Rattle.ir_syntax.specs.Formed.{Formed}
use Rattle.ir_grammar.specs.declared.shape.Shape.TheVariants as is
use Rattle.ir_grammar.specs.declared.shape.Free.TheVariants as free
use Rattle.ir_grammar.specs.Tokens.{Kept}
use Rattle.name_table.specs.Places.{place_among}
use Rattle.ir_scope.specs.Scopes.{Env, is_at}
use Rattle.type_names.specs.TypeNames.{Named, named_types}
use Rattle.ir_parser.specs.Items.{item_name_of, dropped_name_of, item_of}
use Rattle.ir_parser.specs.Modules.{symbols_of, env_of, string_of, layout_from, triple_from, past, past_item, item_then, first_item, kind_from, items_with, items_from, with_targets, module_of}
use Rattle.ir_writer.specs.Names.{quoted}
use Rattle.ir_writer.specs.Modules.{item_names}
use Rattle.ir_writer.specs.Ranges.{AreBytes, InRange}
use Rattle.round_trip.proofs.Grammar.Kept.{target_kept, item_kept, module_kept}
use Rattle.round_trip.proofs.Tokens.Quoted.{quoted_back}
use Rattle.round_trip.proofs.Modules.Symbols.{item-symbol, item-no-type, item-no-layout, item-no-triple}
use Rattle.round_trip.proofs.Modules.Vars.{TypesBack, ConstantsBack}
use Rattle.round_trip.proofs.Modules.Items.{BodiesBack, item-name-back, item_back}

-- ---- entities of items

abbrev kept_items : List (List ℕ) → List Item → List (List Kept)
kept_items names items = map (item_kept names) items

-- The items' lexemes name them.
abbrev IsNamed : List (List ℕ) → Item → Type 0
IsNamed names i = item_name_of (item_kept names i) ≡ Some (item_name i)

symbols-are : (names : List (List ℕ)) (items : List Item) → All (IsNamed names) items → symbols_of (kept_items names items) ≡ map item_name items
symbols-are names [] h = refl
symbols-are names (i ∷ rest) h =
    let own : item_name_of (item_kept names i) ≡ Some (item_name i) = All-head (IsNamed names) i rest h in
    ap (λ o. cons_option o (symbols_of (kept_items names rest))) own
    ∙ ap (λ ns. item_name i ∷ ns) (symbols-are names rest (All-tail (IsNamed names) i rest h))

no-layout : (names : List (List ℕ)) (items : List Item) (found : Option (List ℕ)) → layout_from found (kept_items names items) ≡ found
no-layout names [] found = refl
no-layout names (i ∷ rest) found = item-no-layout names i found (kept_items names rest) ∙ no-layout names rest found

no-triple : (names : List (List ℕ)) (items : List Item) (found : Option (List ℕ)) → triple_from found (kept_items names items) ≡ found
no-triple names [] found = refl
no-triple names (i ∷ rest) found = item-no-triple names i found (kept_items names rest) ∙ no-triple names rest found

-- ---- targets

-- the targets, and then other entities
abbrev entities : Option (List ℕ) → Option (List ℕ) → List (List Kept) → List (List Kept)
entities layout triple es = target_kept (is.Free free.Datalayout, codes "datalayout") layout ++ (target_kept (is.Free free.Triple, codes "triple") triple ++ es)

targets-symbols : (layout triple : Option (List ℕ)) (es : List (List Kept)) → symbols_of (entities layout triple es) ≡ symbols_of es
targets-symbols None None es = refl
targets-symbols None (Some triple) es = refl
targets-symbols (Some layout) None es = refl
targets-symbols (Some layout) (Some triple) es = refl

targets-items : (env : Env) (types : List Named) (layout triple : Option (List ℕ)) (es : List (List Kept)) (items : List Item) → items_from env types es 0 0 ≡ Ok items → items_from env types (entities layout triple es) 0 0 ≡ Ok items
targets-items env types None None es items h = h
targets-items env types None (Some triple) es items h = ap past h
targets-items env types (Some layout) None es items h = ap past h
targets-items env types (Some layout) (Some triple) es items h = ap (λ r. past (past r)) h

layout-is : (names : List (List ℕ)) (items : List Item) (layout triple : Option (List ℕ)) → IfSome layout AreBytes → layout_from None (entities layout triple (kept_items names items)) ≡ layout
layout-is names items None None bytes = no-layout names items None
layout-is names items None (Some triple) bytes = no-layout names items None
layout-is names items (Some layout) None bytes = no-layout names items (Some (string_of (quoted layout))) ∙ ap (λ text. Some text) (quoted_back layout bytes)
layout-is names items (Some layout) (Some triple) bytes = no-layout names items (Some (string_of (quoted layout))) ∙ ap (λ text. Some text) (quoted_back layout bytes)

triple-is : (names : List (List ℕ)) (items : List Item) (layout triple : Option (List ℕ)) → IfSome triple AreBytes → triple_from None (entities layout triple (kept_items names items)) ≡ triple
triple-is names items None None bytes = no-triple names items None
triple-is names items (Some layout) None bytes = no-triple names items None
triple-is names items None (Some triple) bytes = no-triple names items (Some (string_of (quoted triple))) ∙ ap (λ text. Some text) (quoted_back triple bytes)
triple-is names items (Some layout) (Some triple) bytes = no-triple names items (Some (string_of (quoted triple))) ∙ ap (λ text. Some text) (quoted_back triple bytes)

-- ---- places of names

abbrev AreApart : List (List ℕ) → Type 0
AreApart names = AllPairs (λ a b. a ≢ b) names

same-bytes : (a b : List ℕ) → a ≡ b → bytes_eq a b ≡ true
same-bytes a b e = (bytes_eq-Decides a b).1 e

other-bytes : (a b : List ℕ) → b ≢ a → bytes_eq a b ≡ false
other-bytes a b h = false_from_ne_true (bytes_eq a b) (λ t. h (sym ((bytes_eq-Decides a b).0 t)))

apart-tail : (name : List ℕ) (names : List (List ℕ)) → AreApart (name ∷ names) → AreApart names
apart-tail name names h i j d less within = h (suc i) (suc j) d (omega arith) (omega (arith, within))

placed : (names : List (List ℕ)) (k : ℕ) (d : List ℕ) → AreApart names → k < length names → place_among (get_or names k d) names ≡ Some k
placed [] k d h within = absurd (omega (arith, within))
placed (name ∷ names) zero d h within = cond-true (bytes_eq name name) (Some 0) (option_map (λ p. suc p) (place_among name names)) (same-bytes name name refl)
placed (name ∷ names) (suc k) d h within =
    cond-false (bytes_eq (get_or names k d) name) (Some 0) (option_map (λ p. suc p) (place_among (get_or names k d) names)) (other-bytes (get_or names k d) name (h 0 (suc k) d (omega arith) within))
    ∙ ap (option_map (λ p. suc p)) (placed names k d (apart-tail name names h) (omega (arith, within)))

-- ---- items at their places

record IsFound (env : Env) (names : List (List ℕ)) (place : ℕ) (i : Item) : Type 0 where
  pub named : item_name_of (item_kept names i) ≡ Some (item_name i)
  pub first : first_item env place (item_name i) (item_kept names i) ≡ Some i

-- Each of the items is found at its place, from one on.
abbrev AreFound : Env → List (List ℕ) → ℕ → List Item → Type 0
AreFound env names place items = (k : ℕ) (d : Item) → k < length items → IsFound env names (place + k) (get_or items k d)

items-found : (env : Env) (types : List Named) (names : List (List ℕ)) (items : List Item) (n place : ℕ) → AreFound env names place items → items_from env types (kept_items names items) n place ≡ Ok items
items-found env types names [] n place h = refl
items-found env types names (i ∷ rest) n place h =
    let e : List Kept = item_kept names i in
    let others : ℕ → ℕ → Result (List Item) ℕ = items_from env types (kept_items names rest) in
    let here : place + 0 ≡ place = omega arith in
    let own : IsFound env names place i = subst (λ p. IsFound env names p i) here (h 0 i (omega arith)) in
    let more : AreFound env names (suc place) rest = λ k d less.
    let there : place + suc k ≡ suc place + k = omega arith in
    subst (λ p. IsFound env names p (get_or rest k d)) there (h (suc k) d (omega (arith, less))) in
    ap (λ t. items_with env types others n place e (kind_from t (item_name_of e) (dropped_name_of e))) (item-no-type names i)
    ∙ ap (λ o. items_with env types others n place e (kind_from None o (dropped_name_of e))) own.named
    ∙ ap (λ o. item_then o (others n (suc place))) own.first
    ∙ ap (past_item i) (items-found env types names rest n (suc place) more)

-- ---- modules

module _ (m : Module) (formed : Formed m) (range : InRange m) where
  named : All (IsNamed (item_names m)) m.items
  named k d within = item-symbol m.items (item_names m) (get_or m.items k d) (formed.has_items k d within) (item-name-back (get_or m.items k d) (range.items k d within))

  -- the symbols are the items' names in order, and no types have names
  pub module-symbols : symbols_of (module_kept m) ≡ item_names m
  module-symbols = targets-symbols m.layout m.triple (kept_items (item_names m) m.items) ∙ symbols-are (item_names m) m.items named

  module _ (types : TypesBack (env_of (module_kept m))) (constants : ConstantsBack (env_of (module_kept m)) (item_names m) m.items) (bodies : BodiesBack (env_of (module_kept m)) (item_names m) m.items) where
    found : AreFound (env_of (module_kept m)) (item_names m) 0 m.items
    found k d within =
        let env : Env = env_of (module_kept m) in
        let i : Item = get_or m.items k d in
        let e : List Kept = item_kept (item_names m) i in
        let many : k < length (item_names m) = omega (arith, within, length-map m.items item_name) in
        let here : 0 + k ≡ k = omega arith in
        let place : place_among (item_name i) env.symbols ≡ Some k =
        ap (place_among (item_name i)) module-symbols
        ∙ ap (λ name. place_among name (item_names m)) (sym (get_or-map item_name m.items k d [] within))
        ∙ placed (item_names m) k [] formed.distinct many in
        let first : is_at (place_among (item_name i) env.symbols) k ≡ true = ap (λ o. is_at o k) place ∙ eq-eqb k k refl in
        subst (λ p. IsFound env (item_names m) p i) (sym here) (record {
          named = named k d within;
          first = cond-true (is_at (place_among (item_name i) env.symbols) k) (item_of env (item_name i) e) None first ∙ item_back env (item_names m) m.items types constants bodies i (formed.has_items k d within) (range.items k d within);
        })

    pub module_back : module_of (module_kept m) ≡ Ok m
    module_back =
        let env : Env = env_of (module_kept m) in
        let own : List Named = named_types (module_kept m) in
        let items : items_from env own (module_kept m) 0 0 ≡ Ok m.items = targets-items env own m.layout m.triple (kept_items (item_names m) m.items) m.items (items-found env own (item_names m) m.items 0 0 found) in
        let layout = layout-is (item_names m) m.items m.layout m.triple range.layout in
        let triple = triple-is (item_names m) m.items m.layout m.triple range.triple in
        ap (with_targets (module_kept m)) items ∙ (λ j. Ok (record { layout = layout j; triple = triple j; items = m.items }))
