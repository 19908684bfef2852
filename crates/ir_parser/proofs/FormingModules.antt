-- The module that entities stand for is one that a text can write.
use Rattle.std.proofs.Common.{◌≡◌, ◌≢◌, ◌∙◌, ℕ, zero, suc, ◌+◌, ◌≤◌, Bool, true, false, cond, List, [], ◌∷◌, length, get_or, map, Option, Some, None, Ok, Err, refl, ap, sym, subst, arith}
use Rattle.std.specs.Prelude.{All, AllPairs, IfSome, IfOk, Result}
use Rattle.std.specs.List.{slice_get}
use Rattle.std.proofs.lemmas.Bool.{eqb-true, false≢true}
use Rattle.std.proofs.lemmas.List.Elements.{All-nil, All-cons}
use Rattle.std.proofs.lemmas.Option.{slice_get-get_or}
use Rattle.ir_types.specs.Names.{is_name}
use Rattle.ir_syntax.specs.declared.item.Item.{Item}
use Rattle.ir_syntax.specs.declared.item.Module.{Module}
use Rattle.ir_syntax.specs.FormedBody.{item_name}
use Rattle.ir_syntax.specs.FormedItem.{FormedItem}
use Rattle.ir_syntax.specs.Formed.{Formed}
use Rattle.ir_grammar.specs.declared.shape.Shape.TheVariants as is
use Rattle.ir_grammar.specs.Tokens.{Kept}
use Rattle.name_table.specs.Places.{place_among}
use Rattle.ir_scope.specs.Scopes.{Env, is_at}
use Rattle.type_names.specs.TypeNames.{Named, named_type, named_types, is_type_entity}
use Rattle.ir_parser.specs.Items.{item_name_of, dropped_name_of, item_of}
use Rattle.ir_parser.specs.Modules.{symbols_of, env_of, past, item_then, kind_from, items_with, items_from, with_targets, module_of}
use Rattle.ir_parser.proofs.FormingItems.{IsItem, item-named, item-read}

-- ---- induction over entities

-- An entity that is a named type is no item.
type-no-item : (e : List Kept) (named : Named) → named_type e ≡ Some named → item_name_of e ≡ None
type-no-item [] named is = refl
type-no-item ((is.Local, text) ∷ ks) named is = refl
type-no-item (k ∷ ks) named is = cc

-- What holds of the items of entities, by their number before: it holds of none, an entity that is no item changes
-- nothing, and one that is an item adds its own, the first of its name.
pub items-all : (env : Env) (types : List Named) (M : List (List Kept) → ℕ → List Item → Type 0) →
    ((j : ℕ) → M [] j []) →
    ((e : List Kept) (es : List (List Kept)) (j : ℕ) (items : List Item) → item_name_of e ≡ None → M es j items → M (e ∷ es) j items) →
    ((e : List Kept) (es : List (List Kept)) (j : ℕ) (items : List Item) (name : List ℕ) (i : Item) → item_name_of e ≡ Some name → is_at (place_among name env.symbols) j ≡ true → item_of env name e ≡ Some i → M es (suc j) items → M (e ∷ es) j (i ∷ items)) →
    (es : List (List Kept)) (i j : ℕ) → IfOk (items_from env types es i j) (M es j)
items-all env types M none skip step [] i j = none j
items-all env types M none skip step (e ∷ es) i j = cases (items-all env types M none skip step es) (named_type e) refl (item_name_of e) refl (dropped_name_of e)
  where
    skipped : item_name_of e ≡ None → (r : Result (List Item) ℕ) → IfOk r (M es j) → IfOk (past r) (M (e ∷ es) j)
    skipped is (Ok items) h = skip e es j items is h
    skipped is (Err at) h = tt

    typed : item_name_of e ≡ None → (b : Bool) (r : Result (List Item) ℕ) → IfOk r (M es j) → IfOk (cond b (past r) (Err 0)) (M (e ∷ es) j)
    typed is true r h = skipped is r h
    typed is false r h = tt

    added : (name : List ℕ) → item_name_of e ≡ Some name → is_at (place_among name env.symbols) j ≡ true → (found : Option Item) → item_of env name e ≡ found → (r : Result (List Item) ℕ) → IfOk r (M es (suc j)) → IfOk (item_then found r) (M (e ∷ es) j)
    added name is first None of r h = tt
    added name is first (Some x) of (Ok items) h = step e es j items name x is first of h
    added name is first (Some x) of (Err at) h = tt

    item : (name : List ℕ) → item_name_of e ≡ Some name → (b : Bool) → is_at (place_among name env.symbols) j ≡ b → (r : Result (List Item) ℕ) → IfOk r (M es (suc j)) → IfOk (item_then (cond b (item_of env name e) None) r) (M (e ∷ es) j)
    item name is true first r h = added name is first (item_of env name e) refl r h
    item name is false first r h = tt

    cases : ((i j : ℕ) → IfOk (items_from env types es i j) (M es j)) → (t : Option Named) → named_type e ≡ t → (n : Option (List ℕ)) → item_name_of e ≡ n → (d : Option (List ℕ)) → IfOk (items_with env types (items_from env types es) i j e (kind_from t n d)) (M (e ∷ es) j)
    cases ih (Some named) f n g d = typed (type-no-item e named f) (is_type_entity types i named) (items_from env types es (suc i) j) (ih (suc i) j)
    cases ih None f (Some name) g d = item name g (is_at (place_among name env.symbols) j) refl (items_from env types es i (suc j)) (ih i (suc j))
    cases ih None f None g None = skipped g (items_from env types es i j) (ih i j)
    cases ih None f None g (Some dropped) = typed g (is_name dropped) (items_from env types es i j) (ih i j)

-- ---- names

-- The items have the entities' names in order, and each is the first of its name.
record AreFirst (symbols : List (List ℕ)) (es : List (List Kept)) (j : ℕ) (items : List Item) : Type 0 where
  pub names : map item_name items ≡ symbols_of es
  pub first : (k place : ℕ) (name : List ℕ) → place ≡ j + k → slice_get (symbols_of es) k ≡ Some name → is_at (place_among name symbols) place ≡ true

symbols-skip : (e : List Kept) (es : List (List Kept)) → item_name_of e ≡ None → symbols_of (e ∷ es) ≡ symbols_of es
symbols-skip e es is = rw is

symbols-step : (e : List Kept) (es : List (List Kept)) (name : List ℕ) → item_name_of e ≡ Some name → symbols_of (e ∷ es) ≡ name ∷ symbols_of es
symbols-step e es name is = rw is

first-skip : (symbols : List (List ℕ)) (e : List Kept) (es : List (List Kept)) (j : ℕ) (items : List Item) → item_name_of e ≡ None → AreFirst symbols es j items → AreFirst symbols (e ∷ es) j items
first-skip symbols e es j items is h = record {
  names = h.names ∙ sym (symbols-skip e es is);
  first = λ k place name at there. h.first k place name at (ap (λ ns. slice_get ns k) (sym (symbols-skip e es is)) ∙ there);
}

first-step : (symbols : List (List ℕ)) (e : List Kept) (es : List (List Kept)) (j : ℕ) (items : List Item) (name : List ℕ) (i : Item) → item_name_of e ≡ Some name → is_at (place_among name symbols) j ≡ true → item_name i ≡ name →
    AreFirst symbols es (suc j) items → AreFirst symbols (e ∷ es) j (i ∷ items)
first-step symbols e es j items name i is here named h = record {
  names = ap (λ n. n ∷ map item_name items) named ∙ ap (λ ns. name ∷ ns) h.names ∙ sym (symbols-step e es name is);
  first = λ k place other at there. each k place other at (ap (λ ns. slice_get ns k) (sym (symbols-step e es name is)) ∙ there);
}
  where
    each : (k place : ℕ) (other : List ℕ) → place ≡ j + k → slice_get (name ∷ symbols_of es) k ≡ Some other → is_at (place_among other symbols) place ≡ true
    each zero place other at there =
        let same : name ≡ other = cc in
        let spot : place ≡ j = omega arith in
        subst (λ n. is_at (place_among n symbols) place ≡ true) same (subst (λ p. is_at (place_among name symbols) p ≡ true) (sym spot) here)
    each (suc k) place other at there = h.first k place other (omega arith) there

names-are : (env : Env) (types : List Named) (es : List (List Kept)) → IfOk (items_from env types es 0 0) (AreFirst env.symbols es 0)
names-are env types es =
    items-all env types (AreFirst env.symbols) (λ j. record { names = refl; first = λ k place name at there. cc }) (first-skip env.symbols)
    (λ e es j items name i is first of h. first-step env.symbols e es j items name i is first (named env name e i is of) h) es 0 0
  where
    named : (env : Env) (name : List ℕ) (e : List Kept) (i : Item) → item_name_of e ≡ Some name → item_of env name e ≡ Some i → item_name i ≡ name
    named env name e i is of = subst (λ o. IfSome o (λ i. item_name i ≡ name)) of (item-named env name e is)

place-is : (found : Option ℕ) (place : ℕ) → is_at found place ≡ true → found ≡ Some place
place-is None place e = absurd (false≢true e)
place-is (Some k) place e = ap (λ n. Some n) (eqb-true k place e)

distinct-first : (names : List (List ℕ)) → ((k : ℕ) (name : List ℕ) → slice_get names k ≡ Some name → is_at (place_among name names) k ≡ true) → AllPairs (λ a b. a ≢ b) names
distinct-first names first i j d before within same =
    let one = place-is (place_among (get_or names i d) names) i (first i (get_or names i d) (slice_get-get_or names i d (omega arith))) in
    let other = place-is (place_among (get_or names j d) names) j (first j (get_or names j d) (slice_get-get_or names j d within)) in
    let placed : Some i ≡ Some j = sym one ∙ ap (λ n. place_among n names) same ∙ other in
    let both : i ≡ j = cc in
    absurd (omega arith)

-- ---- modules

items-formed : (env : Env) (types : List Named) (all : List Item) → env.symbols ≡ map item_name all → AllPairs (λ a b. a ≢ b) env.symbols → (es : List (List Kept)) →
    IfOk (items_from env types es 0 0) (All (FormedItem all))
items-formed env types all same distinct es =
    items-all env types (λ es j items. All (FormedItem all) items) (λ j. All-nil (FormedItem all)) (λ e es j items is h. h)
    (λ e es j items name i is first of h. All-cons (FormedItem all) i items (formed name e i is of) h) es 0 0
  where
    formed : (name : List ℕ) (e : List Kept) (i : Item) → item_name_of e ≡ Some name → item_of env name e ≡ Some i → FormedItem all i
    formed name e i is of = (subst (λ o. IfSome o (IsItem all name)) of (item-read env all same distinct name e is)).formed

pub items-few : (env : Env) (types : List Named) (es : List (List Kept)) → IfOk (items_from env types es 0 0) (λ items. length items ≤ length es)
items-few env types es =
    items-all env types (λ es j items. length items ≤ length es) (λ j. omega arith) (λ e es j items is h. omega (arith, h)) (λ e es j items name i is first of h. omega (arith, h)) es 0 0

abbrev items_in : Result Module ℕ → List Item
items_in (Ok m) = m.items
items_in (Err at) = []

-- what holds of the items of a module that entities stand for
pub module-items : (P : List Item → Type 0) (entities : List (List Kept)) (m : Module) → module_of entities ≡ Ok m → IfOk (items_from (env_of entities) (named_types entities) entities 0 0) P → P m.items
module-items P entities m e h = cases (items_from (env_of entities) (named_types entities) entities 0 0) e h
  where
    cases : (r : Result (List Item) ℕ) → with_targets entities r ≡ Ok m → IfOk r P → P m.items
    cases (Ok items) is p = let same : items ≡ m.items = ap (λ r. items_in r) is in subst P same p
    cases (Err at) is p = cc

pub module-formed : (entities : List (List Kept)) (m : Module) → module_of entities ≡ Ok m → Formed m
module-formed entities m e =
    let names = module-items (AreFirst (symbols_of entities) entities 0) entities m e (names-are (env_of entities) (named_types entities) entities) in
    let distinct : AllPairs (λ a b. a ≢ b) (symbols_of entities) = distinct-first (symbols_of entities) (λ k name there. names.first k k name (omega arith) there) in
    record {
      distinct = subst (AllPairs (λ a b. a ≢ b)) (sym names.names) distinct;
      has_items = module-items (All (FormedItem m.items)) entities m e (items-formed (env_of entities) (named_types entities) m.items (sym names.names) distinct entities);
    }
