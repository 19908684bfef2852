-- Items, entity by entity.
use Rattle.std.proofs.Common.{◌≡◌, ◌∙◌, ℕ, zero, suc, ◌+◌, ◌<◌, ◌≤◌, Bool, true, false, cond, List, [], ◌∷◌, ◌++◌, length, drop, get_or, Option, Some, None, Result, Ok, Err, refl, sym, ap, subst, arith, append_assoc, add-one, length-append}
use Rattle.std.specs.List.{slice_get, cons_option}
use Rattle.std.specs.Option.{unwrap_or}
use Rattle.std.proofs.Math.Path.{fun_ext}
use Rattle.ir_types.specs.declared.shape.Ty.{Ty}
use Rattle.ir_types.proofs.ListSteps.{drop_at}
use Rattle.ir_types.specs.Names.{is_name}
use Rattle.ir_syntax.specs.declared.item.Item.{Item}
use Rattle.ir_grammar.specs.Tokens.{Kept}
use Rattle.ir_scope.specs.Scopes.{Env, Names, type_among}
use Rattle.ir_scope.specs.Scopes.{env_of as env_in}
use Rattle.type_names.specs.TypeNames.{Named, named_type, named_types, stands_for, is_type_entity}
use Rattle.type_names.specs.Written.{entities_from, type_entities}
use Rattle.ir_parser.specs.declared.fault.ReadFault.{ReadFault}
use Rattle.ir_parser.specs.declared.fault.ReadFault.TheVariants.{BadByte, NotInSubset, OutOfMemory}
use Rattle.ir_parser.specs.declared.items.Resolved.{Resolved}
use Rattle.ir_parser.specs.declared.items.Resolved.TheVariants as is
use Rattle.ir_parser.specs.Items.{item_name_of, dropped_name_of}
use Rattle.ir_parser.specs.Modules.{kind_from, kind_of, past, past_item, item_then, first_item, items_with, items_from, symbols_of, env_of, with_targets, module_of, layout_from, triple_from}
use Rattle.ir_parser.specs.Mirrors.Steps.{item_or, resolved_as, IsItemsCause, IsModuleCause}

-- ---- what was read, and then what is read

abbrev pub joined : List Item → ℕ → Result (List Item) ℕ → Result (List Item) ℕ
joined items k (Ok more) = Ok (items ++ more)
joined items k (Err at) = Err (k + at)

joined-past : (items : List Item) (k : ℕ) (r : Result (List Item) ℕ) → joined items k (past r) ≡ joined items (k + 1) r
joined-past items k (Ok more) = refl
joined-past items k (Err at) = let e : k + suc at ≡ k + 1 + at = omega arith in ap (λ n. Err n) e

joined-item : (items : List Item) (k : ℕ) (i : Item) (r : Result (List Item) ℕ) → joined items k (past_item i r) ≡ joined (items ++ i ∷ []) (k + 1) r
joined-item items k i (Ok more) = ap (λ is. Ok is) (sym (append_assoc items (i ∷ []) more))
joined-item items k i (Err at) = let e : k + suc at ≡ k + 1 + at = omega arith in ap (λ n. Err n) e

-- ---- one entity

abbrev then_rest : Resolved → (ℕ → ℕ → Result (List Item) ℕ) → ℕ → ℕ → Result (List Item) ℕ
then_rest is.Type others i j = past (others (suc i) j)
then_rest (is.Item item) others i j = past_item item (others i (suc j))
then_rest is.Nothing others i j = past (others i j)
then_rest is.Unresolved others i j = Err 0

-- Where an entity is a named type, this tells whether it is one that the module may have.
abbrev Tells : List Named → ℕ → Bool → Option Named → Type 0
Tells types i stands o = (t : Named) → o ≡ Some t → stands ≡ is_type_entity types i t

with-kind : (env : Env) (types : List Named) (others : ℕ → ℕ → Result (List Item) ℕ) (i j : ℕ) (e : List Kept) (stands : Bool) (o : Option Named) (name dropped : Option (List ℕ)) → Tells types i stands o →
    items_with env types others i j e (kind_from o name dropped) ≡ then_rest (resolved_as env stands j e (kind_from o name dropped)) others i j
with-kind env types others i j e stands (Some t) name dropped tells =
    typed (is_type_entity types i t) ∙ ap (λ b. then_rest (cond b is.Type is.Unresolved) others i j) (sym (tells t refl))
  where
    typed : (b : Bool) → cond b (past (others (suc i) j)) (Err 0) ≡ then_rest (cond b is.Type is.Unresolved) others i j
    typed true = refl
    typed false = refl
with-kind env types others i j e stands None None None tells = refl
with-kind env types others i j e stands None None (Some name) tells = kept (is_name name)
  where
    kept : (b : Bool) → cond b (past (others i j)) (Err 0) ≡ then_rest (cond b is.Nothing is.Unresolved) others i j
    kept true = refl
    kept false = refl
with-kind env types others i j e stands None (Some name) dropped tells = found (first_item env j name e)
  where
    found : (o : Option Item) → item_then o (others i (suc j)) ≡ then_rest (item_or o) others i j
    found None = refl
    found (Some item) = refl

-- The entity of a place, behind so many types and items, is this.
pub record IsHere (env : Env) (types : List Named) (entities : List (List Kept)) (k i j : ℕ) (e : List Kept) (stands : Bool) (answer : Resolved) : Type 0 where
  pub within : k < length entities
  pub here : e ≡ get_or entities k e
  pub tells : Tells types i stands (named_type e)
  pub is : answer ≡ resolved_as env stands j e (kind_of e)

ahead : (env : Env) (types : List Named) (entities : List (List Kept)) (k i j : ℕ) (e : List Kept) (stands : Bool) (answer : Resolved) → IsHere env types entities k i j e stands answer →
    items_from env types (drop k entities) i j ≡ then_rest answer (items_from env types (drop (k + 1) entities)) i j
ahead env types entities k i j e stands answer h =
    ap (λ es. items_from env types es i j) (drop_at entities k e h.within h.here)
    ∙ with-kind env types (items_from env types (drop (k + 1) entities)) i j e stands (named_type e) (item_name_of e) (dropped_name_of e) h.tells
    ∙ ap (λ r. then_rest r (items_from env types (drop (k + 1) entities)) i j) (sym h.is)

type_more : (env : Env) (types : List Named) (entities : List (List Kept)) (k i : ℕ) (e : List Kept) (stands : Bool) (items : List Item) (answer : Resolved) → IsHere env types entities k i (length items) e stands answer → answer ≡ is.Type →
    joined items (k + 1) (items_from env types (drop (k + 1) entities) (i + 1) (length items)) ≡ joined items k (items_from env types (drop k entities) i (length items))
type_more env types entities k i e stands items answer h r =
    ap (λ n. joined items (k + 1) (items_from env types (drop (k + 1) entities) n (length items))) (add-one i)
    ∙ sym (joined-past items k (items_from env types (drop (k + 1) entities) (suc i) (length items)))
    ∙ ap (λ s. joined items k (then_rest s (items_from env types (drop (k + 1) entities)) i (length items))) (sym r)
    ∙ ap (joined items k) (sym (ahead env types entities k i (length items) e stands answer h))

nothing_more : (env : Env) (types : List Named) (entities : List (List Kept)) (k i : ℕ) (e : List Kept) (stands : Bool) (items : List Item) (answer : Resolved) → IsHere env types entities k i (length items) e stands answer → answer ≡ is.Nothing →
    joined items (k + 1) (items_from env types (drop (k + 1) entities) i (length items)) ≡ joined items k (items_from env types (drop k entities) i (length items))
nothing_more env types entities k i e stands items answer h r =
    sym (joined-past items k (items_from env types (drop (k + 1) entities) i (length items)))
    ∙ ap (λ s. joined items k (then_rest s (items_from env types (drop (k + 1) entities)) i (length items))) (sym r)
    ∙ ap (joined items k) (sym (ahead env types entities k i (length items) e stands answer h))

item_more : (env : Env) (types : List Named) (entities : List (List Kept)) (k i : ℕ) (e : List Kept) (stands : Bool) (items : List Item) (answer : Resolved) (item : Item) → IsHere env types entities k i (length items) e stands answer → answer ≡ is.Item item →
    joined (items ++ item ∷ []) (k + 1) (items_from env types (drop (k + 1) entities) i (length (items ++ item ∷ []))) ≡ joined items k (items_from env types (drop k entities) i (length items))
item_more env types entities k i e stands items answer item h r =
    let longer : length (items ++ item ∷ []) ≡ suc (length items) = length-append items (item ∷ []) ∙ add-one (length items) in
    ap (λ n. joined (items ++ item ∷ []) (k + 1) (items_from env types (drop (k + 1) entities) i n)) longer
    ∙ sym (joined-item items k item (items_from env types (drop (k + 1) entities) i (suc (length items))))
    ∙ ap (λ s. joined items k (then_rest s (items_from env types (drop (k + 1) entities)) i (length items))) (sym r)
    ∙ ap (joined items k) (sym (ahead env types entities k i (length items) e stands answer h))

unresolved_here : (env : Env) (types : List Named) (entities : List (List Kept)) (k i : ℕ) (e : List Kept) (stands : Bool) (items : List Item) (answer : Resolved) → IsHere env types entities k i (length items) e stands answer → answer ≡ is.Unresolved →
    joined items k (items_from env types (drop k entities) i (length items)) ≡ Err k
unresolved_here env types entities k i e stands items answer h r =
    let e : k + 0 ≡ k = omega arith in
    ap (joined items k) (ahead env types entities k i (length items) _ stands answer h)
    ∙ ap (λ s. joined items k (then_rest s (items_from env types (drop (k + 1) entities)) i (length items))) r
    ∙ ap (λ n. Err n) e

-- ---- named types

type-then : (env : Env) (j : ℕ) (e : List Kept) (stands : Bool) (o : Option Named) (name dropped : Option (List ℕ)) → is.Type ≡ resolved_as env stands j e (kind_from o name dropped) → (t : Named) × (o ≡ Some t)
type-then env j e stands (Some t) name dropped r = (t, refl)
type-then env j e stands None None None r = cc
type-then env j e stands None None (Some name) r = kept (is_name name) r
  where
    kept : (b : Bool) → is.Type ≡ cond b is.Nothing is.Unresolved → (t : Named) × (None ≡ Some t)
    kept true s = cc
    kept false s = cc
type-then env j e stands None (Some name) dropped r = cases (first_item env j name e) r
  where
    cases : (o : Option Item) → is.Type ≡ item_or o → (t : Named) × (None ≡ Some t)
    cases None s = cc
    cases (Some item) s = cc

-- the entity of a place is no named type
abbrev IsNoType : Resolved → Type 0
IsNoType is.Type = ⊥
IsNoType (is.Item item) = Unit {0}
IsNoType is.Nothing = Unit {0}
IsNoType is.Unresolved = ⊥

no-type-then : (env : Env) (j : ℕ) (e : List Kept) (stands : Bool) (o : Option Named) (name dropped : Option (List ℕ)) → IsNoType (resolved_as env stands j e (kind_from o name dropped)) → o ≡ None
no-type-then env j e stands (Some t) name dropped r = cases stands r
  where
    cases : (b : Bool) → IsNoType (cond b is.Type is.Unresolved) → Some t ≡ None
    cases true s = absurd s
    cases false s = absurd s
no-type-then env j e stands None name dropped r = refl

types-ahead : (entities : List (List Kept)) (k : ℕ) (e : List Kept) (o : Option Named) → k < length entities → e ≡ get_or entities k e → named_type e ≡ o → named_types (drop k entities) ≡ cons_option o (named_types (drop (k + 1) entities))
types-ahead entities k e o within here n = ap named_types (drop_at entities k e within here) ∙ ap (λ p. cons_option p (named_types (drop (k + 1) entities))) n

drop-next : (ts : List Named) (i : ℕ) (t : Named) (rest : List Named) → drop i ts ≡ t ∷ rest → drop (suc i) ts ≡ rest
drop-next [] zero t rest e = cc
drop-next [] (suc i) t rest e = cc
drop-next (x ∷ ts) zero t rest e = cc
drop-next (x ∷ ts) (suc i) t rest e = drop-next ts i t rest e

types_next : (env : Env) (types : List Named) (entities : List (List Kept)) (k i j : ℕ) (e : List Kept) (stands : Bool) (answer : Resolved) → IsHere env types entities k i j e stands answer → answer ≡ is.Type → drop i types ≡ named_types (drop k entities) →
    drop (i + 1) types ≡ named_types (drop (k + 1) entities)
types_next env types entities k i j e stands answer h r so_far =
    let (t, n) = type-then env j e stands (named_type e) (item_name_of e) (dropped_name_of e) (sym r ∙ h.is) in
    ap (λ m. drop m types) (add-one i) ∙ drop-next types i t (named_types (drop (k + 1) entities)) (so_far ∙ types-ahead entities k e (Some t) h.within h.here n)

types_same : (env : Env) (types : List Named) (entities : List (List Kept)) (k i j : ℕ) (e : List Kept) (stands : Bool) (answer : Resolved) → IsHere env types entities k i j e stands answer → IsNoType answer → drop i types ≡ named_types (drop k entities) →
    drop i types ≡ named_types (drop (k + 1) entities)
types_same env types entities k i j e stands answer h r so_far =
    so_far ∙ types-ahead entities k e None h.within h.here (no-type-then env j e stands (named_type e) (item_name_of e) (dropped_name_of e) (subst IsNoType h.is r))

placed : (all ts : List Named) (i p : ℕ) (t : Named) (rest : List Named) → drop i ts ≡ t ∷ rest → slice_get (entities_from all p ts) i ≡ Some (is_type_entity all (p + i) t)
placed all [] zero p t rest e = cc
placed all [] (suc i) p t rest e = cc
placed all (x ∷ ts) zero p t rest e =
    let same : x ≡ t = cc in
    let n : p ≡ p + 0 = omega arith in
    ap (λ y. Some (is_type_entity all p y)) same ∙ ap (λ m. Some (is_type_entity all m t)) n
placed all (x ∷ ts) (suc i) p t rest e =
    let n : suc p + i ≡ p + suc i = omega arith in
    placed all ts i (suc p) t rest e ∙ ap (λ m. Some (is_type_entity all m t)) n

type_flags : (types : List Named) → type_entities types ≡ entities_from types 0 types
unfolding type_entities
type_flags types = refl

stands_here : (types : List Named) (flags : List Bool) (entities : List (List Kept)) (k i : ℕ) (e : List Kept) (stands : Bool) → flags ≡ type_entities types → k < length entities → e ≡ get_or entities k e → drop i types ≡ named_types (drop k entities) → stands ≡ unwrap_or (slice_get flags i) false →
    Tells types i stands (named_type e)
stands_here types flags entities k i e stands f within here so_far s t n =
    let z : 0 + i ≡ i = omega arith in
    s
    ∙ ap (λ fs. unwrap_or (slice_get fs i) false) (f ∙ type_flags types)
    ∙ ap (λ o. unwrap_or o false) (placed types types i 0 t (named_types (drop (k + 1) entities)) (so_far ∙ types-ahead entities k e (Some t) within here n))
    ∙ ap (λ m. is_type_entity types m t) z

-- ---- the loop over entities

-- The entity of a place, behind so many types and items, where flags tell which types the module may have.
pub here_is : (env : Env) (entities : List (List Kept)) (flags : List Bool) (k i j : ℕ) (e seen_e : List Kept) (stands : Bool) (items : List Item) (answer : Resolved) → flags ≡ type_entities (named_types entities) → k < length entities → e ≡ get_or entities k e →
    drop i (named_types entities) ≡ named_types (drop k entities) → stands ≡ unwrap_or (slice_get flags i) false → j ≡ length items → seen_e ≡ e → answer ≡ resolved_as env stands j seen_e (kind_of seen_e) → IsHere env (named_types entities) entities k i (length items) e stands answer
here_is env entities flags k i j e seen_e stands items answer f within here so_far s n v r = record {
  within = within;
  here = here;
  tells = stands_here (named_types entities) flags entities k i e stands f within here so_far s;
  is = r ∙ ap (λ m. resolved_as env stands m seen_e (kind_of seen_e)) n ∙ ap (λ d. resolved_as env stands (length items) d (kind_of d)) v;
}

-- the items and the named types up to a place
pub record AreRead (env : Env) (entities : List (List Kept)) (k : ℕ) (items : List Item) (i : ℕ) : Type 0 where
  pub read : joined items k (items_from env (named_types entities) (drop k entities) i (length items)) ≡ items_from env (named_types entities) entities 0 0
  pub types : drop i (named_types entities) ≡ named_types (drop k entities)
  pub few : i ≤ k

pub read_type_too : (env : Env) (entities : List (List Kept)) (k i : ℕ) (e : List Kept) (stands : Bool) (items : List Item) (answer : Resolved) → AreRead env entities k items i → IsHere env (named_types entities) entities k i (length items) e stands answer → answer ≡ is.Type → AreRead env entities (k + 1) items (i + 1)
read_type_too env entities k i e stands items answer so_far h r = record {
  read = type_more env (named_types entities) entities k i e stands items answer h r ∙ so_far.read;
  types = types_next env (named_types entities) entities k i (length items) e stands answer h r so_far.types;
  few = omega (arith, so_far.few);
}

pub read_item_too : (env : Env) (entities : List (List Kept)) (k i : ℕ) (e : List Kept) (stands : Bool) (items : List Item) (answer : Resolved) (item : Item) → AreRead env entities k items i → IsHere env (named_types entities) entities k i (length items) e stands answer → answer ≡ is.Item item → AreRead env entities (k + 1) (items ++ item ∷ []) i
read_item_too env entities k i e stands items answer item so_far h r = record {
  read = item_more env (named_types entities) entities k i e stands items answer item h r ∙ so_far.read;
  types = types_same env (named_types entities) entities k i (length items) e stands answer h (subst IsNoType (sym r) tt) so_far.types;
  few = omega (arith, so_far.few);
}

pub read_nothing_too : (env : Env) (entities : List (List Kept)) (k i : ℕ) (e : List Kept) (stands : Bool) (items : List Item) (answer : Resolved) → AreRead env entities k items i → IsHere env (named_types entities) entities k i (length items) e stands answer → answer ≡ is.Nothing → AreRead env entities (k + 1) items i
read_nothing_too env entities k i e stands items answer so_far h r = record {
  read = nothing_more env (named_types entities) entities k i e stands items answer h r ∙ so_far.read;
  types = types_same env (named_types entities) entities k i (length items) e stands answer h (subst IsNoType (sym r) tt) so_far.types;
  few = omega (arith, so_far.few);
}

pub read_until : (env : Env) (entities : List (List Kept)) (k i : ℕ) (e : List Kept) (stands : Bool) (items : List Item) (answer : Resolved) → AreRead env entities k items i → IsHere env (named_types entities) entities k i (length items) e stands answer → answer ≡ is.Unresolved → items_from env (named_types entities) entities 0 0 ≡ Err k
read_until env entities k i e stands items answer so_far h r = sym so_far.read ∙ unresolved_here env (named_types entities) entities k i e stands items answer h r

-- ---- the module

pub env_same : (scope : Names) (entities : List (List Kept)) (types : List Named) (symbols : List (List ℕ)) → ((name : List ℕ) → type_among scope.types name ≡ stands_for types name) → types ≡ named_types entities → scope.symbols ≡ symbols → symbols ≡ symbols_of entities →
    env_in scope ≡ env_of entities
env_same scope entities types symbols stand t s r =
    let looks : type_among scope.types ≡ stands_for types = fun_ext stand in
    let make : (List ℕ → Option Ty) → List (List ℕ) → Env = λ look names. record { types = look; symbols = names } in
    ap (λ look. make look scope.symbols) (looks ∙ ap stands_for t) ∙ ap (make (stands_for (named_types entities))) (s ∙ r)

pub module_read : (env : Env) (entities : List (List Kept)) (items : List Item) → env ≡ env_of entities → items_from env (named_types entities) entities 0 0 ≡ Ok items →
    module_of entities ≡ Ok (record { layout = layout_from None entities; triple = triple_from None entities; items = items })
module_read env entities items e r = ap (with_targets entities) (ap (λ v. items_from v (named_types entities) entities 0 0) (sym e) ∙ r)

pub module_cause : (env : Env) (entities : List (List Kept)) (fault : ReadFault) → env ≡ env_of entities → IsItemsCause env entities fault → IsModuleCause entities fault
module_cause env entities (BadByte at) e r = r
module_cause env entities (NotInSubset at) e r = ap (with_targets entities) (ap (λ v. items_from v (named_types entities) entities 0 0) (sym e) ∙ r)
module_cause env entities OutOfMemory e r = r
