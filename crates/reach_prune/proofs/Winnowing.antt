-- What is put together for a module is its winnowed one.
use Rattle.std.proofs.Common.{◌≡◌, ◌∙◌, ℕ, zero, suc, ◌+◌, ◌≤◌, ◌<◌, Bool, true, false, List, [], ◌∷◌, ◌++◌, Option, None, Some, All, length, map, drop, get_or, refl, sym, ap, subst, arith}
use Rattle.std.specs.Prelude.{Contains, flat_map, slice_get, IsSortedByKey, IsPermutation, IsSorted}
use Rattle.std.specs.Ordering.{nat_cmp, is_lt}
use Rattle.std.specs.Cmp.Lexicographic.{slice_cmp}
use Rattle.std.proofs.lemmas.List.{length-map, get_or-map, map-append, append_assoc}
use Rattle.ir_types.proofs.ListSteps.{drop_at}
use Rattle.std.proofs.lemmas.List.Elements.{All-nil, All-cons, All-head, All-tail, All-append, All-weaker, All-contains}
use Rattle.std.proofs.lemmas.List.Sorted.{All-permutation}
use Rattle.ir_syntax.specs.declared.item.Item.{Item}
use Rattle.ir_syntax.specs.declared.item.Module.{Module}
use Rattle.ir_syntax.specs.FormedBody.{item_name}
use Rattle.winnowed_form.specs.declared.named.Named.{Named}
use Rattle.winnowed_form.specs.declared.member.Member.{Member}
use Rattle.winnowed_form.specs.Basis.{Basis}
use Rattle.winnowed_form.specs.Items.{definition, declaration}
use Rattle.winnowed_form.specs.Names.{name_of, uses}
use Rattle.winnowed_form.specs.Winnowed.{AreDeclared, IsWinnowedModule}
use Rattle.reach_prune.specs.declared.declared.Declared.{Declared}
use Rattle.reach_prune.specs.declared.places.Places.{Places}
use Rattle.reach_prune.specs.Mirrors.Members.{IsThere, IsWritable}
use Rattle.reach_prune.specs.Mirrors.Noting.{HasItem, noted_all}
use Rattle.reach_prune.specs.Mirrors.Places.{HasRow, place_in, ArePlaced}
use Rattle.reach_prune.specs.Ordered.{declared_order}
use Rattle.reach_prune.proofs.Noting.{AreNoted, noted_none, noted_more, noted_moved}
use Rattle.reach_prune.proofs.There.{there_rows}

-- ---- what members name

pub uses_there : (b : Basis) (home : ℕ) (members : List Member) → All (IsWritable b home) members → All (IsThere b home) (flat_map (uses b home) members)
uses_there b home [] all = All-nil (IsThere b home)
uses_there b home (member ∷ more) all =
    All-append (IsThere b home) (uses b home member) (flat_map (uses b home) more) (All-head (IsWritable b home) member more all).there (uses_there b home more (All-tail (IsWritable b home) member more all))

pub noted_by_members : (b : Basis) (home : ℕ) (members : List Member) (defined : List Named) → All HasRow defined → All (IsWritable b home) members
    → AreNoted (flat_map (uses b home) members) defined (noted_all defined [] (flat_map (uses b home) members))
noted_by_members b home members defined rows writable = noted_more [] defined [] (flat_map (uses b home) members) (noted_none defined) rows (there_rows b home (flat_map (uses b home) members) (uses_there b home members writable))

pub noted_there : (b : Basis) (home : ℕ) (members : List Member) (defined declared : List Named) → declared ≡ noted_all defined [] (flat_map (uses b home) members) → All HasRow defined → All (IsWritable b home) members → All (IsThere b home) declared
noted_there b home members defined declared is rows writable =
    All-weaker (Contains (flat_map (uses b home) members)) (IsThere b home) (λ named used. All-contains (IsThere b home) (flat_map (uses b home) members) named (uses_there b home members writable) used) declared
    (subst (All (Contains (flat_map (uses b home) members))) (sym is) (noted_by_members b home members defined rows writable).used_names)

-- ---- declarations

pub declarations_are : (b : Basis) (home : ℕ) (declared : List Declared) → All (HasItem b home) declared → flat_map (declaration b home) (map (λ entry. entry.named) declared) ≡ map (λ entry. entry.item) declared
declarations_are b home [] all = refl
declarations_are b home (entry ∷ more) all =
    ap (λ l. l ++ flat_map (declaration b home) (map (λ (x : Declared). x.named) more)) (All-head (HasItem b home) entry more all) ∙ ap (λ l. entry.item ∷ l) (declarations_are b home more (All-tail (HasItem b home) entry more all))

sorted_items : (declared : List Declared) → IsSorted declared_order declared → IsSortedByKey item_name (slice_cmp nat_cmp) (map (λ entry. entry.item) declared)
sorted_items [] sorted k d low within = absurd (omega (arith, within))
sorted_items (first ∷ more) sorted k d low within =
    let long : k + 1 < length (first ∷ more) = omega (arith, within, length-map (first ∷ more) (λ (entry : Declared). entry.item)) in
    subst (λ x. is_lt (slice_cmp nat_cmp (item_name (get_or (map (λ (entry : Declared). entry.item) (first ∷ more)) (k + 1) d)) (item_name x)) ≡ false) (sym (get_or-map (λ (entry : Declared). entry.item) (first ∷ more) k first d (omega arith)))
    (
    subst (λ x. is_lt (slice_cmp nat_cmp (item_name x) (item_name (get_or (first ∷ more) k first).item)) ≡ false) (sym (get_or-map (λ (entry : Declared). entry.item) (first ∷ more) (k + 1) first d long))
    (sorted k first low long)
    )

-- ---- the module

pub winnowed_is : (b : Basis) (home : ℕ) (members : List Member) (m w : Module) (defined : List Named) (noted : List Named) (declared : List Declared) (names : List Named) (places : Places) (items : List Item) → All (IsWritable b home) members
    → defined ≡ map (name_of b) members → All HasRow defined → noted ≡ noted_all defined [] (flat_map (uses b home) members) → IsPermutation noted (map (λ entry. entry.named) declared) → All (HasItem b home) declared
    → IsSorted declared_order declared → names ≡ defined ++ map (λ entry. entry.named) declared → ArePlaced names places → items ≡ flat_map (definition b home (place_in places)) members
    → w.layout ≡ m.layout → w.triple ≡ m.triple → w.items ≡ items ++ map (λ entry. entry.item) declared → IsWinnowedModule b members home m w
winnowed_is b home members m w defined noted declared names places items writable defined_is rows noted_is moved have sorted names_are placed items_are layout triple made = record {
  layout = layout;
  triple = triple;
  declared = map (λ entry. entry.named) declared;
  are_declared = subst (λ l. AreDeclared (flat_map (uses b home) members) l (map (λ (entry : Declared). entry.named) declared)) defined_is
      (
      noted_moved (flat_map (uses b home) members) defined noted (map (λ (entry : Declared). entry.named) declared)
      (subst (AreNoted (flat_map (uses b home) members) defined) (sym noted_is) (noted_by_members b home members defined rows writable)) moved
      );
  by_names = subst (IsSortedByKey item_name (slice_cmp nat_cmp)) (sym (declarations_are b home declared have)) (sorted_items declared sorted);
  place = place_in places;
  placed = subst (λ l. All (λ named. slice_get l (place_in places named) ≡ Some named) l) (names_are ∙ ap (λ l. l ++ map (λ (entry : Declared). entry.named) declared) defined_is) placed;
  items = made ∙ ap (λ l. l ++ map (λ (entry : Declared). entry.item) declared) items_are ∙ ap (λ l. flat_map (definition b home (place_in places)) members ++ l) (sym (declarations_are b home declared have));
}

-- all names have rows
pub all_rows : (b : Basis) (home : ℕ) (members : List Member) (defined noted : List Named) (declared : List Declared) (names : List Named) → All (IsWritable b home) members → All HasRow defined → noted ≡ noted_all defined [] (flat_map (uses b home) members)
    → IsPermutation noted (map (λ entry. entry.named) declared) → names ≡ defined ++ map (λ entry. entry.named) declared → All HasRow names
all_rows b home members defined noted declared names writable rows noted_is moved names_are =
    subst (All HasRow) (sym names_are)
    (All-append HasRow defined (map (λ (entry : Declared). entry.named) declared) rows
    (All-permutation HasRow noted (map (λ (entry : Declared). entry.named) declared) moved (subst (All HasRow) (sym noted_is) (noted_by_members b home members defined rows writable).rows)))

-- one declaration more
pub declared_next : (made next : List Declared) (names : List Named) (i : ℕ) (named : Named) (d : Declared) → i < length names → named ≡ get_or names i named → map (λ (x : Declared). x.named) made ++ drop i names ≡ names → d.named ≡ named → next ≡ made ++ d ∷ []
    → map (λ (x : Declared). x.named) next ++ drop (i + 1) names ≡ names
declared_next made next names i named d within is so same pushed =
    ap (λ l. map (λ (x : Declared). x.named) l ++ drop (i + 1) names) pushed
    ∙ ap (λ l. l ++ drop (i + 1) names) (map-append (λ (x : Declared). x.named) made (d ∷ []))
    ∙ append_assoc (map (λ (x : Declared). x.named) made) (d.named ∷ []) (drop (i + 1) names)
    ∙ ap (λ x. map (λ (y : Declared). y.named) made ++ x ∷ drop (i + 1) names) same
    ∙ ap (λ l. map (λ (x : Declared). x.named) made ++ l) (sym (drop_at names i named within is))
    ∙ so
