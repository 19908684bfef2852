-- Names that are taken, and the first copy that has one.
use Rattle.std.proofs.Common.{◌≡◌, ◌∙◌, ◌⊎◌, inl, inr, ℕ, zero, suc, ◌+◌, ◌<◌, ◌≤◌, Bool, true, false, List, [], ◌∷◌, ◌++◌, Option, None, Some, All, length, map, take, drop, get_or, refl, sym, ap, subst, arith, bytes_eq}
use Rattle.std.specs.Prelude.{◌||◌, is_some, MatchBool, Contains, flat_map, if◌then◌else◌}
use Rattle.std.proofs.lemmas.Bool.{false≢true}
use Rattle.std.proofs.lemmas.List.{append-nil, append_assoc, take-append-drop, map-append, take_all}
use Rattle.std.proofs.lemmas.List.Concat.{flat_map-append}
use Rattle.std.proofs.lemmas.List.Elements.{All-nil, All-cons, All-head, All-tail, All-append, All-weaker}
use Rattle.std.proofs.lemmas.Slice.Eq.{bytes_eq-Decides}
use Rattle.ir_types.proofs.ListSteps.{take_at, drop_at}
use Rattle.ir_syntax.specs.declared.item.Item.{Item}
use Rattle.ir_syntax.specs.declared.item.Module.{Module}
use Rattle.ir_syntax.specs.FormedBody.{item_name}
use Rattle.name_table.specs.Places.{is_among, place_among}
use Rattle.name_table.proofs.NameLists.{placed_among, not_placed}
use Rattle.winnowed_form.specs.declared.member.Member.{Member}
use Rattle.winnowed_form.specs.declared.winnowed.ShapeFault.{ShapeFault}
use Rattle.winnowed_form.specs.declared.winnowed.ShapeFault.TheVariants.{NameClash, OutOfMemory}
use Rattle.winnowed_form.specs.Basis.{Basis}
use Rattle.winnowed_form.specs.Clashes.{item_names, copy_name_of, copy_names, AreFree, IsFirstTaken}
use Rattle.reach_prune.specs.Mirrors.Taken.{HaveNames, AreNew, IsTaken, IsFirst}

-- ---- names among names

same_name : (a b : List ℕ) → bytes_eq a b ≡ true → a ≡ b
same_name a b e = (bytes_eq-Decides a b).0 e

or_true : (b : Bool) → (b || true) ≡ true
or_true true = refl
or_true false = refl

or_false : (b : Bool) → (b || false) ≡ b
or_false true = refl
or_false false = refl

or_assoc : (a b c : Bool) → ((a || b) || c) ≡ (a || (b || c))
or_assoc true b c = refl
or_assoc false b c = refl

pub among_append : (name : List ℕ) (xs ys : List (List ℕ)) → is_among name (xs ++ ys) ≡ (is_among name xs || is_among name ys)
among_append name [] ys = refl
among_append name (x ∷ xs) ys = by (bytes_eq name x) (among_append name xs ys)
  where
    by : (b : Bool) → is_among name (xs ++ ys) ≡ (is_among name xs || is_among name ys) → (if b then true else is_among name (xs ++ ys)) ≡ ((if b then true else is_among name xs) || is_among name ys)
    by true more = refl
    by false more = more

-- a name that is there already changes nothing
among_again : (name added : List ℕ) (names : List (List ℕ)) → is_among added names ≡ true → is_among name names ≡ (is_among name names || is_among name (added ∷ []))
among_again name added names there = by (bytes_eq name added) refl
  where
    by : (b : Bool) → bytes_eq name added ≡ b → is_among name names ≡ (is_among name names || (if b then true else false))
    by true e = ap (λ n. is_among n names) (same_name name added e) ∙ there ∙ sym (or_true (is_among name names))
    by false e = sym (or_false (is_among name names))

-- one more name was added, or was there
pub names_added : (name added : List ℕ) (old new : List (List ℕ)) (b : Bool) → MatchBool b ((is_among added old ≡ false) × (new ≡ old ++ added ∷ [])) ((is_among added old ≡ true) × (new ≡ old)) → is_among name new ≡ (is_among name old || is_among name (added ∷ []))
names_added name added old new true is = ap (is_among name) is.1 ∙ among_append name old (added ∷ [])
names_added name added old new false is = ap (is_among name) is.1 ∙ among_again name added old is.0

pub items_next : (name : List ℕ) (items : List Item) (k : ℕ) (item : Item) (first old new : List (List ℕ)) → k < length items → item ≡ get_or items k item → is_among name old ≡ (is_among name first || is_among name (map item_name (take k items)))
    → is_among name new ≡ (is_among name old || is_among name (item_name item ∷ [])) → is_among name new ≡ (is_among name first || is_among name (map item_name (take (k + 1) items)))
items_next name items k item first old new within is so added =
    added
    ∙ ap (λ b. b || is_among name (item_name item ∷ [])) so
    ∙ or_assoc (is_among name first) (is_among name (map item_name (take k items))) (is_among name (item_name item ∷ []))
    ∙ ap (λ b. is_among name first || b) (sym (among_append name (map item_name (take k items)) (item_name item ∷ [])))
    ∙ ap (λ l. is_among name first || is_among name l) (sym (ap (map item_name) (take_at items k item within is) ∙ map-append item_name (take k items) (item ∷ [])))

pub modules_next : (name : List ℕ) (modules : List Module) (k : ℕ) (m : Module) (old new : List (List ℕ)) → k < length modules → m ≡ get_or modules k m → is_among name old ≡ is_among name (item_names (take k modules))
    → is_among name new ≡ (is_among name old || is_among name (map item_name m.items)) → is_among name new ≡ is_among name (item_names (take (k + 1) modules))
modules_next name modules k m old new within is so added =
    added
    ∙ ap (λ b. b || is_among name (map item_name m.items)) so
    ∙ sym (among_append name (item_names (take k modules)) (map item_name m.items))
    ∙ ap (λ l. is_among name (item_names (take k modules) ++ l)) (sym (append-nil (map item_name m.items)))
    ∙ ap (is_among name) (sym (ap item_names (take_at modules k m within is) ∙ flat_map-append (λ (x : Module). map item_name x.items) (take k modules) (m ∷ [])))

-- ---- what is among names, they contain

pub contained : (name : List ℕ) (names : List (List ℕ)) → is_among name names ≡ true → Contains names name
contained name [] e = absurd (false≢true e)
contained name (x ∷ xs) e = by (contained name xs) (bytes_eq name x) refl e
  where
    later : Contains xs name → Contains (x ∷ xs) name
    later h = (suc h.0, omega (arith, h.1), h.2)

    by : (is_among name xs ≡ true → Contains xs name) → (b : Bool) → bytes_eq name x ≡ b → (if b then true else is_among name xs) ≡ true → Contains (x ∷ xs) name
    by more true is h = (0, omega arith, sym (same_name name x is))
    by more false is h = later (more h)

pub among : (name : List ℕ) (names : List (List ℕ)) → Contains names name → is_among name names ≡ true
among name [] h = absurd (omega (arith, h.1))
among name (x ∷ xs) h = by (among name xs) h.0 h.1 h.2
  where
    head : (b : Bool) → bytes_eq name x ≡ b → b ≡ true → (if bytes_eq name x then true else is_among name xs) ≡ true
    head b e t = ap (λ b. if b then true else is_among name xs) (e ∙ t)

    tail : (b : Bool) → is_among name xs ≡ true → (if b then true else is_among name xs) ≡ true
    tail true h = refl
    tail false h = h

    by : (Contains xs name → is_among name xs ≡ true) → (k : ℕ) → k < length (x ∷ xs) → get_or (x ∷ xs) k name ≡ name → is_among name (x ∷ xs) ≡ true
    by more zero within is = head (bytes_eq name x) refl ((bytes_eq-Decides name x).1 (sym is))
    by more (suc k) within is = tail (bytes_eq name x) (more (k, omega (arith, within), is))

-- ---- copies

-- Names that are new are free.
pub free_from_new : (modules : List Module) (taken names : List (List ℕ)) → HaveNames (item_names modules) taken → AreNew taken names → AreFree modules names
free_from_new modules taken names have new =
    All-weaker (λ name. is_among name taken ≡ false) (λ name. Contains (item_names modules) name → ⊥) (λ name none there. false≢true (sym none ∙ have name ∙ among name (item_names modules) there)) names new

pub copies_next : (b : Basis) (taken : List (List ℕ)) (members : List Member) (k : ℕ) (member : Member) → k < length members → member ≡ get_or members k member → AreNew taken (copy_names b (take k members)) → AreNew taken (copy_name_of b member)
    → AreNew taken (copy_names b (take (k + 1) members))
copies_next b taken members k member within is before here =
    subst (AreNew taken) (sym (ap (copy_names b) (take_at members k member within is) ∙ flat_map-append (copy_name_of b) (take k members) (member ∷ [])))
    (All-append (λ name. is_among name taken ≡ false) (copy_names b (take k members)) (copy_names b (member ∷ [])) before (subst (AreNew taken) (sym (append-nil (copy_name_of b member))) here))

-- The first name that is taken.
pub first_taken : (b : Basis) (modules : List Module) (taken : List (List ℕ)) (members : List Member) (k : ℕ) (member : Member) (name : List ℕ) → HaveNames (item_names modules) taken → k < length members → member ≡ get_or members k member
    → AreNew taken (copy_names b (take k members)) → (copy_name_of b member ≡ name ∷ []) × (is_among name taken ≡ true) → IsFirstTaken modules (copy_names b members) name
first_taken b modules taken members k member name have within is before here = record {
  before = copy_names b (take k members);
  after = copy_names b (drop (k + 1) members);
  stands = ap (copy_names b) (sym (take-append-drop k members) ∙ ap (λ l. take k members ++ l) (drop_at members k member within is))
      ∙ flat_map-append (copy_name_of b) (take k members) (member ∷ drop (k + 1) members)
      ∙ ap (λ l. copy_names b (take k members) ++ (l ++ copy_names b (drop (k + 1) members))) here.0;
  free = free_from_new modules taken (copy_names b (take k members)) have before;
  taken = contained name (item_names modules) (sym (have name) ∙ here.1);
}

pub first_fault : (b : Basis) (modules : List Module) (taken : List (List ℕ)) (members : List Member) (k : ℕ) (member : Member) (fault : ShapeFault) → HaveNames (item_names modules) taken → k < length members → member ≡ get_or members k member
    → AreNew taken (copy_names b (take k members)) → IsTaken taken (copy_name_of b member) fault → IsFirst modules (copy_names b members) fault
first_fault b modules taken members k member (NameClash name) have within is before here = first_taken b modules taken members k member name have within is before here
first_fault b modules taken members k member OutOfMemory have within is before here = tt

-- a name that has a place, or has none
pub among_placed : (name : List ℕ) (names : List (List ℕ)) → is_some (place_among name names) ≡ true → is_among name names ≡ true
among_placed name names e = by (place_among name names) refl e
  where
    by : (o : Option ℕ) → place_among name names ≡ o → is_some o ≡ true → is_among name names ≡ true
    by None is h = absurd (false≢true h)
    by (Some k) is h = placed_among name names k is

pub among_unplaced : (name : List ℕ) (names : List (List ℕ)) → is_some (place_among name names) ≡ false → is_among name names ≡ false
among_unplaced name names e = by (place_among name names) refl e
  where
    by : (o : Option ℕ) → place_among name names ≡ o → is_some o ≡ false → is_among name names ≡ false
    by None is h = not_placed name names is
    by (Some k) is h = absurd (false≢true (sym h))
