-- The first item of whole modules that something holds of, and lists with an entry for each element.
use Rattle.std.proofs.Common.{◌≡◌, ◌∙◌, ◌⊎◌, inl, inr, ℕ, zero, suc, ◌<◌, List, [], ◌∷◌, Some, length, map, refl, ap, sym, subst, arith}
use Rattle.std.specs.Prelude.{slice_get, option_and_then}
use Rattle.std.proofs.lemmas.Option.{none-some}
use Rattle.ir_syntax.specs.declared.symbol.Sym.{Sym}
use Rattle.ir_syntax.specs.declared.item.Item.{Item}
use Rattle.ir_syntax.specs.declared.item.Module.{Module}
use Rattle.ir_syntax.specs.Symbols.{item_at, IsBefore}
use Rattle.ir_syntax.specs.Targets.{AreEntries}
use Rattle.fold_facts.proofs.Lists.{some_is}
use Rattle.linking_again.proofs.Kept.{Decided}
use Rattle.linking_again.proofs.Places.{stands_in, item_is}

-- ---- the first element

-- The first element of a list that something holds of.
pub record FirstOf {X : Type 0} (P : ℕ → X → Type 0) (xs : List X) : Type 0 where
  pub place : ℕ
  pub found : X
  pub at : slice_get xs place ≡ Some found
  pub holds : P place found
  pub first : (k : ℕ) (x : X) → slice_get xs k ≡ Some x → P k x → k < place → ⊥

abbrev pub NoneOf : {X : Type 0} → (ℕ → X → Type 0) → List X → Type 0
NoneOf {X} P xs = (k : ℕ) (x : X) → slice_get xs k ≡ Some x → P k x → ⊥

pub first_of : {X : Type 0} (P : ℕ → X → Type 0) → ((k : ℕ) (x : X) → Decided (P k x)) → (xs : List X) → FirstOf P xs ⊎ NoneOf P xs
first_of P decide [] = inr (λ k x is h. none-some x is)
first_of {X} P decide (y ∷ ys) = by (decide 0 y) (first_of (λ k x. P (suc k) x) (λ k x. decide (suc k) x) ys)
  where
    by : Decided (P 0 y) → FirstOf (λ k x. P (suc k) x) ys ⊎ NoneOf (λ k x. P (suc k) x) ys → FirstOf P (y ∷ ys) ⊎ NoneOf P (y ∷ ys)
    by (inl h) rest = inl (record { place = 0; found = y; at = refl; holds = h; first = λ k x is g less. omega (arith, less) })
    by (inr never) (inl f) = inl (record { place = suc f.place; found = f.found; at = f.at; holds = f.holds; first = λ k x is g less. before k x is g less })
      where
        before : (k : ℕ) (x : X) → slice_get (y ∷ ys) k ≡ Some x → P k x → k < suc f.place → ⊥
        before zero x is g less = never (subst (P 0) (sym (some_is is)) g)
        before (suc k) x is g less = f.first k x is g (omega (arith, less))
    by (inr never) (inr none) = inr (λ k x is g. nowhere k x is g)
      where
        nowhere : (k : ℕ) (x : X) → slice_get (y ∷ ys) k ≡ Some x → P k x → ⊥
        nowhere zero x is g = never (subst (P 0) (sym (some_is is)) g)
        nowhere (suc k) x is g = none k x is g

-- ---- the first item

-- The first item of these modules that something holds of, by module and then by item.
pub record FirstItem (P : Sym → Item → Type 0) (modules : List Module) : Type 0 where
  pub symbol : Sym
  pub found : Item
  pub stands : item_at modules symbol ≡ Some found
  pub holds : P symbol found
  pub first : (other : Sym) (item : Item) → item_at modules other ≡ Some item → P other item → IsBefore other symbol → ⊥

abbrev pub NoItem : (Sym → Item → Type 0) → List Module → Type 0
NoItem P modules = (symbol : Sym) (found : Item) → item_at modules symbol ≡ Some found → P symbol found → ⊥

pub first_item : (P : Sym → Item → Type 0) → ((symbol : Sym) (found : Item) → Decided (P symbol found)) → (modules : List Module) → FirstItem P modules ⊎ NoItem P modules
first_item P decide modules = by (first_of (λ i m. FirstOf (λ j found. P (record { «module» = i; item = j }) found) m.items) (λ i m. in_module i m) modules)
  where
    in_module : (i : ℕ) (m : Module) → FirstOf (λ j found. P (record { «module» = i; item = j }) found) m.items ⊎ (FirstOf (λ j found. P (record { «module» = i; item = j }) found) m.items → ⊥)
    in_module i m = to (first_of (λ j found. P (record { «module» = i; item = j }) found) (λ j found. decide (record { «module» = i; item = j }) found) m.items)
      where
        to : FirstOf (λ j found. P (record { «module» = i; item = j }) found) m.items ⊎ NoneOf (λ j found. P (record { «module» = i; item = j }) found) m.items
            → FirstOf (λ j found. P (record { «module» = i; item = j }) found) m.items ⊎ (FirstOf (λ j found. P (record { «module» = i; item = j }) found) m.items → ⊥)
        to (inl f) = inl f
        to (inr none) = inr (λ f. none f.place f.found f.at f.holds)

    by : FirstOf (λ i m. FirstOf (λ j found. P (record { «module» = i; item = j }) found) m.items) modules ⊎ NoneOf (λ i m. FirstOf (λ j found. P (record { «module» = i; item = j }) found) m.items) modules → FirstItem P modules ⊎ NoItem P modules
    by (inl f) = inl (record {
      symbol = record { «module» = f.place; item = f.holds.place };
      found = f.holds.found;
      stands = item_is modules (record { «module» = f.place; item = f.holds.place }) f.found f.at ∙ f.holds.at;
      holds = f.holds.holds;
      first = λ other item is h before. earlier other item is h before;
    })
      where
        earlier : (other : Sym) (item : Item) → item_at modules other ≡ Some item → P other item → IsBefore other (record { «module» = f.place; item = f.holds.place }) → ⊥
        earlier other item is h (inl less) = let s = stands_in modules other item is in some_there s.home s.stands (first_of (λ j found. P (record { «module» = other.module; item = j }) found) (λ j found. decide (record { «module» = other.module; item = j }) found) s.home.items)
          where
            some_there : (m : Module) → slice_get modules other.module ≡ Some m → FirstOf (λ j found. P (record { «module» = other.module; item = j }) found) m.items ⊎ NoneOf (λ j found. P (record { «module» = other.module; item = j }) found) m.items → ⊥
            some_there m e (inl g) = f.first other.module m e g less
            some_there m e (inr none) = none other.item item (sym (item_is modules other m e) ∙ is) h
        earlier other item is h (inr (same, less)) =
            f.holds.first other.item item (sym (item_is modules other f.found (ap (slice_get modules) same ∙ f.at)) ∙ is) (subst (λ i. P (record { «module» = i; item = other.item }) item) same h) less
    by (inr none) = inr (λ symbol found is h.
        let s = stands_in modules symbol found is in
        nowhere symbol found h s.home s.stands s.is (first_of (λ j x. P (record { «module» = symbol.module; item = j }) x) (λ j x. decide (record { «module» = symbol.module; item = j }) x) s.home.items))
      where
        nowhere : (symbol : Sym) (found : Item) → P symbol found → (m : Module) → slice_get modules symbol.module ≡ Some m → slice_get m.items symbol.item ≡ Some found
            → FirstOf (λ j x. P (record { «module» = symbol.module; item = j }) x) m.items ⊎ NoneOf (λ j x. P (record { «module» = symbol.module; item = j }) x) m.items → ⊥
        nowhere symbol found h m e is (inl g) = none symbol.module m e g
        nowhere symbol found h m e is (inr never) = never symbol.item found is h

-- ---- an entry for each

-- A list with an element for each of these, and what each is.
pub record Built {X : Type 0} {A : Type 0} (Is : ℕ → X → A → Type 0) (xs : List X) : Type 0 where
  pub made : List A
  pub long : length made ≡ length xs
  pub each : (k : ℕ) (x : X) → slice_get xs k ≡ Some x → (y : A) × (slice_get made k ≡ Some y) × Is k x y

pub built : {X A : Type 0} (Is : ℕ → X → A → Type 0) (xs : List X) → ((k : ℕ) (x : X) → slice_get xs k ≡ Some x → (y : A) × Is k x y) → Built Is xs
built Is [] choose = record { made = []; long = refl; each = λ k x is. absurd (none-some x is) }
built {X} {A} Is (x ∷ xs) choose =
    let one = choose 0 x refl in
    let rest = built (λ k y z. Is (suc k) y z) xs (λ k y is. choose (suc k) y is) in
    record { made = one.0 ∷ rest.made; long = ap suc rest.long; each = λ k y is. each one.0 rest.made one.1 rest.each k y is }
  where
    each : (z : A) (zs : List A) → Is 0 x z → ((k : ℕ) (y : X) → slice_get xs k ≡ Some y → (u : A) × (slice_get zs k ≡ Some u) × Is (suc k) y u) → (k : ℕ) (y : X) → slice_get (x ∷ xs) k ≡ Some y → (u : A) × (slice_get (z ∷ zs) k ≡ Some u) × Is k y u
    each z zs h more zero y is = (z, refl, subst (λ v. Is 0 v z) (some_is is) h)
    each z zs h more (suc k) y is = more k y is

lengths_are : {A : Type 0} (rows : List (List A)) (modules : List Module) → length rows ≡ length modules → ((k : ℕ) (m : Module) (row : List A) → slice_get modules k ≡ Some m → slice_get rows k ≡ Some row → length row ≡ length m.items)
    → map length rows ≡ map (λ (m : Module). length m.items) modules
lengths_are [] [] long each = refl
lengths_are [] (m ∷ ms) long each = absurd (omega (arith, long))
lengths_are (r ∷ rs) [] long each = absurd (omega (arith, long))
lengths_are (r ∷ rs) (m ∷ ms) long each =
    let one : length r ≡ length m.items = each 0 m r refl refl in
    let rest : map length rs ≡ map (λ (x : Module). length x.items) ms = lengths_are rs ms (omega (arith, long)) (λ k x row at too. each (suc k) x row at too) in
    λ i. one i ∷ rest i

-- a row with an entry for each item of a module
record RowFor {A : Type 0} (modules : List Module) (Is : Sym → Item → A → Type 0) (i : ℕ) (m : Module) (row : List A) : Type 0 where
  long_row : length row ≡ length m.items
  entry : (j : ℕ) (found : Item) → slice_get m.items j ≡ Some found → (x : A) × (slice_get row j ≡ Some x) × Is (record { «module» = i; item = j }) found x

-- There are entries for all items, where there is one for each.
pub entries : {A : Type 0} (modules : List Module) (Is : Sym → Item → A → Type 0) → ((symbol : Sym) (found : Item) → item_at modules symbol ≡ Some found → (x : A) × Is symbol found x) → (rows : List (List A)) × AreEntries A modules Is rows
entries {A} modules Is choose = to (built (RowFor modules Is) modules (λ i m at.
    let row = built (λ j found x. Is (record { «module» = i; item = j }) found x) m.items (λ j found is. choose (record { «module» = i; item = j }) found (item_is modules (record { «module» = i; item = j }) m at ∙ is)) in
    (row.made, record { long_row = row.long; entry = row.each })))
  where
    to : Built (RowFor modules Is) modules → (rows : List (List A)) × AreEntries A modules Is rows
    to all = (
      all.made,
      record {
        lengths = lengths_are all.made modules all.long (λ k m row at too. let r = all.each k m at in subst (λ (l : List A). length l ≡ length m.items) (some_is (sym r.1 ∙ too)) r.2.long_row);
        each = λ symbol found is.
            let s = stands_in modules symbol found is in
            let r = all.each symbol.module s.home s.stands in
            let e = r.2.entry symbol.item found s.is in
            record { entry = e.0; stands = ap (option_and_then (λ (row : List A). slice_get row symbol.item)) r.1 ∙ e.1; is = e.2 };
      },
    )
