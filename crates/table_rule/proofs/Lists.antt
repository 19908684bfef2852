-- What stands in a list.
use Rattle.std.proofs.Common.{◌≡◌, ◌≢◌, ◌⊎◌, ℕ, zero, suc, ◌+◌, ◌<◌, Bool, true, false, not, eqb, cond, List, [], ◌∷◌, ◌++◌, length, map, get_or, set, filter, sym, refl, ap, ◌∙◌, subst, inl, inr, ⊎_elim, arith, eq-eqb, ne_eqb}
use mathlib.Core.Option.{some, some-injective, some-ne-none}
use lib.ListN.{get_elem?}
use Rattle.atomic_table.proofs.Lists.{at_map, at_longer, set_again}
use Rattle.table_rule.specs.Layout.{Has}

module _ {A : Type 0} where
  pub has_none : (a : A) → Has [] a → ⊥
  has_none a h = some-ne-none a (sym h.1)

  pub has_cons : (l : List A) (a b : A) → Has (a ∷ l) b → (a ≡ b) ⊎ Has l b
  has_cons l a b (zero, e) = inl (some-injective a b e)
  has_cons l a b (suc i, e) = inr (i, e)

  pub has_only : (a b : A) → Has (a ∷ []) b → a ≡ b
  has_only a b (zero, e) = some-injective a b e
  has_only a b (suc i, e) = absurd (some-ne-none b (sym e))

  pub has_later : (l : List A) (a b : A) → Has l b → Has (a ∷ l) b
  has_later l a b h = (suc h.0, h.1)

  pub has_here : (l : List A) (a b : A) → a ≡ b → Has (a ∷ l) b
  has_here l a b e = (0, ap some e)

  pub at_snoc : (l : List A) (a b : A) (j : ℕ) → get_elem? (l ++ a ∷ []) j ≡ some b → (get_elem? l j ≡ some b) ⊎ ((j ≡ length l) × (a ≡ b))
  at_snoc [] a b zero e = inr (refl, some-injective a b e)
  at_snoc [] a b (suc j) e = absurd (some-ne-none b (sym e))
  at_snoc (x ∷ xs) a b zero e = inl e
  at_snoc (x ∷ xs) a b (suc j) e = ⊎_elim (λ h. inl h) (λ h. inr (ap suc h.0, h.1)) (at_snoc xs a b j e)

  pub at_within : (l : List A) (j : ℕ) (b : A) → get_elem? l j ≡ some b → j < length l
  at_within [] j b e = absurd (some-ne-none b (sym e))
  at_within (x ∷ xs) zero b e = omega arith
  at_within (x ∷ xs) (suc j) b e = let r = at_within xs j b e in omega arith

  pub at_some : (l : List A) (j : ℕ) → j < length l → (a : A) × (get_elem? l j ≡ some a)
  at_some [] j h = absurd (omega arith)
  at_some (x ∷ xs) zero h = (x, refl)
  at_some (x ∷ xs) (suc j) h = at_some xs j (omega arith)

  -- an element of two lists, one after the other
  pub in_either : (l m : List A) (i : ℕ) (z : A) → get_elem? (l ++ m) i ≡ some z → ((i < length l) × (get_elem? l i ≡ some z)) ⊎ ((j : ℕ) × (i ≡ length l + j) × (get_elem? m j ≡ some z))
  in_either [] m i z e = inr (i, omega arith, e)
  in_either (x ∷ xs) m zero z e = inl (omega arith, e)
  in_either (x ∷ xs) m (suc i) z e = ⊎_elim (λ h. inl (let lt = h.0 in omega arith, h.1)) (λ h. let is : i ≡ length xs + h.0 = h.1 in inr (h.0, omega arith, h.2)) (in_either xs m i z e)

  pub has_right : (l m : List A) (z : A) → Has m z → Has (l ++ m) z
  has_right [] m z h = h
  has_right (x ∷ xs) m z h = let t = has_right xs m z h in (suc t.0, t.1)

  pub has_left : (l m : List A) (z : A) → Has l z → Has (l ++ m) z
  has_left l m z h = (h.0, at_longer l m h.0 z h.1)

  pub has_either : (l m : List A) (z : A) → Has (l ++ m) z → Has l z ⊎ Has m z
  has_either l m z h = ⊎_elim (λ g. inl (h.0, g.1)) (λ g. inr (g.0, g.2)) (in_either l m h.0 z h.1)

  pub has_first : (l : List A) → 0 < length l → (a : A) × Has l a
  has_first [] h = absurd (omega arith)
  has_first (x ∷ xs) h = (x, (0, refl))

module _ {A B : Type 0} (f : A → B) where
  pub has_map : (l : List A) (a : A) → Has l a → Has (map f l) (f a)
  has_map l a h = (h.0, at_map f l h.0 a h.1)

  pub has_mapped : (l : List A) (b : B) → Has (map f l) b → (a : A) × Has l a × (f a ≡ b)
  has_mapped [] b h = absurd (has_none b h)
  has_mapped (x ∷ xs) b (zero, e) = (x, (0, refl), some-injective (f x) b e)
  has_mapped (x ∷ xs) b (suc i, e) = let t = has_mapped xs b (i, e) in (t.0, (suc t.1.0, t.1.1), t.2)

module _ {A : Type 0} (test : A → Bool) where
  pub has_filter : (l : List A) (a : A) → Has l a → test a ≡ true → Has (filter test l) a
  has_filter [] a h t = absurd (has_none a h)
  has_filter (x ∷ xs) a (zero, e) t = let is = some-injective x a e in subst (λ (c : Bool). Has (cond c (x ∷ filter test xs) (filter test xs)) a) (sym (ap test is ∙ t)) (0, ap some is)
  has_filter (x ∷ xs) a (suc i, e) t = let r = has_filter xs a (i, e) t in kept (test x) r
    where
      kept : (c : Bool) → Has (filter test xs) a → Has (cond c (x ∷ filter test xs) (filter test xs)) a
      kept true h = (suc h.0, h.1)
      kept false h = h

  pub has_filtered : (l : List A) (a : A) → Has (filter test l) a → Has l a × (test a ≡ true)
  has_filtered [] a h = absurd (has_none a h)
  has_filtered (x ∷ xs) a h = split (test x) refl (has_filtered xs a) h
    where
      split : (c : Bool) → test x ≡ c → (Has (filter test xs) a → Has xs a × (test a ≡ true)) → Has (cond c (x ∷ filter test xs) (filter test xs)) a → Has (x ∷ xs) a × (test a ≡ true)
      split true e more g = ⊎_elim (λ is. ((0, ap some is), ap test (sym is) ∙ e)) (λ h'. let r = more h' in ((suc r.0.0, r.0.1), r.1)) (has_cons (filter test xs) x a g)
      split false e more g = let r = more g in ((suc r.0.0, r.0.1), r.1)

pub not_eqb : (x y : ℕ) → x ≢ y → not (eqb x y) ≡ true
not_eqb x y ne = ap not (ne_eqb x y ne)

pub eqb_not : (x y : ℕ) → not (eqb x y) ≡ true → x ≢ y
eqb_not x y h e = false_true (sym (ap not (eq-eqb x y e)) ∙ h)
  where
    bit : Bool → ℕ
    bit true = 1
    bit false = 0

    false_true : false ≡ true → ⊥
    false_true e = let z : 0 ≡ 1 = ap bit e in omega (arith, z)

pub at_get : (l : List ℕ) (j : ℕ) → j < length l → get_elem? l j ≡ some (get_or l j 0)
at_get [] j h = absurd (omega arith)
at_get (x ∷ xs) zero h = refl
at_get (x ∷ xs) (suc j) h = at_get xs j (omega arith)

pub read_at : (l : List ℕ) (i a : ℕ) → get_elem? l i ≡ some a → get_or l i 0 ≡ a
read_at [] i a e = absurd (some-ne-none a (sym e))
read_at (x ∷ xs) zero a e = some-injective x a e
read_at (x ∷ xs) (suc i) a e = read_at xs i a e

-- a word written as it was
pub set_same : (l : List ℕ) (i : ℕ) → i < length l → set l i (get_or l i 0) ≡ l
set_same l i h = set_again l i (get_or l i 0) (at_get l i h)
