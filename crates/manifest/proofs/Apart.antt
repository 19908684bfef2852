-- How many names of a list differ, counted over references to them.
use Rattle.std.proofs.Common.{◌≡◌, ℕ, List, [], ◌∷◌, length, map, Bool, true, false, cond, Bor, Ordering, bytes_eq, refl, sym, ap, ◌∙◌}
use Rattle.std.specs.Cmp.{IsTotalOrder}
use Rattle.std.specs.Cmp.Lexicographic.{slice_cmp, nat_list_cmp_total}
use Rattle.std.specs.Ordering.{nat_cmp, eq_by_cmp}
use Rattle.std.proofs.lemmas.Cmp.{on_total}
use Rattle.std.proofs.lemmas.List.{length-map}
use Rattle.std.specs.Set.{distinct_count, unique_keys, is_member}
use Rattle.std.proofs.lemmas.Map.Text.{is_eq-slice_cmp}

module _ {A B : Type 0} (E : A → A → Bool) (F : B → B → Bool) (v : A → B) (same : (x y : A) → E x y ≡ F (v x) (v y)) where
  is_member-map : (xs : List A) (q : A) → is_member E xs q ≡ is_member F (map v xs) (v q)
  is_member-map [] q = refl
  is_member-map (x ∷ xs) q = rw (same q x, is_member-map xs q)

  unique_keys-map : (xs : List A) → map v (unique_keys E xs) ≡ unique_keys F (map v xs)
  unique_keys-map [] = refl
  unique_keys-map (x ∷ xs) = rw (← is_member-map xs x) (pick (is_member E xs x) x xs (unique_keys-map xs))
    where
      pick : (b : Bool) (x : A) (xs : List A) → map v (unique_keys E xs) ≡ unique_keys F (map v xs) → map v (cond b (unique_keys E xs) (x ∷ unique_keys E xs)) ≡ cond b (unique_keys F (map v xs)) (v x ∷ unique_keys F (map v xs))
      pick true x xs e = e
      pick false x xs e = ap (λ ys. v x ∷ ys) e

  distinct_count-map : (xs : List A) → distinct_count E xs ≡ distinct_count F (map v xs)
  distinct_count-map xs = sym (length-map (unique_keys E xs) v) ∙ ap length (unique_keys-map xs)

-- references to names differ as the names do
abbrev pub by_name : Bor (List ℕ) → Bor (List ℕ) → Ordering
by_name a b = slice_cmp nat_cmp a.now b.now

pub by_name-total : IsTotalOrder by_name
by_name-total = on_total (λ b. b.now) nat_list_cmp_total

pub distinct_count-names : (xs : List (Bor (List ℕ))) → distinct_count (eq_by_cmp by_name) xs ≡ distinct_count bytes_eq (map (λ b. b.now) xs)
distinct_count-names xs = distinct_count-map (eq_by_cmp by_name) bytes_eq (λ b. b.now) (λ a b. is_eq-slice_cmp a.now b.now) xs
