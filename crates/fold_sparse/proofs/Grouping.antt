-- Groups while pairs are put into them.
use Rattle.std.proofs.Common.{◌≡◌, ◌≢◌, ◌∙◌, ℕ, zero, suc, ◌+◌, ◌<◌, ◌≤◌, inl, inr, Bool, true, false, cond, List, [], ◌∷◌, ◌++◌, length, take, get_or, refl, sym, ap, subst, arith, length-append}
use Rattle.std.specs.Prelude.{◌==◌, slice_set}
use Rattle.std.proofs.lemmas.Bool.{eqb-true, eq-eqb}
use Rattle.std.proofs.lemmas.List.{length-set, take_more, take_all}
use Rattle.fold_facts.proofs.Lists.{is_or_not, set_same, set_other}
use Rattle.fold_sparse.specs.Groups.{members, group_or, group_at, AreGrouped}

-- as far as the first n pairs
pub record IsGrouped (groups : List (List ℕ)) (count : ℕ) (pairs : List (ℕ × ℕ)) (n : ℕ) : Type 0 where
  pub long : length groups ≡ count
  pub each : (key : ℕ) → key < count → group_at groups key ≡ members (take n pairs) key

pub members_push : (pairs : List (ℕ × ℕ)) (pair : ℕ × ℕ) (key : ℕ) → members (pairs ++ pair ∷ []) key ≡ members pairs key ++ members (pair ∷ []) key
members_push [] pair key = refl
members_push (p ∷ ps) pair key = by (p.0 == key) (members_push ps pair key)
  where
    by : (b : Bool) → members (ps ++ pair ∷ []) key ≡ members ps key ++ members (pair ∷ []) key
        → cond b (p.1 ∷ members (ps ++ pair ∷ []) key) (members (ps ++ pair ∷ []) key) ≡ cond b (p.1 ∷ members ps key) (members ps key) ++ members (pair ∷ []) key
    by true h = ap (λ l. p.1 ∷ l) h
    by false h = h

append_none : {A : Type 0} (xs : List A) → xs ++ [] ≡ xs
append_none [] = refl
append_none (x ∷ xs) = ap (λ l. x ∷ l) (append_none xs)

none_taken : (pairs : List (ℕ × ℕ)) → take 0 pairs ≡ []
none_taken [] = refl
none_taken (p ∷ ps) = refl

pub grouped_none : (pairs : List (ℕ × ℕ)) → IsGrouped [] 0 pairs 0
grouped_none pairs = record { long = refl; each = λ key less. absurd (omega (arith, less)) }

group_at_none : (key : ℕ) → group_at [] key ≡ []
group_at_none key = refl

pub grouped_more : (groups : List (List ℕ)) (count : ℕ) (pairs : List (ℕ × ℕ)) → IsGrouped groups count pairs 0 → IsGrouped (groups ++ [] ∷ []) (count + 1) pairs 0
grouped_more groups count pairs h = record {
  long = omega (arith, h.long, length-append groups ([] ∷ []));
  each = λ key less. at groups key ∙ sym (ap (λ l. members l key) (none_taken pairs));
}
  where
    old : (key : ℕ) → key < count → group_at groups key ≡ []
    old key less = h.each key less ∙ ap (λ l. members l key) (none_taken pairs)

    last : (gs : List (List ℕ)) (key : ℕ) → ((k : ℕ) → k < length gs → group_at gs k ≡ []) → group_at (gs ++ [] ∷ []) key ≡ []
    last [] zero g = refl
    last [] (suc key) g = refl
    last (x ∷ xs) zero g = g 0 (omega arith)
    last (x ∷ xs) (suc key) g = last xs key (λ k less. g (suc k) (omega (arith, less)))

    at : (gs : List (List ℕ)) (key : ℕ) → group_at (groups ++ [] ∷ []) key ≡ []
    at gs key = last groups key (λ k less. old k (omega (arith, less, h.long)))

pub grouped_next : (groups next : List (List ℕ)) (count : ℕ) (pairs : List (ℕ × ℕ)) (n key number : ℕ) → IsGrouped groups count pairs n → n < length pairs → (key, number) ≡ get_or pairs n (0, 0)
    → next ≡ slice_set groups key (group_at groups key ++ number ∷ []) → IsGrouped next count pairs (n + 1)
grouped_next groups next count pairs n key number h less is made = subst (λ gs. IsGrouped gs count pairs (n + 1)) (sym made) (record {
  long = length-set groups key (group_at groups key ++ number ∷ []) ∙ h.long;
  each = λ k within.
      let more : members (take (n + 1) pairs) k ≡ members (take n pairs) k ++ members ((key, number) ∷ []) k =
      ap (λ l. members l k) (take_more pairs n (0, 0) less ∙ ap (λ p. take n pairs ++ p ∷ []) (sym is)) ∙ members_push (take n pairs) (key, number) k in
      elim (is_or_not k key) [
        | inl same ↦
            let here : group_at (slice_set groups key (group_at groups key ++ number ∷ [])) key ≡ group_at groups key ++ number ∷ [] = ap group_or (set_same groups key (group_at groups key ++ number ∷ []) (omega (arith, within, same, h.long))) in
            let one : members ((key, number) ∷ []) k ≡ number ∷ [] = ap (λ b. cond b (number ∷ []) []) (eq-eqb key k (sym same)) in
            ap (group_at (slice_set groups key (group_at groups key ++ number ∷ []))) same ∙ here ∙ ap (λ l. l ++ number ∷ []) (h.each key (omega (arith, within, same)) ∙ ap (members (take n pairs)) (sym same))
            ∙ sym (more ∙ ap (λ l. members (take n pairs) k ++ l) one)
        | inr n_same ↦
            let none : members ((key, number) ∷ []) k ≡ [] = ap (λ b. cond b (number ∷ []) []) (not_equal key k (λ e. n_same (sym e))) in
            ap group_or (set_other groups key k (group_at groups key ++ number ∷ []) n_same) ∙ h.each k within ∙ sym (append_none (members (take n pairs) k)) ∙ sym (more ∙ ap (λ l. members (take n pairs) k ++ l) none)
      ];
})
  where
    not_equal : (x y : ℕ) → x ≢ y → (x == y) ≡ false
    not_equal x y ne = by (x == y) refl
      where
        by : (b : Bool) → (x == y) ≡ b → b ≡ false
        by true e = absurd (ne (eqb-true x y e))
        by false e = refl

pub grouped_end : (groups : List (List ℕ)) (count : ℕ) (pairs : List (ℕ × ℕ)) (n : ℕ) → IsGrouped groups count pairs n → length pairs ≤ n → AreGrouped groups count pairs
grouped_end groups count pairs n h all = λ key less. h.each key less ∙ ap (λ l. members l key) (take_all n pairs all)
