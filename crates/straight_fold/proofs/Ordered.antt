-- Lists in the order of demands.
use Rattle.std.proofs.Common.{◌≡◌, ◌≢◌, ℕ, zero, suc, ◌+◌, ◌<◌, ◌⊎◌, inl, inr, All, AllPairs, Contains, List, [], ◌∷◌, length, get_or, refl, sym, subst, ◌∙◌, arith}
use Rattle.std.specs.declared.cmp.Ordering.TheVariants.{Less, Equal}
use Rattle.std.proofs.lemmas.Cmp.{tied_itself}
use Rattle.std.proofs.lemmas.List.Elements.{All-nil, All-cons, All-head, All-tail, All-weaker, All-contains}
use Rattle.std.proofs.lemmas.Map.Made.{Contains-tail}
use Rattle.demands.specs.declared.demand.Demand.{Demand}
use Rattle.demands.specs.Order.{demand_order}
use Rattle.demands.specs.TotalOrder.{demand_total}

pub not-below-itself : (a : Demand) → demand_order a a ≡ Less → ⊥
not-below-itself a below =
    let tie = tied_itself demand_total a in
    let clash : Less ≡ Equal = sym below ∙ tie in
    (cc)

module _ {X : Type 0} (key : X → Demand) where
  abbrev pub IsBefore : X → X → Type 0
  IsBefore x y = demand_order (key x) (key y) ≡ Less

  -- each before those after it
  abbrev pub Rises : List X → Type 0
  Rises [] = Unit {0}
  Rises (x ∷ xs) = All (IsBefore x) xs × Rises xs

  pub rises-pairs : (xs : List X) → Rises xs → AllPairs (λ x y. demand_order (key x) (key y) ≡ Less) xs
  rises-pairs [] up i j d before within = absurd (omega (arith, within))
  rises-pairs (x ∷ xs) up i zero d before within = absurd (omega (arith, before))
  rises-pairs (x ∷ xs) up zero (suc j) d before within = up.0 j d (omega (arith, within))
  rises-pairs (x ∷ xs) up (suc i) (suc j) d before within = rises-pairs xs up.1 i j d (omega (arith, before)) (omega (arith, within))

  pub pairs-rise : (xs : List X) → AllPairs (λ x y. demand_order (key x) (key y) ≡ Less) xs → Rises xs
  pairs-rise [] up = tt
  pairs-rise (x ∷ xs) up = (
    (λ k d within. up 0 (suc k) d (omega arith) (omega (arith, within))),
    pairs-rise xs (λ i j d before within. up (suc i) (suc j) d (omega (arith, before)) (omega (arith, within))),
  )

  before-all : (x y : X) (ys : List X) → IsBefore x y → All (IsBefore y) ys → All (IsBefore x) ys
  before-all x y ys first rest = All-weaker (IsBefore y) (IsBefore x) (λ z below. demand_total.trans (key x) (key y) (key z) first below) ys rest

  -- where neighbours rise, all do
  pub rise-from : (xs : List X) → ((k : ℕ) (d : X) → k + 1 < length xs → demand_order (key (get_or xs k d)) (key (get_or xs (k + 1) d)) ≡ Less) → Rises xs
  rise-from [] up = tt
  rise-from (x ∷ []) up = (All-nil (IsBefore x), tt)
  rise-from (x ∷ y ∷ ys) up =
      let later : (k : ℕ) (d : X) → k + 1 < length (y ∷ ys) → demand_order (key (get_or (y ∷ ys) k d)) (key (get_or (y ∷ ys) (k + 1) d)) ≡ Less =
      λ k d within. let at : suc k + 1 ≡ suc (k + 1) = omega arith in
      subst (λ (n : ℕ). demand_order (key (get_or (y ∷ ys) k d)) (key (get_or (x ∷ y ∷ ys) n d)) ≡ Less) at (up (suc k) d (omega (arith, within))) in
      let rest = rise-from (y ∷ ys) later in
      let first : IsBefore x y = up 0 x (omega arith) in
      (All-cons (IsBefore x) y ys first (before-all x y ys first rest.0), rest)

  -- ---- lists in order with the same elements are one

  differs : (x y : X) → IsBefore x y → x ≢ y
  differs x y below same = not-below-itself (key x) (subst (λ (z : X). demand_order (key x) (key z) ≡ Less) (sym same) below)

  cases-of : (y : X) (ys : List X) (x : X) → Contains (y ∷ ys) x → (y ≡ x) ⊎ Contains ys x
  cases-of y ys x at = by at.0 at.1 at.2
    where
      by : (k : ℕ) → k < length (y ∷ ys) → get_or (y ∷ ys) k x ≡ x → (y ≡ x) ⊎ Contains ys x
      by zero within is = inl is
      by (suc k) within is = inr (k, omega (arith, within), is)

  first-same : (x : X) (xs : List X) (y : X) (ys : List X) → Rises (x ∷ xs) → Rises (y ∷ ys) → Contains (y ∷ ys) x → Contains (x ∷ xs) y → x ≡ y
  first-same x xs y ys up other there back =
      elim (cases-of y ys x there) [
        | inl same ↦ sym same
        | inr later ↦ elim (cases-of x xs y back) [
          | inl same ↦ same
          | inr after ↦
              absurd (not-below-itself (key x) (demand_total.trans (key x) (key y) (key x) (All-contains (IsBefore x) xs y up.0 after) (All-contains (IsBefore y) ys x other.0 later)))
        ]
      ]

  tail-inside : (x : X) (xs ys : List X) → Rises (x ∷ xs) → All (Contains (x ∷ ys)) (x ∷ xs) → All (Contains ys) xs
  tail-inside x xs ys up all k d within =
      Contains-tail x ys (get_or xs k d) (differs x (get_or xs k d) (up.0 k d within)) (All-tail (Contains (x ∷ ys)) x xs all k d within)

  pub ordered-same : (xs ys : List X) → Rises xs → Rises ys → All (Contains ys) xs → All (Contains xs) ys → xs ≡ ys
  ordered-same [] [] up other there back = refl
  ordered-same [] (y ∷ ys) up other there back = absurd (omega (arith, (All-head (Contains []) y ys back).1))
  ordered-same (x ∷ xs) [] up other there back = absurd (omega (arith, (All-head (Contains []) x xs there).1))
  ordered-same (x ∷ xs) (y ∷ ys) up other there back =
      let same = first-same x xs y ys up other (All-head (Contains (y ∷ ys)) x xs there) (All-head (Contains (x ∷ xs)) y ys back) in
      let other' = subst (λ (z : X). Rises (z ∷ ys)) (sym same) other in
      let there' = subst (λ (z : X). All (Contains (z ∷ ys)) (x ∷ xs)) (sym same) there in
      let back' = subst (λ (z : X). All (Contains (x ∷ xs)) (z ∷ ys)) (sym same) back in
      let rest = ordered-same xs ys up.1 other'.1 (tail-inside x xs ys up there') (tail-inside x ys xs other' back') in
      λ i. same i ∷ rest i
