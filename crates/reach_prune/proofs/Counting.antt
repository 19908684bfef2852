-- Counts that stand still at their most.
use Rattle.std.proofs.Common.{◌≡◌, ◌∙◌, ℕ, ◌+◌, ◌-◌, ◌^◌, ◌<◌, ◌≤◌, List, [], length, map, drop, min, refl, ap, sym, arith}
use Rattle.std.specs.Prelude.{sum}
use Rattle.std.proofs.lemmas.List.{drop_all}

-- all were looked at
pub counted : {X : Type 0} (f : X → ℕ) (xs : List X) (k count whole : ℕ) → length xs ≤ k → count < 2 ^ 64 → min (count + sum (map f (drop k xs))) (2 ^ 64 - 1) ≡ whole → count ≡ whole
counted f xs k count whole past few so = most count few ∙ sym (ap (λ l. min (count + sum (map f l)) (2 ^ 64 - 1)) (drop_all k xs past)) ∙ so
  where
    most : (n : ℕ) → n < 2 ^ 64 → n ≡ min (n + 0) (2 ^ 64 - 1)
    most n less = omega (arith, less)
