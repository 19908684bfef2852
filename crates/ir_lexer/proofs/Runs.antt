-- Runs of bytes at the front of a list, against tests on whole lists.
use Rattle.std.proofs.Common.{◌≡◌, ℕ, zero, suc, ◌+◌, ◌≤◌, Bool, true, false, List, [], ◌∷◌, length, take, drop, refl, ⊎_elim, arith}
use Rattle.std.proofs.lemmas.Bool.{and_from, and_parts, cases_Bool}
use Rattle.std.specs.List.{list_all, prefix_len}

-- a proof for each answer of a test
pub by_test : {P : Type 0} (b : Bool) → (b ≡ true → P) → (b ≡ false → P) → P
by_test b at_true at_false = ⊎_elim at_true at_false (cases_Bool b)

module _ (p : ℕ → Bool) where
  -- up to the end of the run each byte passes
  pub run_passes : (xs : List ℕ) (n : ℕ) → n ≤ prefix_len p xs → list_all p (take n xs) ≡ true
  run_passes xs zero le = refl
  run_passes [] (suc n) le = absurd (omega arith)
  run_passes (x ∷ xs) (suc n) le =
      ⊎_elim
      (λ yes. and_from (p x) _ yes (run_passes xs n (let h = rw yes at le in omega arith)))
      (λ no. absurd (let h = rw no at le in omega arith))
      (cases_Bool (p x))

  -- no longer front passes
  pub run_most : (xs : List ℕ) (n : ℕ) → n ≤ length xs → list_all p (take n xs) ≡ true → n ≤ prefix_len p xs
  run_most xs zero le all = omega arith
  run_most [] (suc n) le all = absurd (omega arith)
  run_most (x ∷ xs) (suc n) le all =
      let parts = and_parts (p x) _ all in
      let more : n ≤ prefix_len p xs = run_most xs n (omega arith) parts.1 in
      rw parts.0 (omega arith)

  -- what is left of a run behind a part of it
  pub run_rest : (xs : List ℕ) (n : ℕ) → n ≤ prefix_len p xs → prefix_len p xs ≡ n + prefix_len p (drop n xs)
  run_rest xs zero le = omega arith
  run_rest [] (suc n) le = absurd (omega arith)
  run_rest (x ∷ xs) (suc n) le =
      ⊎_elim
      (λ yes. let h = rw yes at le in let e : prefix_len p xs ≡ n + prefix_len p (drop n xs) = run_rest xs n (omega arith) in rw yes (omega arith))
      (λ no. absurd (let h = rw no at le in omega arith))
      (cases_Bool (p x))
