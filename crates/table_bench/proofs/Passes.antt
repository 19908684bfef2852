-- All passes are of one table.
use Rattle.std.proofs.Common.{◌≡◌, ℕ, zero, suc, ◌<◌, List, [], ◌∷◌, ◌++◌, length, map, All, refl, subst, arith}
use Rattle.atomic_table.specs.Seated.{TableId}
use Rattle.demand_table.specs.Passes.{PassView, fresh_pass}

module _ {X : Type 0} (P : X → Type 0) where
  pub all_front : (xs : List X) (x : X) → All P (xs ++ x ∷ []) → All P xs
  all_front [] x h k d lt = absurd (omega (arith, lt))
  all_front (y ∷ ys) x h zero d lt = h zero d (omega arith)
  all_front (y ∷ ys) x h (suc k) d lt = all_front ys x (λ k d lt. h (suc k) d (omega (arith, lt))) k d (omega (arith, lt))

  pub all_last : (xs : List X) (x : X) → All P (xs ++ x ∷ []) → P x
  all_last [] x h = h zero x (omega arith)
  all_last (y ∷ ys) x h = all_last ys x (λ k d lt. h (suc k) d (omega (arith, lt)))

  pub all_snoc : (xs : List X) (x : X) → All P xs → P x → All P (xs ++ x ∷ [])
  all_snoc [] x h p zero d lt = p
  all_snoc [] x h p (suc k) d lt = absurd (omega (arith, lt))
  all_snoc (y ∷ ys) x h p zero d lt = h zero d (omega arith)
  all_snoc (y ∷ ys) x h p (suc k) d lt = all_snoc ys x (λ k d lt. h (suc k) d (omega (arith, lt))) p k d (omega (arith, lt))

pub all_fresh : (table : TableId) (b : ℕ) (l : List ℕ) → All (λ (pass : PassView). pass.table ≡ table) (map (fresh_pass table b) l)
all_fresh table b [] k d lt = absurd (omega (arith, lt))
all_fresh table b (x ∷ xs) zero d lt = refl
all_fresh table b (x ∷ xs) (suc k) d lt = all_fresh table b xs k d (omega (arith, lt))
