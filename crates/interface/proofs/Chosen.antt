-- Chosen elements stand at their ranks, and the ranks that are listed are those of the mask.
use Rattle.std.proofs.Common.{◌≡◌, ◌∙◌, ℕ, zero, suc, ◌+◌, ◌≤◌, ◌<◌, Bool, true, false, List, [], ◌∷◌, None, Some, length, refl, ap, sym, arith}
use Rattle.std.specs.Prelude.{slice_get}
use Rattle.interface.specs.Masks.{chosen, rank, is_chosen}
use Rattle.interface.specs.Mirrors.Ranks.{after, ranks_from}

pub chosen_at : {X : Type 0} (mask : List Bool) (xs : List X) (k : ℕ) → is_chosen mask k ≡ true → slice_get (chosen mask xs) (rank mask k) ≡ slice_get xs k
chosen_at [] xs k set = cc
chosen_at (flag ∷ mask) [] k set = refl
chosen_at (true ∷ mask) (x ∷ xs) zero set = refl
chosen_at (false ∷ mask) (x ∷ xs) zero set = cc
chosen_at (true ∷ mask) (x ∷ xs) (suc k) set = chosen_at mask xs k set
chosen_at (false ∷ mask) (x ∷ xs) (suc k) set = chosen_at mask xs k set

pub chosen_count : {X : Type 0} (mask : List Bool) (xs : List X) → length (chosen mask xs) ≡ rank mask (length xs)
chosen_count [] xs = refl
chosen_count (flag ∷ mask) [] = refl
chosen_count (true ∷ mask) (x ∷ xs) = ap suc (chosen_count mask xs)
chosen_count (false ∷ mask) (x ∷ xs) = chosen_count mask xs

-- ---- the ranks that are listed

pub ranks_long : (n : ℕ) (mask : List Bool) → length (ranks_from n mask) ≡ suc (length mask)
ranks_long n [] = refl
ranks_long n (flag ∷ mask) = ap suc (ranks_long (after flag n) mask)

pub ranks_at : (n : ℕ) (mask : List Bool) (k r : ℕ) → slice_get (ranks_from n mask) k ≡ Some r → r ≡ n + rank mask k
ranks_at n [] zero r is = omega (arith, some_is is)
  where
    some_is : {a b : ℕ} → Some a ≡ Some b → a ≡ b
    some_is e = cc
ranks_at n [] (suc k) r is = cc
ranks_at n (flag ∷ mask) zero r is = omega (arith, some_is is)
  where
    some_is : {a b : ℕ} → Some a ≡ Some b → a ≡ b
    some_is e = cc
ranks_at n (true ∷ mask) (suc k) r is = omega (arith, ranks_at (suc n) mask k r is)
ranks_at n (false ∷ mask) (suc k) r is = ranks_at n mask k r is

-- past the end of the mask none is chosen
pub rank_past : (mask : List Bool) (k : ℕ) → length mask ≤ k → rank mask k ≡ rank mask (length mask)
rank_past [] k past = refl
rank_past (flag ∷ mask) zero past = absurd (omega (arith, past))
rank_past (true ∷ mask) (suc k) past = ap suc (rank_past mask k (omega (arith, past)))
rank_past (false ∷ mask) (suc k) past = rank_past mask k (omega (arith, past))

-- what is listed for a place, and behind the last one nothing
pub listed_at : (ranks : List ℕ) (flags mask : List Bool) (k r : ℕ) → ranks ≡ ranks_from 0 flags → flags ≡ mask → Some r ≡ slice_get ranks k → r ≡ rank mask k
listed_at ranks flags mask k r listed same is = omega (arith, ranks_at 0 mask k r (ap (λ l. slice_get l k) (sym (listed ∙ ap (ranks_from 0) same)) ∙ sym is))

pub listed_past : (ranks : List ℕ) (flags mask : List Bool) (k : ℕ) → ranks ≡ ranks_from 0 flags → flags ≡ mask → None ≡ slice_get ranks k → suc (length mask) ≤ k
listed_past ranks flags mask k listed same is = by (ranks_from 0 mask) k (ap (λ l. slice_get l k) (sym (listed ∙ ap (ranks_from 0) same)) ∙ sym is) (ranks_long 0 mask)
  where
    by : (xs : List ℕ) (n : ℕ) → slice_get xs n ≡ None → length xs ≡ suc (length mask) → suc (length mask) ≤ n
    by xs n h long = omega (arith, long, past xs n h)
      where
        past : (ys : List ℕ) (m : ℕ) → slice_get ys m ≡ None → length ys ≤ m
        past [] m g = omega arith
        past (y ∷ ys) zero g = cc
        past (y ∷ ys) (suc m) g = omega (arith, past ys m g)
