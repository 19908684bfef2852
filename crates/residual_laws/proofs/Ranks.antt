-- Ranks in masks, and what is chosen from a place on.
use Rattle.std.proofs.Common.{◌≡◌, ◌∙◌, ◌⊎◌, inl, inr, ℕ, zero, suc, ◌+◌, ◌<◌, ◌≤◌, Bool, true, false, List, [], ◌∷◌, ◌++◌, length, drop, refl, ap, sym, arith}
use Rattle.std.specs.Prelude.{if◌then◌else◌}
use Rattle.interface.specs.Masks.{chosen, rank, is_chosen}
use Rattle.interface.proofs.Chosen.{chosen_count}

pub less_or : (m n : ℕ) → (m < n) ⊎ (n ≤ m)
less_or m n = grind arith

abbrev pub one_if : Bool → ℕ
one_if true = 1
one_if false = 0

pub rank_zero : (mask : List Bool) → rank mask 0 ≡ 0
rank_zero [] = refl
rank_zero (flag ∷ mask) = refl

pub rank_next : (mask : List Bool) (k : ℕ) → rank mask (suc k) ≡ rank mask k + one_if (is_chosen mask k)
rank_next [] k = refl
rank_next (true ∷ mask) zero = ap suc (rank_zero mask)
rank_next (false ∷ mask) zero = rank_zero mask
rank_next (true ∷ mask) (suc k) = omega (arith, rank_next mask k)
rank_next (false ∷ mask) (suc k) = rank_next mask k

pub rank_set : (mask : List Bool) (k : ℕ) → is_chosen mask k ≡ true → rank mask (suc k) ≡ suc (rank mask k)
rank_set mask k set = let next : rank mask (suc k) ≡ rank mask k + 1 = rank_next mask k ∙ ap (λ b. rank mask k + one_if b) set in omega (arith, next)

pub rank_unset : (mask : List Bool) (k : ℕ) → is_chosen mask k ≡ false → rank mask (suc k) ≡ rank mask k
rank_unset mask k unset = let next : rank mask (suc k) ≡ rank mask k + 0 = rank_next mask k ∙ ap (λ b. rank mask k + one_if b) unset in omega (arith, next)

pub rank_most : (mask : List Bool) (j k : ℕ) → j ≤ k → rank mask j ≤ rank mask k
rank_most [] j k le = omega arith
rank_most (flag ∷ mask) zero k le = omega arith
rank_most (flag ∷ mask) (suc j) zero le = absurd (omega (arith, le))
rank_most (true ∷ mask) (suc j) (suc k) le = omega (arith, rank_most mask j k (omega (arith, le)))
rank_most (false ∷ mask) (suc j) (suc k) le = rank_most mask j k (omega (arith, le))

pub rank_less : (mask : List Bool) (j k : ℕ) → is_chosen mask j ≡ true → j < k → rank mask j < rank mask k
rank_less mask j k set less = omega (arith, rank_set mask j set, rank_most mask (suc j) k (omega (arith, less)))

-- of two that are chosen, those of one rank are one
pub rank_one : (mask : List Bool) (j k : ℕ) → is_chosen mask j ≡ true → is_chosen mask k ≡ true → rank mask j ≡ rank mask k → j ≡ k
rank_one mask j k one other same = elim (less_or j k) [
  | inl less ↦ absurd (omega (arith, same, rank_less mask j k one less))
  | inr past ↦ elim (less_or k j) [
    | inl less ↦ absurd (omega (arith, same, rank_less mask k j other less))
    | inr within ↦ omega (arith, past, within)
  ]
]

-- where none of a range is chosen, the ranks of its ends are one
pub rank_flat : (mask : List Bool) (n k : ℕ) → ((r : ℕ) → n ≤ r → r < n + k → is_chosen mask r ≡ false) → rank mask (n + k) ≡ rank mask n
rank_flat mask n zero none = ap (rank mask) (omega arith)
rank_flat mask n (suc k) none =
    let last : rank mask (suc (n + k)) ≡ rank mask (n + k) = rank_unset mask (n + k) (none (n + k) (omega arith) (omega arith)) in
    let same : rank mask (n + suc k) ≡ rank mask (suc (n + k)) = ap (rank mask) (omega arith) in
    same ∙ last ∙ rank_flat mask n k (λ r low high. none r low (omega (arith, high)))

-- ---- what is chosen from a place on

pub chosen_none : {X : Type 0} (mask : List Bool) → chosen {X = X} mask [] ≡ []
chosen_none [] = refl
chosen_none (flag ∷ mask) = refl

pub chosen_step : {X : Type 0} (mask : List Bool) (n : ℕ) (x : X) (xs : List X) → chosen (drop n mask) (x ∷ xs) ≡ (if is_chosen mask n then x ∷ [] else []) ++ chosen (drop (suc n) mask) xs
chosen_step [] zero x xs = refl
chosen_step [] (suc n) x xs = refl
chosen_step (true ∷ mask) zero x xs = refl
chosen_step (false ∷ mask) zero x xs = refl
chosen_step (flag ∷ mask) (suc n) x xs = chosen_step mask n x xs

pub assoc : {A : Type 0} (xs ys zs : List A) → (xs ++ ys) ++ zs ≡ xs ++ (ys ++ zs)
assoc [] ys zs = refl
assoc (x ∷ xs) ys zs = ap (λ l. x ∷ l) (assoc xs ys zs)

pub chosen_append : {X : Type 0} (mask : List Bool) (n : ℕ) (xs ys : List X) → chosen (drop n mask) (xs ++ ys) ≡ chosen (drop n mask) xs ++ chosen (drop (n + length xs) mask) ys
chosen_append mask n [] ys =
    let same : n ≡ n + 0 = omega arith in
    ap (λ m. chosen (drop m mask) ys) same ∙ sym (ap (λ l. l ++ chosen (drop (n + 0) mask) ys) (chosen_none (drop n mask)))
chosen_append mask n (x ∷ xs) ys =
    let same : suc n + length xs ≡ n + suc (length xs) = omega arith in
    chosen_step mask n x (xs ++ ys)
    ∙ ap (λ l. (if is_chosen mask n then x ∷ [] else []) ++ l) (chosen_append mask (suc n) xs ys)
    ∙ sym (assoc (if is_chosen mask n then x ∷ [] else []) (chosen (drop (suc n) mask) xs) (chosen (drop (suc n + length xs) mask) ys))
    ∙ ap (λ l. l ++ chosen (drop (suc n + length xs) mask) ys) (sym (chosen_step mask n x xs))
    ∙ ap (λ m. chosen (drop n mask) (x ∷ xs) ++ chosen (drop m mask) ys) same

pub chosen_out : {X : Type 0} (mask : List Bool) (n : ℕ) (xs : List X) → ((r : ℕ) → n ≤ r → r < n + length xs → is_chosen mask r ≡ false) → chosen (drop n mask) xs ≡ []
chosen_out mask n [] none = chosen_none (drop n mask)
chosen_out mask n (x ∷ xs) none =
    chosen_step mask n x xs
    ∙ ap (λ b. (if b then x ∷ [] else []) ++ chosen (drop (suc n) mask) xs) (none n (omega arith) (omega arith))
    ∙ chosen_out mask (suc n) xs (λ r low high. none r (omega (arith, low)) (omega (arith, high)))

rank_split : (mask : List Bool) (n k : ℕ) → rank (drop n mask) k + rank mask n ≡ rank mask (n + k)
rank_split mask zero k =
    let same : rank mask k ≡ rank mask (0 + k) = ap (rank mask) (omega arith) in
    omega (arith, rank_zero mask, same)
rank_split [] (suc n) k = refl
rank_split (true ∷ mask) (suc n) k = by (rank_split mask n k)
  where
    by : rank (drop n mask) k + rank mask n ≡ rank mask (n + k) → rank (drop n mask) k + suc (rank mask n) ≡ rank (true ∷ mask) (suc n + k)
    by h =
        let same : suc n + k ≡ suc (n + k) = omega arith in
        let one : rank (true ∷ mask) (suc n + k) ≡ suc (rank mask (n + k)) = ap (rank (true ∷ mask)) same in
        omega (arith, h, one)
rank_split (false ∷ mask) (suc n) k = rank_split mask n k ∙ ap (rank (false ∷ mask)) (same n)
  where
    same : (m : ℕ) → suc (m + k) ≡ suc m + k
    same m = omega arith

-- so many are chosen from a place on
pub chosen_long : {X : Type 0} (mask : List Bool) (n : ℕ) (xs : List X) → length (chosen (drop n mask) xs) + rank mask n ≡ rank mask (n + length xs)
chosen_long mask n xs = ap (λ k. k + rank mask n) (chosen_count (drop n mask) xs) ∙ rank_split mask n (length xs)
