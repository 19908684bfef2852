-- Words of bits and flags at places, and how far they are from full.
use Rattle.std.proofs.Common.{◌≡◌, ℕ, zero, suc, ◌+◌, ◌-◌, ◌^◌, ◌<◌, ◌≤◌, ◌≢◌, ◌⊎◌, inl, inr, Bool, true, min, max, List, [], ◌∷◌, length, set, get_or, replicate, bit_and, bit_or, refl, ap, w64, arith}
use Rattle.std.proofs.lemmas.Nat.Bits.{bit_at_and, bit_at_or, bit_at_not, bit_at-lt, bit_at_above}
use Rattle.std.specs.Int.{bit_at, bit_not}
use Rattle.ir_paths.specs.Spreading.{waits}

-- ---- one word

abbrev pub Has : ℕ → ℕ → Type 0
Has word bit = bit_at word bit ≡ 1

max_left : (x y z : ℕ) → z ≡ max x y → x ≡ 1 → y < 2 → z ≡ 1
max_left x y z e h l = omega arith

max_right : (x y z : ℕ) → z ≡ max x y → y ≡ 1 → x < 2 → z ≡ 1
max_right x y z e h l = omega arith

max_cases : (x y z : ℕ) → z ≡ max x y → z ≡ 1 → (x ≡ 1) ⊎ (y ≡ 1)
max_cases x y z e h = grind arith

min_both : (x y z : ℕ) → z ≡ min x y → z ≡ 1 → x < 2 → y < 2 → (x ≡ 1) × (y ≡ 1)
min_both x y z e h l m = (omega arith, omega arith)

min_of_both : (x y z : ℕ) → z ≡ min x y → x ≡ 1 → y ≡ 1 → z ≡ 1
min_of_both x y z e h l = omega arith

pub has_or_left : (a b bit : ℕ) → Has a bit → Has (bit_or a b) bit
has_or_left a b bit h = max_left (bit_at a bit) (bit_at b bit) (bit_at (bit_or a b) bit) (bit_at_or a b bit) h (bit_at-lt b bit)

pub has_or_right : (a b bit : ℕ) → Has b bit → Has (bit_or a b) bit
has_or_right a b bit h = max_right (bit_at a bit) (bit_at b bit) (bit_at (bit_or a b) bit) (bit_at_or a b bit) h (bit_at-lt a bit)

pub has_or_cases : (a b bit : ℕ) → Has (bit_or a b) bit → Has a bit ⊎ Has b bit
has_or_cases a b bit h = max_cases (bit_at a bit) (bit_at b bit) (bit_at (bit_or a b) bit) (bit_at_or a b bit) h

pub has_and : (a b bit : ℕ) → Has (bit_and a b) bit → Has a bit × Has b bit
has_and a b bit h = min_both (bit_at a bit) (bit_at b bit) (bit_at (bit_and a b) bit) (bit_at_and a b bit) h (bit_at-lt a bit) (bit_at-lt b bit)

pub has_of_and : (a b bit : ℕ) → Has a bit → Has b bit → Has (bit_and a b) bit
has_of_and a b bit h k = min_of_both (bit_at a bit) (bit_at b bit) (bit_at (bit_and a b) bit) (bit_at_and a b bit) h k

-- a word of 64 bits has no bit past them
zero_or_one : (x : ℕ) → x ≡ 0 → x ≡ 1 → ⊥
zero_or_one x e f = omega arith

pub has_within : (a bit : ℕ) → a < 2 ^ 64 → Has a bit → bit < 64
has_within a bit small h = elim (less_or bit 64) [ inl l ↦ l | inr l ↦ absurd (zero_or_one (bit_at a bit) (bit_at_above a 64 bit small l) h) ]
  where
    less_or : (m n : ℕ) → (m < n) ⊎ (n ≤ m)
    less_or m n = grind arith

one_less : (x y : ℕ) → y ≡ 1 - x → y ≡ 1 → x ≡ 1 → ⊥
one_less x y e h k = omega arith

one_of_less : (x y : ℕ) → y ≡ 1 - x → x < 2 → (x ≡ 1 → ⊥) → y ≡ 1
one_of_less x y e l not_so = grind arith

pub has_not : (a bit : ℕ) → a < 2 ^ 64 → bit < 64 → Has (bit_not w64 a) bit → Has a bit → ⊥
has_not a bit small l h k = one_less (bit_at a bit) (bit_at (bit_not w64 a) bit) (bit_at_not w64 a bit small l) h k

pub has_of_not : (a bit : ℕ) → a < 2 ^ 64 → bit < 64 → (Has a bit → ⊥) → Has (bit_not w64 a) bit
has_of_not a bit small l not_so = one_of_less (bit_at a bit) (bit_at (bit_not w64 a) bit) (bit_at_not w64 a bit small l) (bit_at-lt a bit) not_so

pub has_of_zero : (bit : ℕ) → Has 0 bit → ⊥
has_of_zero bit h = zero_or_one (bit_at 0 bit) (bit_at_above 0 0 bit (omega arith) (omega arith)) h

-- ---- flags

pub waits-set_same : (fs : List Bool) (k : ℕ) (f : Bool) → k < length fs → waits (set fs k f) k ≡ f
waits-set_same [] k f h = absurd (omega arith)
waits-set_same (g ∷ fs) zero f h = refl
waits-set_same (g ∷ fs) (suc k) f h = let less : k < length fs = omega arith in waits-set_same fs k f less

pub waits-set_other : (fs : List Bool) (k j : ℕ) (f : Bool) → j ≢ k → waits (set fs k f) j ≡ waits fs j
waits-set_other [] k j f h = refl
waits-set_other (g ∷ fs) zero zero f h = absurd (h refl)
waits-set_other (g ∷ fs) zero (suc j) f h = refl
waits-set_other (g ∷ fs) (suc k) zero f h = refl
waits-set_other (g ∷ fs) (suc k) (suc j) f h = waits-set_other fs k j f (λ e. h (ap (λ n. suc n) e))

pub waits-set_true : (fs : List Bool) (k j : ℕ) → waits fs j ≡ true → waits (set fs k true) j ≡ true
waits-set_true [] k j h = h
waits-set_true (g ∷ fs) zero zero h = refl
waits-set_true (g ∷ fs) zero (suc j) h = h
waits-set_true (g ∷ fs) (suc k) zero h = h
waits-set_true (g ∷ fs) (suc k) (suc j) h = waits-set_true fs k j h

pub waits_within : (fs : List Bool) (k : ℕ) → waits fs k ≡ true → k < length fs
waits_within [] k h = cc
waits_within (f ∷ fs) zero h = omega arith
waits_within (f ∷ fs) (suc k) h = omega (arith, waits_within fs k h)

-- ---- words

pub word-set_same : (ws : List ℕ) (k w : ℕ) → k < length ws → get_or (set ws k w) k 0 ≡ w
word-set_same [] k w h = absurd (omega arith)
word-set_same (v ∷ ws) zero w h = refl
word-set_same (v ∷ ws) (suc k) w h = let less : k < length ws = omega arith in word-set_same ws k w less

pub word-set_other : (ws : List ℕ) (k j w : ℕ) → j ≢ k → get_or (set ws k w) j 0 ≡ get_or ws j 0
word-set_other [] k j w h = refl
word-set_other (v ∷ ws) zero zero w h = absurd (h refl)
word-set_other (v ∷ ws) zero (suc j) w h = refl
word-set_other (v ∷ ws) (suc k) zero w h = refl
word-set_other (v ∷ ws) (suc k) (suc j) w h = word-set_other ws k j w (λ e. h (ap (λ n. suc n) e))

-- how much is left below `top`
abbrev pub room : ℕ → List ℕ → ℕ
room top [] = 0
room top (w ∷ ws) = (top - w) + room top ws

pub room-set : (top : ℕ) (ws : List ℕ) (k w : ℕ) → k < length ws → get_or ws k 0 < w → w ≤ top → room top (set ws k w) + 1 ≤ room top ws
room-set top [] k w h more fits = absurd (omega arith)
room-set top (v ∷ ws) zero w h more fits = omega arith
room-set top (v ∷ ws) (suc k) w h more fits = let less : k < length ws = omega arith in omega (arith, room-set top ws k w less more fits)

-- a number is another or isn't
pub is_or_not : (m n : ℕ) → (m ≡ n) ⊎ (m ≢ n)
is_or_not m n = grind arith

pub no_word : (n k : ℕ) → ◌≡◌ {A = ℕ} (get_or (replicate n 0) k 0) 0
no_word zero k = refl
no_word (suc n) zero = refl
no_word (suc n) (suc k) = no_word n k
