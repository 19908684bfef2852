-- A function that sends the numbers below n to numbers below m, no two to one, has n at most m.
use Rattle.std.proofs.Common.{◌≡◌, ℕ, zero, suc, ◌<◌, ◌≤◌, ◌≢◌, sym, ◌∙◌, arith}
use native.Mathlib.Decide.{ℕ_discrete}

abbrev pub IsBelow : (ℕ → ℕ) → ℕ → ℕ → Type 0
IsBelow f n m = (x : ℕ) → x < n → f x < m

abbrev pub IsOneToOne : (ℕ → ℕ) → ℕ → Type 0
IsOneToOne f n = (x y : ℕ) → x < n → y < n → f x ≡ f y → x ≡ y

-- d in place of m
instead : (m d x : ℕ) → Dec (x ≡ m) → ℕ
instead m d x (yes e) = d
instead m d x (no ne) = x

instead_below : (m d x : ℕ) (q : Dec (x ≡ m)) → d < suc m → x < suc m → (x ≡ m → d ≢ m) → instead m d x q < m
unfolding instead
instead_below m d x (yes e) hd hx differ = let ne = differ e in omega arith
instead_below m d x (no ne) hd hx differ = omega arith

instead_same : (m d x y : ℕ) (p : Dec (x ≡ m)) (q : Dec (y ≡ m)) → x ≢ d → y ≢ d → instead m d x p ≡ instead m d y q → x ≡ y
unfolding instead
instead_same m d x y (yes e) (yes e') nx ny is = e ∙ sym e'
instead_same m d x y (yes e) (no n') nx ny is = absurd (ny (sym is))
instead_same m d x y (no n) (yes e') nx ny is = absurd (nx is)
instead_same m d x y (no n) (no n') nx ny is = is

pub pigeon : (m n : ℕ) (f : ℕ → ℕ) → IsBelow f n m → IsOneToOne f n → n ≤ m
pigeon m zero f b o = omega arith
pigeon zero (suc n) f b o = let h : f 0 < 0 = b 0 (omega arith) in omega arith
pigeon (suc m) (suc n) f b o =
    let d : ℕ = f n in
    let g : ℕ → ℕ = λ x. instead m d (f x) (ℕ_discrete (f x) m) in
    let far : (x : ℕ) → x < n → f x ≢ d = λ x h e. let is : x ≡ n = o x n (omega arith) (omega arith) e in omega arith in
    let last : f n < suc m = b n (omega arith) in
    let below : IsBelow g n m = λ x h. instead_below m d (f x) (ℕ_discrete (f x) m) last (b x (omega arith)) (λ e e'. far x h (e ∙ sym e')) in
    let one : IsOneToOne g n = λ x y hx hy e. o x y (omega arith) (omega arith) (instead_same m d (f x) (f y) (ℕ_discrete (f x) m) (ℕ_discrete (f y) m) (far x hx) (far y hy) e) in
    let r : n ≤ m = pigeon m n g below one in omega arith
