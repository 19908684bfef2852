-- Runs of parts, for loops that read one part after another: what was read, and then what is read.
use Rattle.std.proofs.Common.{◌≡◌, ◌∙◌, ℕ, ◌+◌, ◌-◌, ◌<◌, suc, zero, Bool, true, false, cond, List, [], ◌∷◌, ◌++◌, length, drop, Option, Some, None, option_map, option_and_then, refl, sym, ap, arith, append_assoc, add_assoc, add-zero, append-nil}
use Rattle.std.specs.Prelude.{if◌then◌else◌}
use Rattle.std.proofs.lemmas.List.{drop-drop}
use Rattle.ir_grammar.specs.declared.lexeme.Lexeme.{Lexeme}
use Rattle.ir_grammar.specs.declared.shape.Shape.{Shape}
use Rattle.ir_grammar.specs.Tokens.{Kept, seen}
use Rattle.ir_scope.specs.Runs.{Reading, run, runs, begins_with, closed_by}

-- ---- kept lexemes

pub seen-drop : (k : ℕ) (xs : List Lexeme) → seen (drop k xs) ≡ drop k (seen xs)
seen-drop zero xs = refl
seen-drop (suc k) [] = refl
seen-drop (suc k) (x ∷ xs) = seen-drop k xs

pub seen-length : (xs : List Lexeme) → length (seen xs) ≡ length xs
seen-length [] = refl
seen-length (x ∷ xs) = ap suc (seen-length xs)

-- ---- one step

-- what was read from so many lexemes, and then what is read
abbrev pub read_on : {X : Type 0} → List X → ℕ → Option (List X × ℕ) → Option (List X × ℕ)
read_on xs at o = option_map (λ r. (xs ++ r.0, at + r.1)) o

-- one more part in front
abbrev pub with_first : {X : Type 0} → X → ℕ → Option (List X × ℕ) → Option (List X × ℕ)
with_first x n o = option_map (λ r. (x ∷ r.0, n + r.1)) o

pub run-skipped : {X : Type 0} (begins : Shape → Bool) (part : Reading X) (n : ℕ) (ks : List Kept) → run begins part n ks ≡ run begins part 0 (drop n ks)
run-skipped begins part zero ks = refl
run-skipped begins part (suc n) [] = refl
run-skipped begins part (suc n) (k ∷ ks) = run-skipped begins part n ks

one-less : (k : Kept) (ks : List Kept) (n : ℕ) → 0 < n → drop (n - 1) ks ≡ drop n (k ∷ ks)
one-less k ks zero above = absurd (omega arith)
one-less k ks (suc n) above = let e : suc n - 1 ≡ n = omega arith in ap (λ m. drop m ks) e

abbrev step_of : {X : Type 0} → (Shape → Bool) → Reading X → List Kept → Option (X × ℕ) → Option (List X × ℕ)
step_of begins part ks o = option_and_then (λ f. with_first f.0 f.1 (run begins part (f.1 - 1) ks)) o

-- a part that begins here
pub runs-step : {X : Type 0} (begins : Shape → Bool) (part : Reading X) (ks : List Kept) (x : X) (n : ℕ) → begins_with begins ks ≡ true → Some (x, n) ≡ part ks → 0 < n → runs begins part ks ≡ with_first x n (runs begins part (drop n ks))
runs-step begins part [] x n starts here above = absurd (cc)
runs-step begins part (k ∷ ks) x n starts here above =
    ap (λ b. cond b (step_of begins part ks (part (k ∷ ks))) (Some ([], 0))) starts
    ∙ (ap (step_of begins part ks) (sym here)
    ∙ ap (with_first x n) (run-skipped begins part (n - 1) ks ∙ ap (run begins part 0) (one-less k ks n above)))

-- no part, where one begins
pub runs-none : {X : Type 0} (begins : Shape → Bool) (part : Reading X) (ks : List Kept) → begins_with begins ks ≡ true → None ≡ part ks → runs begins part ks ≡ None
runs-none begins part [] starts here = absurd (cc)
runs-none begins part (k ∷ ks) starts here = ap (λ b. cond b (step_of begins part ks (part (k ∷ ks))) (Some ([], 0))) starts ∙ ap (step_of begins part ks) (sym here)

-- no part begins here
pub runs-stop : {X : Type 0} (begins : Shape → Bool) (part : Reading X) (ks : List Kept) → begins_with begins ks ≡ false → runs begins part ks ≡ Some ([], 0)
runs-stop begins part [] starts = refl
runs-stop begins part (k ∷ ks) starts = ap (λ b. cond b (step_of begins part ks (part (k ∷ ks))) (Some ([], 0))) starts

-- ---- the steps of a loop that has read the parts `xs` from `at` lexemes

read_on-first : {X : Type 0} (xs : List X) (at : ℕ) (x : X) (n : ℕ) (o : Option (List X × ℕ)) → read_on (xs ++ x ∷ []) (at + n) o ≡ read_on xs at (with_first x n o)
read_on-first xs at x n None = refl
read_on-first xs at x n (Some r) = ap (λ ys. Some (ys, at + n + r.1)) (append_assoc xs (x ∷ []) r.0) ∙ ap (λ m. Some (xs ++ (x ∷ r.0), m)) (add_assoc at n r.1)

pub runs_more : {X : Type 0} (begins : Shape → Bool) (part : Reading X) (ks : List Kept) (at : ℕ) (xs : List X) (x : X) (n : ℕ) → begins_with begins (drop at ks) ≡ true → Some (x, n) ≡ part (drop at ks) → 0 < n →
    read_on (xs ++ x ∷ []) (at + n) (runs begins part (drop (at + n) ks)) ≡ read_on xs at (runs begins part (drop at ks))
runs_more begins part ks at xs x n starts here above =
    ap (λ qs. read_on (xs ++ x ∷ []) (at + n) (runs begins part qs)) (sym (drop-drop n at ks))
    ∙ (read_on-first xs at x n (runs begins part (drop n (drop at ks)))
    ∙ ap (read_on xs at) (sym (runs-step begins part (drop at ks) x n starts here above)))

pub runs_none : {X : Type 0} (begins : Shape → Bool) (part : Reading X) (ks : List Kept) (at : ℕ) (xs : List X) → begins_with begins (drop at ks) ≡ true → None ≡ part (drop at ks) →
    None ≡ read_on xs at (runs begins part (drop at ks))
runs_none begins part ks at xs starts here = sym (ap (read_on xs at) (runs-none begins part (drop at ks) starts here))

pub runs_end : {X : Type 0} (begins : Shape → Bool) (part : Reading X) (ks : List Kept) (at : ℕ) (xs : List X) → begins_with begins (drop at ks) ≡ false →
    Some (xs, at) ≡ read_on xs at (runs begins part (drop at ks))
runs_end begins part ks at xs starts = sym (ap (read_on xs at) (runs-stop begins part (drop at ks) starts) ∙ (ap (λ ys. Some (ys, at + 0)) (append-nil xs) ∙ ap (λ m. Some (xs, m)) (add-zero at)))

-- ---- a reading and what ends it

pub closed-is : {X : Type 0} (ends : Shape → Bool) (ks : List Kept) (x : X) (n : ℕ) → begins_with ends (drop n ks) ≡ true → closed_by ends ks (Some (x, n)) ≡ Some (x, n + 1)
closed-is ends ks x n closes = ap (λ b. cond b (Some (x, n + 1)) None) closes

pub closed-none : {X : Type 0} (ends : Shape → Bool) (ks : List Kept) (x : X) (n : ℕ) → begins_with ends (drop n ks) ≡ false → closed_by ends ks (Some (x, n)) ≡ None
closed-none ends ks x n closes = ap (λ b. cond b (Some (x, n + 1)) None) closes

-- ---- the same for loops over lexemes: `rest` is what is left of them

pub seen-rest : (xs rest : List Lexeme) (at : ℕ) → rest ≡ drop at xs → seen rest ≡ drop at (seen xs)
seen-rest xs rest at is = ap seen is ∙ seen-drop at xs

-- one more part
pub loop_more : {X : Type 0} (begins : Shape → Bool) (part : Reading X) (all : Option (List X × ℕ)) (xs rest : List Lexeme) (at : ℕ) (read : List X) (x : X) (n : ℕ) → rest ≡ drop at xs → true ≡ begins_with begins (seen rest) →
    Some (x, n) ≡ part (seen rest) → 0 < n → read_on read at (runs begins part (drop at (seen xs))) ≡ all → read_on (read ++ x ∷ []) (at + n) (runs begins part (drop (at + n) (seen xs))) ≡ all
loop_more begins part all xs rest at read x n is starts here above so_far =
    let e = seen-rest xs rest at is in
    runs_more begins part (seen xs) at read x n (ap (begins_with begins) (sym e) ∙ sym starts) (here ∙ ap part e) above ∙ so_far

-- no part, where one begins
pub loop_none : {X : Type 0} (begins : Shape → Bool) (part : Reading X) (all : Option (List X × ℕ)) (xs rest : List Lexeme) (at : ℕ) (read : List X) → rest ≡ drop at xs → true ≡ begins_with begins (seen rest) →
    None ≡ part (seen rest) → read_on read at (runs begins part (drop at (seen xs))) ≡ all → None ≡ all
loop_none begins part all xs rest at read is starts here so_far =
    let e = seen-rest xs rest at is in
    runs_none begins part (seen xs) at read (ap (begins_with begins) (sym e) ∙ sym starts) (here ∙ ap part e) ∙ so_far

-- no part begins
pub loop_end : {X : Type 0} (begins : Shape → Bool) (part : Reading X) (all : Option (List X × ℕ)) (xs rest : List Lexeme) (at : ℕ) (read : List X) → rest ≡ drop at xs → false ≡ begins_with begins (seen rest) →
    read_on read at (runs begins part (drop at (seen xs))) ≡ all → Some (read, at) ≡ all
loop_end begins part all xs rest at read is starts so_far =
    runs_end begins part (seen xs) at read (ap (begins_with begins) (sym (seen-rest xs rest at is)) ∙ sym starts) ∙ so_far
