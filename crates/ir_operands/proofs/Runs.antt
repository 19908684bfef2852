-- Steps of the loops that read runs.
use Rattle.std.proofs.Common.{◌≡◌, ◌∙◌, ℕ, ◌+◌, ◌-◌, ◌<◌, suc, zero, Bool, true, false, cond, List, [], ◌∷◌, ◌++◌, length, drop, Option, Some, None, option_map, option_and_then, refl, sym, ap, subst, arith, append_assoc}
use Rattle.std.proofs.lemmas.List.{append-nil}
use Rattle.std.proofs.lemmas.List.{drop-drop}
use Rattle.ir_grammar.specs.declared.shape.Shape.{Shape}
use Rattle.ir_grammar.specs.Tokens.{Kept}
use Rattle.ir_scope.specs.Runs.{Reading, run, runs, begins_with}

-- what was read, and then what is read
abbrev pub extended : {X : Type 0} → List X → ℕ → Option (List X × ℕ) → Option (List X × ℕ)
extended xs n found = option_map (λ f. (xs ++ f.0, n + f.1)) found

skipped : {X : Type 0} (begins : Shape → Bool) (part : Reading X) (k : ℕ) (ks : List Kept) → run begins part k ks ≡ run begins part 0 (drop k ks)
skipped begins part zero ks = refl
skipped begins part (suc k) [] = refl
skipped begins part (suc k) (l ∷ ks) = skipped begins part k ks

one_less : (k : Kept) (ks : List Kept) (n : ℕ) → 0 < n → drop (n - 1) ks ≡ drop n (k ∷ ks)
one_less k ks zero above = absurd (omega arith)
one_less k ks (suc n) above = let e : suc n - 1 ≡ n = omega arith in ap (λ k. drop k ks) e

pub run_step : {X : Type 0} (begins : Shape → Bool) (part : Reading X) (ks : List Kept) (x : X) (n : ℕ) → begins_with begins ks ≡ true → Some (x, n) ≡ part ks → 0 < n →
    runs begins part ks ≡ option_map (λ rest. (x ∷ rest.0, n + rest.1)) (runs begins part (drop n ks))
run_step begins part [] x n b e above = cc
run_step {X} begins part (k ∷ ks) x n b e above =
    ap (λ b. cond b (option_and_then (λ f. option_map (λ rest. (f.0 ∷ rest.0, f.1 + rest.1)) (run begins part (f.1 - 1) ks)) (part (k ∷ ks))) (Some ([], 0))) b
    ∙ ap (option_and_then (λ f. option_map (λ rest. (f.0 ∷ rest.0, f.1 + rest.1)) (run begins part (f.1 - 1) ks))) (sym e)
    ∙ ap (option_map (λ rest. (x ∷ rest.0, n + rest.1))) (skipped begins part (n - 1) ks ∙ ap (run begins part 0) (one_less k ks n above))

extended_more : {X : Type 0} (xs : List X) (at : ℕ) (x : X) (n : ℕ) (o : Option (List X × ℕ)) →
    extended (xs ++ x ∷ []) (at + n) o ≡ extended xs at (option_map (λ rest. (x ∷ rest.0, n + rest.1)) o)
extended_more xs at x n None = refl
extended_more xs at x n (Some f) = let e : at + n + f.1 ≡ at + (n + f.1) = omega arith in ap (λ ys. Some (ys, at + n + f.1)) (append_assoc xs (x ∷ []) f.0) ∙ ap (λ m. Some (xs ++ x ∷ f.0, m)) e

-- Parts that were read up to a place, and those that are left, are those of the whole.
pub record Going {X : Type 0} (begins : Shape → Bool) (part : Reading X) (ks : List Kept) (xs : List X) (at : ℕ) : Type 0 where
  pub read : extended xs at (runs begins part (drop at ks)) ≡ runs begins part ks

extended_none : {X : Type 0} (o : Option (List X × ℕ)) → extended [] 0 o ≡ o
extended_none None = refl
extended_none (Some f) = let e : 0 + f.1 ≡ f.1 = omega arith in ap (λ n. Some (f.0, n)) e

pub going_none : {X : Type 0} (begins : Shape → Bool) (part : Reading X) (ks : List Kept) → Going begins part ks [] 0
going_none begins part ks = record { read = extended_none (runs begins part ks) }

-- one more part
pub going_more : {X : Type 0} (begins : Shape → Bool) (part : Reading X) (ks rest : List Kept) (xs : List X) (at : ℕ) (x : X) (n : ℕ) → Going begins part ks xs at →
    rest ≡ drop at ks → true ≡ begins_with begins rest → Some (x, n) ≡ part rest → 0 < n → Going begins part ks (xs ++ x ∷ []) (at + n)
going_more {X} begins part ks rest xs at x n g r b e above = record {
  read =
      ap (λ ls. extended (xs ++ x ∷ []) (at + n) (runs begins part ls)) (sym (drop-drop n at ks))
      ∙ extended_more xs at x n (runs begins part (drop n (drop at ks)))
      ∙ ap (extended xs at) (sym (run_step begins part (drop at ks) x n (sym (b ∙ ap (begins_with begins) r)) (e ∙ ap part r) above))
      ∙ g.read;
}

pub run_stop : {X : Type 0} (begins : Shape → Bool) (part : Reading X) (ls : List Kept) → begins_with begins ls ≡ false → runs begins part ls ≡ Some ([], 0)
run_stop begins part [] b = refl
run_stop {X} begins part (k ∷ ls) b = ap (λ b. cond b (option_and_then (λ f. option_map (λ rest. (f.0 ∷ rest.0, f.1 + rest.1)) (run begins part (f.1 - 1) ls)) (part (k ∷ ls))) (Some ([], 0))) b

pub run_bad : {X : Type 0} (begins : Shape → Bool) (part : Reading X) (ls : List Kept) → begins_with begins ls ≡ true → None ≡ part ls → runs begins part ls ≡ None
run_bad begins part [] b e = cc
run_bad {X} begins part (k ∷ ls) b e =
    ap (λ b. cond b (option_and_then (λ f. option_map (λ rest. (f.0 ∷ rest.0, f.1 + rest.1)) (run begins part (f.1 - 1) ls)) (part (k ∷ ls))) (Some ([], 0))) b
    ∙ ap (option_and_then (λ f. option_map (λ rest. (f.0 ∷ rest.0, f.1 + rest.1)) (run begins part (f.1 - 1) ls))) (sym e)

-- no more part
pub going_end : {X : Type 0} (begins : Shape → Bool) (part : Reading X) (ks rest : List Kept) (xs : List X) (at : ℕ) → Going begins part ks xs at →
    rest ≡ drop at ks → false ≡ begins_with begins rest → Some (xs, at) ≡ runs begins part ks
going_end {X} begins part ks rest xs at g r b = sym same ∙ sym (ap (extended xs at) (run_stop begins part (drop at ks) (sym (b ∙ ap (begins_with begins) r)))) ∙ g.read
  where
    same : extended xs at (Some ([], 0)) ≡ Some (xs, at)
    same = let e : at + 0 ≡ at = omega arith in ap (λ ys. Some (ys, at + 0)) (append-nil xs) ∙ ap (λ n. Some (xs, n)) e

-- no part where one should begin
pub going_bad : {X : Type 0} (begins : Shape → Bool) (part : Reading X) (ks rest : List Kept) (xs : List X) (at : ℕ) → Going begins part ks xs at →
    rest ≡ drop at ks → true ≡ begins_with begins rest → None ≡ part rest → None ≡ runs begins part ks
going_bad {X} begins part ks rest xs at g r b e = sym (ap (extended xs at) (run_bad begins part (drop at ks) (sym (b ∙ ap (begins_with begins) r)) (e ∙ ap part r))) ∙ g.read
