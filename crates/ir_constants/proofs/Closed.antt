-- Lists of parts up to the lexeme that ends them.
use Rattle.std.proofs.Common.{◌≡◌, ◌∙◌, ℕ, suc, zero, ◌+◌, ◌-◌, ◌≤◌, Bool, true, false, not, cond, List, [], ◌∷◌, ◌++◌, length, drop, Option, Some, None, option_map, option_and_then, refl, sym, ap, arith, append_assoc, length-drop}
use Rattle.std.proofs.lemmas.List.{drop-drop, append-nil}
use Rattle.std.proofs.lemmas.Bool.{false≢true}
use Rattle.ir_grammar.specs.declared.shape.Shape.{Shape}
use Rattle.ir_grammar.specs.declared.lexeme.Lexeme.{Lexeme}
use Rattle.ir_grammar.specs.Tokens.{Kept, seen}
use Rattle.ir_scope.specs.Runs.{Reading, run, runs, begins_with, closed_by}
use Rattle.ir_scope.proofs.Runs.{seen-drop, seen-length}

-- what is left behind some more lexemes
pub seen-more : (xs : List Lexeme) (at n : ℕ) → seen (drop (at + n) xs) ≡ drop n (seen (drop at xs))
seen-more xs at n = ap seen (sym (drop-drop n at xs)) ∙ seen-drop n (drop at xs)

-- ---- lists

-- parts, and how many lexemes spell them, before those that are read
abbrev pub extended : {X : Type 0} → List X → ℕ → Option (List X × ℕ) → Option (List X × ℕ)
extended parts at found = option_map (λ f. (parts ++ f.0, at + f.1)) found

-- one part, before those that are read
abbrev pub and_more : {X : Type 0} → X × ℕ → Option (List X × ℕ) → Option (List X × ℕ)
and_more f found = option_map (λ rest. (f.0 ∷ rest.0, f.1 + rest.1)) found

pub extended-more : {X : Type 0} (parts : List X) (part : X) (at n : ℕ) (o : Option (List X × ℕ)) → extended parts at (and_more (part, n) o) ≡ extended (parts ++ part ∷ []) (at + n) o
extended-more parts part at n None = refl
extended-more parts part at n (Some f) =
    let e : at + (n + f.1) ≡ (at + n) + f.1 = omega arith in
    ap (λ ps. Some (ps, at + (n + f.1))) (sym (append_assoc parts (part ∷ []) f.0)) ∙ ap (λ k. Some ((parts ++ part ∷ []) ++ f.0, k)) e

-- parts up to the lexeme that ends them, with it
abbrev pub closed : {X : Type 0} → (Shape → Bool) → Reading X → Reading (List X)
closed ends part ks = closed_by ends ks (runs (λ shape. not (ends shape)) part ks)

pub run-skipped : {X : Type 0} (begins : Shape → Bool) (part : Reading X) (n : ℕ) (ks : List Kept) → run begins part n ks ≡ run begins part 0 (drop n ks)
run-skipped begins part zero ks = refl
run-skipped begins part (suc n) [] = refl
run-skipped begins part (suc n) (k ∷ ks) = run-skipped begins part n ks

-- nothing more where the end stands
closed-end : {X : Type 0} (ends : Shape → Bool) (part : Reading X) (ks : List Kept) → begins_with ends ks ≡ true → closed ends part ks ≡ Some ([], 1)
closed-end ends part [] e = absurd (false≢true e)
closed-end ends part (k ∷ ks) e = rw (e, e) refl

-- behind one part, what ends them ends the others
behind-one : {X : Type 0} (ends : Shape → Bool) (ks : List Kept) (x : X) (n : ℕ) (o : Option (List X × ℕ)) → closed_by ends ks (and_more (x, n) o) ≡ and_more (x, n) (closed_by ends (drop n ks) o)
behind-one ends ks x n None = refl
behind-one ends ks x n (Some r) = ap (λ rest. cond (begins_with ends rest) (Some (x ∷ r.0, (n + r.1) + 1)) None) (there ks n r.1) ∙ either (begins_with ends (drop r.1 (drop n ks)))
  where
    there : (ks : List Kept) (n m : ℕ) → drop (n + m) ks ≡ drop m (drop n ks)
    there ks n m = sym (drop-drop m n ks)

    either : (b : Bool) → cond b (Some (x ∷ r.0, (n + r.1) + 1)) None ≡ and_more (x, n) (cond b (Some (r.0, r.1 + 1)) None)
    either false = refl
    either true = let e : (n + r.1) + 1 ≡ n + (r.1 + 1) = omega arith in ap (λ k. Some (x ∷ r.0, k)) e

-- a part, and those behind it
closed-part : {X : Type 0} (ends : Shape → Bool) (part : Reading X) (ks : List Kept) (x : X) (n : ℕ) → begins_with ends ks ≡ false → part ks ≡ Some (x, n) → 1 ≤ n → n ≤ length ks →
    closed ends part ks ≡ and_more (x, n) (closed ends part (drop n ks))
closed-part ends part [] x n e here least most = absurd (omega (arith, least, most))
closed-part ends part (k ∷ ks) x zero e here least most = absurd (omega (arith, least))
closed-part ends part (k ∷ ks) x (suc n) e here least most =
    ap (λ b. closed_by ends (k ∷ ks) (cond (not b) (option_and_then (λ f. and_more f (run (λ shape. not (ends shape)) part (f.1 - 1) ks)) (part (k ∷ ks))) (Some ([], 0)))) e
    ∙ ap (λ o. closed_by ends (k ∷ ks) (option_and_then (λ f. and_more f (run (λ shape. not (ends shape)) part (f.1 - 1) ks)) o)) here
    ∙ ap (λ m. closed_by ends (k ∷ ks) (and_more (x, suc n) (run (λ shape. not (ends shape)) part m ks))) less
    ∙ ap (λ o. closed_by ends (k ∷ ks) (and_more (x, suc n) o)) (run-skipped (λ shape. not (ends shape)) part n ks)
    ∙ behind-one ends (k ∷ ks) x (suc n) (run (λ shape. not (ends shape)) part 0 (drop n ks))
  where
    less : suc n - 1 ≡ n
    less = omega arith

-- none where there is no part
closed-none : {X : Type 0} (ends : Shape → Bool) (part : Reading X) (ks : List Kept) → begins_with ends ks ≡ false → part ks ≡ None → closed ends part ks ≡ None
closed-none ends part [] e here = refl
closed-none ends part (k ∷ ks) e here =
    ap (λ b. closed_by ends (k ∷ ks) (cond (not b) (option_and_then (λ f. and_more f (run (λ shape. not (ends shape)) part (f.1 - 1) ks)) (part (k ∷ ks))) (Some ([], 0)))) e
    ∙ ap (λ o. closed_by ends (k ∷ ks) (option_and_then (λ f. and_more f (run (λ shape. not (ends shape)) part (f.1 - 1) ks)) o)) here

-- ---- steps of a loop that reads them

-- one more part
pub list_more : {X : Type 0} (ends : Shape → Bool) (part : Reading X) (xs rest : List Lexeme) (at : ℕ) (parts : List X) (x : X) (n : ℕ) →
    rest ≡ drop at xs → begins_with ends (seen rest) ≡ false → Some (x, n) ≡ part (seen rest) → 1 ≤ n → n ≤ length rest →
    extended (parts ++ x ∷ []) (at + n) (closed ends part (seen (drop (at + n) xs))) ≡ extended parts at (closed ends part (seen (drop at xs)))
list_more ends part xs rest at parts x n r e here least most =
    ap (λ ks. extended (parts ++ x ∷ []) (at + n) (closed ends part ks)) (seen-more xs at n)
    ∙ sym (extended-more parts x at n (closed ends part (drop n (seen (drop at xs)))))
    ∙ ap (λ ys. extended parts at (and_more (x, n) (closed ends part (drop n (seen ys))))) (sym r)
    ∙ ap (extended parts at) (sym (closed-part ends part (seen rest) x n e (sym here) least (rw seen-length most)))
    ∙ ap (λ ys. extended parts at (closed ends part (seen ys))) r

-- no part where one should stand
pub list_bad : {X : Type 0} (ends : Shape → Bool) (part : Reading X) (xs rest : List Lexeme) (at : ℕ) (parts : List X) →
    rest ≡ drop at xs → begins_with ends (seen rest) ≡ false → None ≡ part (seen rest) → None ≡ extended parts at (closed ends part (seen (drop at xs)))
list_bad ends part xs rest at parts r e here =
    ap (extended parts at) (sym (closed-none ends part (seen rest) e (sym here))) ∙ ap (λ ys. extended parts at (closed ends part (seen ys))) r

-- the end
pub list_end : {X : Type 0} (ends : Shape → Bool) (part : Reading X) (xs rest : List Lexeme) (at : ℕ) (parts : List X) →
    rest ≡ drop at xs → begins_with ends (seen rest) ≡ true → Some (parts, at + 1) ≡ extended parts at (closed ends part (seen (drop at xs)))
list_end ends part xs rest at parts r e =
    ap (λ ps. Some (ps, at + 1)) (sym (append-nil parts))
    ∙ ap (extended parts at) (sym (closed-end ends part (seen rest) e)) ∙ ap (λ ys. extended parts at (closed ends part (seen ys))) r

-- the end takes a lexeme
pub end_within : (ends : Shape → Bool) (xs rest : List Lexeme) (at : ℕ) → rest ≡ drop at xs → begins_with ends (seen rest) ≡ true → at + 1 ≤ length xs
end_within ends xs [] at r e = absurd (false≢true e)
end_within ends xs (y ∷ ys) at r e = omega (arith, ap (length {A = Lexeme}) r, length-drop at xs)
