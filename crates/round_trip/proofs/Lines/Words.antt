-- Readings one behind another, of lexemes that are joined.
use Rattle.std.proofs.Common.{◌≡◌, ◌∙◌, ℕ, suc, ◌+◌, Bool, true, cond, [], ◌∷◌, ◌++◌, length, drop, Option, Some, None, option_map, option_and_then, sym, ap, subst, arith, append_assoc, length-append}
use Rattle.std.proofs.Math.Seq.{drop-append_seam}
use Rattle.std.proofs.lemmas.Bool.{cond-true}
use Rattle.ir_types.specs.declared.scalar.Scalar.{Scalar}
use Rattle.ir_grammar.specs.declared.shape.Shape.{Shape}
use Rattle.ir_grammar.specs.Tokens.{Kept}
use Rattle.ir_scope.specs.Runs.{Reading, behind, begins_with, closed_by}
use Rattle.ir_operands.specs.Operands.{then_at, typed}
use Rattle.round_trip.proofs.Grammar.Kept.{Lexemes, scalar_kept}

-- one lexeme in front
pub one_more : {X : Type 0} (x : X) (n : ℕ) (found : Option (X × ℕ)) → found ≡ Some (x, n) → behind 1 found ≡ Some (x, suc n)
one_more x n found e = let more : 1 + n ≡ suc n = omega arith in ap (behind 1) e ∙ ap (λ m. Some (x, m)) more

-- two in front
pub two_more : {X : Type 0} (x : X) (n : ℕ) (found : Option (X × ℕ)) → found ≡ Some (x, n) → behind 2 found ≡ Some (x, suc (suc n))
two_more x n found e = let more : 2 + n ≡ suc (suc n) = omega arith in ap (behind 2) e ∙ ap (λ m. Some (x, m)) more

-- one reading, and another behind it that turns on what was read
pub next_back : {X Y : Type 0} (first : Reading X) (next : X → Reading Y) (x : X) (y : Y) (xs ys rest : Lexemes) → first (xs ++ (ys ++ rest)) ≡ Some (x, length xs) → next x (ys ++ rest) ≡ Some (y, length ys) →
    option_and_then (λ f. behind f.1 (next f.0 (drop f.1 ((xs ++ ys) ++ rest)))) (first ((xs ++ ys) ++ rest)) ≡ Some (y, length (xs ++ ys))
next_back {X} first next x y xs ys rest e f =
    ap (λ ks. option_and_then (λ (f : X × ℕ). behind f.1 (next f.0 (drop f.1 ks))) (first ks)) (append_assoc xs ys rest)
    ∙ ap (option_and_then (λ (f : X × ℕ). behind f.1 (next f.0 (drop f.1 (xs ++ (ys ++ rest)))))) e
    ∙ ap (λ ks. behind (length xs) (next x ks)) (drop-append_seam xs (ys ++ rest))
    ∙ ap (behind (length xs)) f
    ∙ ap (λ n. Some (y, n)) (sym (length-append xs ys))

-- one reading, and another behind it
pub then_back : {X Y Z : Type 0} (make : X → Y → Z) (first : Reading X) (next : Reading Y) (x : X) (y : Y) (xs ys rest : Lexemes) →
    first (xs ++ (ys ++ rest)) ≡ Some (x, length xs) → next (ys ++ rest) ≡ Some (y, length ys) →
    then_at make ((xs ++ ys) ++ rest) next (first ((xs ++ ys) ++ rest)) ≡ Some (make x y, length (xs ++ ys))
then_back {X} {Y} {Z} make first next x y xs ys rest e f =
    next_back first (λ x ks. option_map (λ (g : Y × ℕ). (make x g.0, g.1)) (next ks)) x (make x y) xs ys rest e (ap (option_map (λ (g : Y × ℕ). (make x g.0, g.1))) f)

-- What stands in front is there always, and passes a test.
pub front_back : {X Y : Type 0} (test : X → Bool) (front : Lexemes → X × ℕ) (next : X → Reading Y) (x : X) (y : Y) (xs ys rest : Lexemes) →
    test x ≡ true → front (xs ++ (ys ++ rest)) ≡ (x, length xs) → next x (ys ++ rest) ≡ Some (y, length ys) →
    cond (test (front ((xs ++ ys) ++ rest)).0) (behind (front ((xs ++ ys) ++ rest)).1 (next (front ((xs ++ ys) ++ rest)).0 (drop (front ((xs ++ ys) ++ rest)).1 ((xs ++ ys) ++ rest)))) None
    ≡ Some (y, length (xs ++ ys))
front_back {X} test front next x y xs ys rest passes e f =
    ap (λ ks. cond (test (front ks).0) (behind (front ks).1 (next (front ks).0 (drop (front ks).1 ks))) None) (append_assoc xs ys rest)
    ∙ ap (λ (g : X × ℕ). cond (test g.0) (behind g.1 (next g.0 (drop g.1 (xs ++ (ys ++ rest))))) None) e
    ∙ cond-true (test x) _ None passes
    ∙ ap (λ ks. behind (length xs) (next x ks)) (drop-append_seam xs (ys ++ rest))
    ∙ ap (behind (length xs)) f
    ∙ ap (λ n. Some (y, n)) (sym (length-append xs ys))

-- a scalar, and what is read at it
pub typed_back : {X : Type 0} (next : Scalar → Reading X) (ty : Scalar) (x : X) (ks rest : Lexemes) → next ty (ks ++ rest) ≡ Some (x, length ks) →
    typed next ((scalar_kept ty ∷ ks) ++ rest) ≡ Some ((ty, x), length (scalar_kept ty ∷ ks))
typed_back next ty x ks rest e = one_more (ty, x) (length ks) _ (ap (option_map (λ f. ((ty, f.0), f.1))) e)

-- what is read of three lists, however they are joined
pub joined_back : {X : Type 0} (reading : Reading X) (x : X) (xs ys zs rest : Lexemes) → reading (((xs ++ ys) ++ zs) ++ rest) ≡ Some (x, length ((xs ++ ys) ++ zs)) →
    reading ((xs ++ (ys ++ zs)) ++ rest) ≡ Some (x, length (xs ++ (ys ++ zs)))
joined_back reading x xs ys zs rest e = subst (λ ks. reading (ks ++ rest) ≡ Some (x, length ks)) (append_assoc xs ys zs) e

-- a reading, and the lexeme that closes it
pub ended_back : {X : Type 0} (ends : Shape → Bool) (first : Reading X) (x : X) (xs : Lexemes) (close : Kept) (rest : Lexemes) → first (xs ++ (close ∷ rest)) ≡ Some (x, length xs) → ends close.0 ≡ true →
    closed_by ends ((xs ++ close ∷ []) ++ rest) (first ((xs ++ close ∷ []) ++ rest)) ≡ Some (x, length (xs ++ close ∷ []))
ended_back ends first x xs close rest e closes =
    ap (λ ks. closed_by ends ks (first ks)) (append_assoc xs (close ∷ []) rest)
    ∙ ap (closed_by ends (xs ++ (close ∷ rest))) e
    ∙ ap (λ ks. cond (begins_with ends ks) (Some (x, length xs + 1)) None) (drop-append_seam xs (close ∷ rest))
    ∙ cond-true (ends close.0) _ None closes
    ∙ ap (λ n. Some (x, n)) (sym (length-append xs (close ∷ [])))
