-- How many items of a pattern are unknown, and what stands there.
use Rattle.std.proofs.Common.{◌≡◌, ℕ, zero, suc, ◌+◌, ◌<◌, ◌≤◌, true, cond, List, [], ◌∷◌, length, take, count_by, slice_get, All, refl, ap, arith}
use Rattle.std.specs.List.{AllByRecursion}
use Rattle.std.proofs.lemmas.List.Sums.{sum_by-cons}
use Rattle.std.proofs.lemmas.List.Elements.{All-from_recursion, recursion_from_All}
use Rattle.ir_types.specs.declared.scalar.Known.{Known}
use Rattle.ir_types.specs.declared.scalar.Known.TheVariants.{Unknown, Num, Null}
use Rattle.demands.specs.Names.{is_unknown, are_unknown}
use Rattle.straight_plan.specs.declared.fact.Fact.TheVariants.{Varying}
use Rattle.straight_plan.specs.Folding.{param_fact}
use Rattle.straight_plan.specs.Left.{at_unknown}

-- an unknown parameter's new number is one of those that are left
pub unknown_before-lt : {X : Type 0} (ks : List Known) (xs : List X) (j : ℕ) → length xs ≡ length ks → j < length ks → param_fact (slice_get ks j) ≡ Varying
    → count_by is_unknown (take j ks) < length (at_unknown ks xs)
unknown_before-lt [] xs j e h v = absurd (omega arith)
unknown_before-lt (k ∷ ks) [] j e h v = absurd (omega arith)
unknown_before-lt (Unknown ∷ ks) (x ∷ xs) zero e h v = omega arith
unknown_before-lt (Num n ∷ ks) (x ∷ xs) zero e h v = cc
unknown_before-lt (Null ∷ ks) (x ∷ xs) zero e h v = cc
unknown_before-lt (Unknown ∷ ks) (x ∷ xs) (suc j) e h v =
    let front : count_by is_unknown (take (suc j) (Unknown ∷ ks)) ≡ 1 + count_by is_unknown (take j ks) = sum_by-cons (λ q. cond (is_unknown q) 1 0) Unknown (take j ks) in
    omega (arith, front, unknown_before-lt ks xs j (omega arith) (omega arith) v)
unknown_before-lt (Num n ∷ ks) (x ∷ xs) (suc j) e h v =
    let front : count_by is_unknown (take (suc j) (Num n ∷ ks)) ≡ 0 + count_by is_unknown (take j ks) = sum_by-cons (λ q. cond (is_unknown q) 1 0) (Num n) (take j ks) in
    omega (arith, front, unknown_before-lt ks xs j (omega arith) (omega arith) v)
unknown_before-lt (Null ∷ ks) (x ∷ xs) (suc j) e h v =
    let front : count_by is_unknown (take (suc j) (Null ∷ ks)) ≡ 0 + count_by is_unknown (take j ks) = sum_by-cons (λ q. cond (is_unknown q) 1 0) Null (take j ks) in
    omega (arith, front, unknown_before-lt ks xs j (omega arith) (omega arith) v)

pub length-at_unknown : {X Y : Type 0} (ks : List Known) (xs : List X) (ys : List Y) → length xs ≡ length ys → length (at_unknown ks xs) ≡ length (at_unknown ks ys)
length-at_unknown [] xs ys e = refl
length-at_unknown (k ∷ ks) [] [] e = refl
length-at_unknown (k ∷ ks) [] (y ∷ ys) e = absurd (omega arith)
length-at_unknown (k ∷ ks) (x ∷ xs) [] e = absurd (omega arith)
length-at_unknown (Unknown ∷ ks) (x ∷ xs) (y ∷ ys) e = ap (λ n. suc n) (length-at_unknown ks xs ys (omega arith))
length-at_unknown (Num n ∷ ks) (x ∷ xs) (y ∷ ys) e = length-at_unknown ks xs ys (omega arith)
length-at_unknown (Null ∷ ks) (x ∷ xs) (y ∷ ys) e = length-at_unknown ks xs ys (omega arith)

pub at_unknown-short : {X : Type 0} (ks : List Known) (xs : List X) → length (at_unknown ks xs) ≤ length xs
at_unknown-short [] xs = omega arith
at_unknown-short (k ∷ ks) [] = omega arith
at_unknown-short (Unknown ∷ ks) (x ∷ xs) = omega (arith, at_unknown-short ks xs)
at_unknown-short (Num n ∷ ks) (x ∷ xs) = omega (arith, at_unknown-short ks xs)
at_unknown-short (Null ∷ ks) (x ∷ xs) = omega (arith, at_unknown-short ks xs)

each_kept : {X : Type 0} (P : X → Type 0) (ks : List Known) (xs : List X) → AllByRecursion P xs → AllByRecursion P (at_unknown ks xs)
each_kept P [] xs h = tt
each_kept P (k ∷ ks) [] h = tt
each_kept P (Unknown ∷ ks) (x ∷ xs) h = (h.0, each_kept P ks xs h.1)
each_kept P (Num n ∷ ks) (x ∷ xs) h = each_kept P ks xs h.1
each_kept P (Null ∷ ks) (x ∷ xs) h = each_kept P ks xs h.1

pub All-at_unknown : {X : Type 0} (P : X → Type 0) (ks : List Known) (xs : List X) → All P xs → All P (at_unknown ks xs)
All-at_unknown P ks xs h = All-from_recursion P (at_unknown ks xs) (each_kept P ks xs (recursion_from_All P xs h))

-- where nothing is known everything stays
pub at_unknown-all : {X : Type 0} (ks : List Known) (xs : List X) → length xs ≡ length ks → are_unknown ks ≡ true → at_unknown ks xs ≡ xs
at_unknown-all [] [] e h = refl
at_unknown-all [] (x ∷ xs) e h = absurd (omega arith)
at_unknown-all (k ∷ ks) [] e h = absurd (omega arith)
at_unknown-all (Unknown ∷ ks) (x ∷ xs) e h = ap (λ ys. x ∷ ys) (at_unknown-all ks xs (omega arith) h)
at_unknown-all (Num n ∷ ks) (x ∷ xs) e h = cc
at_unknown-all (Null ∷ ks) (x ∷ xs) e h = cc

pub unknown-same : (ks qs : List Known) → length ks ≡ length qs → are_unknown ks ≡ true → are_unknown qs ≡ true → ks ≡ qs
unknown-same [] [] e h g = refl
unknown-same [] (q ∷ qs) e h g = absurd (omega arith)
unknown-same (k ∷ ks) [] e h g = absurd (omega arith)
unknown-same (Unknown ∷ ks) (Unknown ∷ qs) e h g = ap (λ ps. Unknown ∷ ps) (unknown-same ks qs (omega arith) h g)
unknown-same (Unknown ∷ ks) (Num n ∷ qs) e h g = cc
unknown-same (Unknown ∷ ks) (Null ∷ qs) e h g = cc
unknown-same (Num n ∷ ks) qs e h g = cc
unknown-same (Null ∷ ks) qs e h g = cc
