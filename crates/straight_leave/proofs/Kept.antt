-- What stands at the unknown items of a pattern.
use Rattle.std.proofs.Common.{◌≡◌, ◌∙◌, ℕ, zero, suc, ◌+◌, ◌<◌, ◌≤◌, Bool, true, false, List, [], ◌∷◌, ◌++◌, length, get_or, drop, map, Some, None, slice_get, append_assoc, refl, ap, sym, arith, if◌then◌else◌}
use Rattle.std.proofs.lemmas.List.{drop_all, drop_more, append-nil}
use Rattle.ir_types.specs.declared.scalar.Known.{Known}
use Rattle.ir_types.specs.declared.scalar.Known.TheVariants.{Unknown}
use Rattle.ir_syntax.specs.declared.body.Arg.{Arg}
use Rattle.demands.specs.Names.{is_unknown}
use Rattle.straight_plan.specs.Asked.{known_of, forgotten}
use Rattle.straight_plan.specs.Left.{at_unknown}

pub at_unknown-nil : {X : Type 0} (ps : List Known) → ◌≡◌ {A = List X} (at_unknown ps []) []
at_unknown-nil [] = refl
at_unknown-nil (p ∷ ps) = refl

-- where the loop has seen each element
pub kept_all : {X Y : Type 0} (f : X → Y) (left : List Y) (ps qs : List Known) (xs : List X) (k : ℕ) → length xs ≤ k
    → left ++ map f (at_unknown qs (drop k xs)) ≡ map f (at_unknown ps xs) → left ≡ map f (at_unknown ps xs)
kept_all f left ps qs xs k end h =
    sym (ap (λ ys. left ++ map f (at_unknown qs ys)) (drop_all k xs end) ∙ ap (λ ys. left ++ map f ys) (at_unknown-nil qs) ∙ append-nil left) ∙ h

-- what is asked of the arguments of a function that is copied or isn't
pub asked_of_each : (copied : Bool) (args : List Arg) → map (λ arg. if copied then known_of arg.value else Unknown) args
    ≡ (if copied then map (λ arg. known_of arg.value) args else forgotten (map (λ arg. known_of arg.value) args))
asked_of_each true args = refl
asked_of_each false [] = refl
asked_of_each false (arg ∷ args) = ap (λ ps. Unknown ∷ ps) (asked_of_each false args)

-- the same where nothing is made of what is kept
pub kept_end : {X : Type 0} (left ys : List X) (qs : List Known) (xs : List X) (k : ℕ) → length xs ≤ k → left ++ at_unknown qs (drop k xs) ≡ ys → left ≡ ys
kept_end left ys qs xs k end h = sym (ap (λ zs. left ++ at_unknown qs zs) (drop_all k xs end) ∙ ap (λ zs. left ++ zs) (at_unknown-nil qs) ∙ append-nil left) ∙ h

drop_at : (ps : List Known) (k : ℕ) (p : Known) → slice_get ps k ≡ Some p → drop k ps ≡ p ∷ drop (suc k) ps
drop_at [] k p h = cc
drop_at (q ∷ ps) zero p h = let same : q ≡ p = cc in ap (λ x. x ∷ ps) same
drop_at (q ∷ ps) (suc k) p h = drop_at ps k p h

drop_past : (ps : List Known) (k : ℕ) → slice_get ps k ≡ None → drop k ps ≡ []
drop_past [] zero h = refl
drop_past [] (suc k) h = refl
drop_past (q ∷ ps) zero h = cc
drop_past (q ∷ ps) (suc k) h = drop_past ps k h

drop_past_next : (ps : List Known) (k : ℕ) → slice_get ps k ≡ None → drop (suc k) ps ≡ []
drop_past_next [] k h = refl
drop_past_next (q ∷ ps) zero h = cc
drop_past_next (q ∷ ps) (suc k) h = drop_past_next ps k h

at_unknown-past : {X : Type 0} (ps : List Known) (xs : List X) (k j : ℕ) → drop k ps ≡ [] → at_unknown (drop k ps) (drop j xs) ≡ []
at_unknown-past ps xs k j h = ap (λ qs. at_unknown qs (drop j xs)) h

-- one more element, where the pattern has an item for it, and where it has none
pub kept_more : {X : Type 0} (ps : List Known) (xs : List X) (k : ℕ) (d : X) (p : Known) (done ys : List X) → k < length xs → Some p ≡ slice_get ps k
    → done ++ at_unknown (drop k ps) (drop k xs) ≡ ys → (if is_unknown p then done ++ get_or xs k d ∷ [] else done) ++ at_unknown (drop (k + 1) ps) (drop (k + 1) xs) ≡ ys
kept_more {X = X} ps xs k d p done ys within found h =
    let one : k + 1 ≡ suc k = omega arith in
    let step : done ++ at_unknown (p ∷ drop (k + 1) ps) (get_or xs k d ∷ drop (k + 1) xs) ≡ ys =
    (λ i. done ++ at_unknown (p ∷ drop (one i) ps) (get_or xs k d ∷ drop (k + 1) xs)) ∙ (λ i. done ++ at_unknown (sym (drop_at ps k p (sym found)) i) (sym (drop_more xs k d within) i)) ∙ h in
    by (is_unknown p) (at_unknown (drop (k + 1) ps) (drop (k + 1) xs)) step
  where
    by : (b : Bool) (rest : List X) → done ++ (if b then get_or xs k d ∷ rest else rest) ≡ ys → (if b then done ++ get_or xs k d ∷ [] else done) ++ rest ≡ ys
    by true rest e = append_assoc done (get_or xs k d ∷ []) rest ∙ e
    by false rest e = e

pub kept_past : {X : Type 0} (ps : List Known) (xs : List X) (k : ℕ) (done ys : List X) → None ≡ slice_get ps k
    → done ++ at_unknown (drop k ps) (drop k xs) ≡ ys → done ++ at_unknown (drop (k + 1) ps) (drop (k + 1) xs) ≡ ys
kept_past ps xs k done ys none h =
    let one : suc k ≡ k + 1 = omega arith in
    let next : drop (k + 1) ps ≡ [] = ap (λ n. drop n ps) (sym one) ∙ drop_past_next ps k (sym none) in
    ap (λ zs. done ++ zs) (at_unknown-past ps xs (k + 1) (k + 1) next ∙ sym (at_unknown-past ps xs k k (drop_past ps k (sym none)))) ∙ h
