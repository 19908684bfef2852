-- Items that suit their parameters, one after another.
use Rattle.std.proofs.Common.{◌≡◌, ℕ, zero, suc, ◌+◌, ◌<◌, List, [], ◌∷◌, ◌++◌, length, take, get_or, refl, sym, subst, arith}
use Rattle.std.specs.List.{AllZip}
use Rattle.ir_types.proofs.ListSteps.{take_at}

zip_push : {A B : Type 0} (R : A → B → Type 0) (xs : List A) (ys : List B) (x : A) (y : B) → AllZip R xs ys → R x y → AllZip R (xs ++ x ∷ []) (ys ++ y ∷ [])
zip_push R [] [] x y h r = (r, h)
zip_push R [] (b ∷ bs) x y h r = absurd h
zip_push R (a ∷ rest) [] x y h r = absurd h
zip_push R (a ∷ rest) (b ∷ bs) x y h r = (h.0, zip_push R rest bs x y h.1 r)

get_again : {A : Type 0} (xs : List A) (i : ℕ) (d : A) → i < length xs → get_or xs i d ≡ get_or xs i (get_or xs i d)
get_again [] i d h = absurd (omega arith)
get_again (x ∷ xs) zero d h = refl
get_again (x ∷ xs) (suc i) d h = get_again xs i d (omega arith)

pub zip_next : {A B : Type 0} (R : A → B → Type 0) (xs : List A) (ys next : List B) (i : ℕ) (d : A) (y : B) → AllZip R (take i xs) ys → i < length xs → R (get_or xs i d) y → next ≡ ys ++ y ∷ [] → AllZip R (take (i + 1) xs) next
zip_next R xs ys next i d y h less r pushed =
    subst (AllZip R (take (i + 1) xs)) (sym pushed) (subst (λ l. AllZip R l (ys ++ y ∷ [])) (sym (take_at xs i (get_or xs i d) less (get_again xs i d less))) (zip_push R (take i xs) ys (get_or xs i d) y h r))
