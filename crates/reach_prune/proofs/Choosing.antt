-- What is chosen, element by element.
use Rattle.std.proofs.Common.{◌≡◌, ◌∙◌, ℕ, zero, suc, ◌+◌, ◌≤◌, ◌<◌, Bool, true, false, List, [], ◌∷◌, ◌++◌, length, map, drop, get_or, refl, sym, ap, add-one, arith}
use Rattle.std.specs.Prelude.{if◌then◌else◌, slice_get, Option, None, Some}
use Rattle.std.proofs.lemmas.List.{append-nil, append_assoc, drop_all, get_or_default}
use Rattle.ir_types.proofs.ListSteps.{drop_at}
use Rattle.interface.specs.Masks.{chosen, is_chosen, flag_at}

chosen_none : {X : Type 0} (xs : List X) → chosen [] xs ≡ []
chosen_none xs = refl

chosen_of_none : {X : Type 0} (mask : List Bool) → chosen {X = X} mask [] ≡ []
chosen_of_none [] = refl
chosen_of_none (flag ∷ mask) = refl

-- one more element was looked at
pub chosen_at : {X : Type 0} (mask : List Bool) (k : ℕ) (x : X) (rest : List X) → chosen (drop k mask) (x ∷ rest) ≡ (if is_chosen mask k then x ∷ chosen (drop (suc k) mask) rest else chosen (drop (suc k) mask) rest)
chosen_at [] zero x rest = refl
chosen_at [] (suc k) x rest = refl
chosen_at (flag ∷ mask) zero x rest = refl
chosen_at (flag ∷ mask) (suc k) x rest = chosen_at mask k x rest

chosen_step : {X : Type 0} (mask : List Bool) (xs : List X) (k : ℕ) (x : X) → k < length xs → x ≡ get_or xs k x
    → chosen (drop k mask) (drop k xs) ≡ (if is_chosen mask k then x ∷ chosen (drop (k + 1) mask) (drop (k + 1) xs) else chosen (drop (k + 1) mask) (drop (k + 1) xs))
chosen_step mask xs k x within is =
    ap (chosen (drop k mask)) (drop_at xs k x within is)
    ∙ chosen_at mask k x (drop (k + 1) xs)
    ∙ ap (λ n. if is_chosen mask k then x ∷ chosen (drop n mask) (drop (k + 1) xs) else chosen (drop n mask) (drop (k + 1) xs)) (sym (add-one k))

-- and is added, if it is chosen
pub chosen_next : {X Y : Type 0} (f : X → Y) (mask : List Bool) (xs : List X) (made next whole : List Y) (k : ℕ) (x : X) → k < length xs → x ≡ get_or xs k x → made ++ map f (chosen (drop k mask) (drop k xs)) ≡ whole
    → next ≡ made ++ (if is_chosen mask k then f x ∷ [] else []) → next ++ map f (chosen (drop (k + 1) mask) (drop (k + 1) xs)) ≡ whole
chosen_next f mask xs made next whole k x within is so pushed =
    ap (λ l. l ++ map f (chosen (drop (k + 1) mask) (drop (k + 1) xs))) pushed
    ∙ append_assoc made (if is_chosen mask k then f x ∷ [] else []) (map f (chosen (drop (k + 1) mask) (drop (k + 1) xs)))
    ∙ ap (λ l. made ++ l) (by (is_chosen mask k) ∙ ap (map f) (sym (chosen_step mask xs k x within is)))
    ∙ so
  where
    by : (b : Bool) → (if b then f x ∷ [] else []) ++ map f (chosen (drop (k + 1) mask) (drop (k + 1) xs))
        ≡ map f (if b then x ∷ chosen (drop (k + 1) mask) (drop (k + 1) xs) else chosen (drop (k + 1) mask) (drop (k + 1) xs))
    by true = refl
    by false = refl

pub plain_next : {X : Type 0} (mask : List Bool) (xs made next whole : List X) (k : ℕ) (x : X) → k < length xs → x ≡ get_or xs k x → made ++ chosen (drop k mask) (drop k xs) ≡ whole
    → next ≡ made ++ (if is_chosen mask k then x ∷ [] else []) → next ++ chosen (drop (k + 1) mask) (drop (k + 1) xs) ≡ whole
plain_next mask xs made next whole k x within is so pushed =
    ap (λ l. l ++ chosen (drop (k + 1) mask) (drop (k + 1) xs)) pushed
    ∙ append_assoc made (if is_chosen mask k then x ∷ [] else []) (chosen (drop (k + 1) mask) (drop (k + 1) xs))
    ∙ ap (λ l. made ++ l) (by (is_chosen mask k) ∙ sym (chosen_step mask xs k x within is))
    ∙ so
  where
    by : (b : Bool) → (if b then x ∷ [] else []) ++ chosen (drop (k + 1) mask) (drop (k + 1) xs) ≡ (if b then x ∷ chosen (drop (k + 1) mask) (drop (k + 1) xs) else chosen (drop (k + 1) mask) (drop (k + 1) xs))
    by true = refl
    by false = refl

-- and at the end all was
pub chosen_whole : {X Y : Type 0} (f : X → Y) (mask : List Bool) (xs : List X) (made whole : List Y) (k : ℕ) → length xs ≤ k → made ++ map f (chosen (drop k mask) (drop k xs)) ≡ whole → made ≡ whole
chosen_whole f mask xs made whole k past so =
    sym (append-nil made) ∙ ap (λ l. made ++ map f l) (sym (ap (chosen (drop k mask)) (drop_all k xs past) ∙ chosen_of_none (drop k mask))) ∙ so

pub plain_whole : {X : Type 0} (mask : List Bool) (xs made whole : List X) (k : ℕ) → length xs ≤ k → made ++ chosen (drop k mask) (drop k xs) ≡ whole → made ≡ whole
plain_whole mask xs made whole k past so = sym (append-nil made) ∙ ap (λ l. made ++ l) (sym (ap (chosen (drop k mask)) (drop_all k xs past) ∙ chosen_of_none (drop k mask))) ∙ so

-- one flag more
pub flag_more : {X : Type 0} (xs : List X) (flags next : List Bool) (k : ℕ) → k < length xs → flags ++ map (λ x. true) (drop k xs) ≡ map (λ x. true) xs → next ≡ flags ++ true ∷ [] → next ++ map (λ x. true) (drop (k + 1) xs) ≡ map (λ x. true) xs
flag_more {X = X} xs flags next k within so pushed =
    ap (λ l. l ++ map (λ x. true) (drop (k + 1) xs)) pushed ∙ append_assoc flags (true ∷ []) (map (λ x. true) (drop (k + 1) xs)) ∙ ap (λ l. flags ++ l) (ap (λ n. true ∷ map (λ x. true) (drop n xs)) (add-one k) ∙ sym (by xs k within)) ∙ so
  where
    by : (ys : List X) (n : ℕ) → n < length ys → map (λ x. true) (drop n ys) ≡ true ∷ map (λ x. true) (drop (suc n) ys)
    by [] n less = absurd (omega (arith, less))
    by (y ∷ ys) zero less = refl
    by (y ∷ ys) (suc n) less = by ys n (omega (arith, less))

-- the same of an element that is read at a place
pub plain_at : {X : Type 0} (mask : List Bool) (xs made next whole : List X) (k : ℕ) (d : X) (stays : Bool) → k < length xs → made ++ chosen (drop k mask) (drop k xs) ≡ whole → stays ≡ is_chosen mask k
    → next ≡ made ++ (if stays then get_or xs k d ∷ [] else []) → next ++ chosen (drop (k + 1) mask) (drop (k + 1) xs) ≡ whole
plain_at mask xs made next whole k d stays within so same pushed =
    plain_next mask xs made next whole k (get_or xs k d) within (get_or_default xs k d (get_or xs k d) within) so (pushed ∙ ap (λ b. made ++ (if b then get_or xs k d ∷ [] else [])) same)
