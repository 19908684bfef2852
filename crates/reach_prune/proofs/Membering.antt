-- Lists that are gone through from behind.
use Rattle.std.proofs.Common.{◌≡◌, ◌∙◌, List, [], ◌∷◌, ◌++◌, Option, None, Some, reverse, refl, sym, ap, subst}
use Rattle.std.specs.Prelude.{option_to_list, IsPermutation}
use Rattle.std.specs.List.{filter_map, cons_option}
use Rattle.std.proofs.lemmas.List.{append-nil, append_assoc, reverse-append}
use Rattle.std.proofs.lemmas.List.Elements.{filter_map-append}
use Rattle.std.proofs.lemmas.List.Sorted.{IsPermutation-reverse, IsPermutation-sym, IsPermutation-trans}

turned : {Y : Type 0} (o : Option Y) → reverse (option_to_list o) ≡ option_to_list o
turned None = refl
turned (Some y) = refl

last_one : {X Y : Type 0} (f : X → Option Y) (x : X) → filter_map f (x ∷ []) ≡ option_to_list (f x)
last_one {Y = Y} f x = by (f x)
  where
    by : (o : Option Y) → cons_option o [] ≡ option_to_list o
    by None = refl
    by (Some y) = refl

-- The last one goes to the end of what is made.
pub reversed_next : {X Y : Type 0} (f : X → Option Y) (pieces rest : List X) (x : X) (made next whole : List Y) → pieces ≡ rest ++ x ∷ [] → next ≡ made ++ option_to_list (f x) → filter_map f pieces ++ reverse made ≡ whole
    → filter_map f rest ++ reverse next ≡ whole
reversed_next f pieces rest x made next whole is pushed so =
    ap (λ l. filter_map f rest ++ l) (ap reverse pushed ∙ reverse-append made (option_to_list (f x)) ∙ ap (λ l. l ++ reverse made) (turned (f x)))
    ∙ sym (append_assoc (filter_map f rest) (option_to_list (f x)) (reverse made))
    ∙ ap (λ l. l ++ reverse made) (ap (λ l. filter_map f rest ++ l) (sym (last_one f x)) ∙ sym (filter_map-append f rest (x ∷ [])) ∙ ap (filter_map f) (sym is))
    ∙ so

-- What is made has the list's elements.
pub same_members : {Y : Type 0} (whole made sorted : List Y) → reverse made ≡ whole → IsPermutation made sorted → IsPermutation whole sorted
same_members whole made sorted is moved = IsPermutation-trans whole made sorted (subst (λ l. IsPermutation l made) is (IsPermutation-sym made (reverse made) (IsPermutation-reverse made))) moved
