-- The text in the parts of a block, part by part; types that are compared one by one.
use Rattle.std.proofs.Common.{◌≡◌, ◌∙◌, ℕ, ◌-◌, ◌≤◌, ◌<◌, false, leb, List, [], ◌∷◌, ◌++◌, length, drop, Option, Some, None, option_map, refl, sym, ap, arith, append_assoc}
use Rattle.std.proofs.lemmas.Bool.Decides.{nat_tests}
use Rattle.std.proofs.lemmas.List.{drop_all, length-drop}
use Rattle.ir_types.specs.declared.scalar.Scalar.{Scalar}
use Rattle.ir_steps.specs.Calls.{same_types}

-- a text with this in front
abbrev pub behind : List ℕ → Option (List ℕ) → Option (List ℕ)
behind front found = option_map (λ more. front ++ more) found

pub behind_none : (found : Option (List ℕ)) → behind [] found ≡ found
behind_none None = refl
behind_none (Some text) = refl

pub behind_more : (front : List ℕ) (byte : ℕ) (found : Option (List ℕ)) → behind front (option_map (λ text. byte ∷ text) found) ≡ behind (front ++ byte ∷ []) found
behind_more front byte None = refl
behind_more front byte (Some text) = ap (λ (t : List ℕ). Some t) (sym (append_assoc front (byte ∷ []) text))

-- ---- types one by one

some_left : (types : List Scalar) → 0 < length types → false ≡ same_types types []
some_left [] h = absurd (let none : 0 < 0 = h in omega (arith, none))
some_left (ty ∷ types) h = refl

-- a type is left and no other
pub no_other_left : (types others : List Scalar) (k : ℕ) → k < length types → length others ≤ k → false ≡ same_types (drop k types) (drop k others)
no_other_left types others k within past =
    some_left (drop k types) (omega (arith, length-drop k types)) ∙ ap (λ xs. same_types (drop k types) xs) (sym (drop_all k others past))

by_length : (rest : List Scalar) (m n : ℕ) → length rest ≡ m - n → leb m n ≡ same_types [] rest
by_length [] m n e = grind (arith, nat_tests)
by_length (ty ∷ rest) m n e = grind (arith, nat_tests)

-- no type is left
pub no_type_left : (types others : List Scalar) (k : ℕ) → k ≡ length types → leb (length others) (length types) ≡ same_types (drop k types) (drop k others)
no_type_left types others k all =
    by_length (drop k others) (length others) (length types) (omega (arith, length-drop k others)) ∙ ap (λ xs. same_types xs (drop k others)) (sym (drop_all k types (omega arith)))
