-- Readings of kept lexemes, and runs of parts that are written alike.
use Rattle.std.specs.Prelude.{ℕ, zero, suc, ◌+◌, ◌-◌, Bool, false, List, [], ◌∷◌, drop, Option, Some, None, option_map, option_and_then, if◌then◌else◌}
use Rattle.ir_grammar.specs.declared.shape.Shape.{Shape}
use Rattle.ir_grammar.specs.Tokens.{Kept}

-- what stands at the front of kept lexemes, and how many of them spell it
abbrev pub Reading : Type 0 → Type 0
Reading X = List Kept → Option (X × ℕ)

-- the same behind so many lexemes
abbrev pub behind : {X : Type 0} → ℕ → Option (X × ℕ) → Option (X × ℕ)
behind n found = option_map (λ f. (f.0, n + f.1)) found

-- Parts one after another as long as a lexeme begins one, from the lexeme behind so many others on.
abbrev pub run : {X : Type 0} → (Shape → Bool) → Reading X → ℕ → List Kept → Option (List X × ℕ)
run begins part skipped [] = Some ([], 0)
run begins part zero (k ∷ ks) =
    if begins k.0
    then option_and_then (λ f. option_map (λ rest. (f.0 ∷ rest.0, f.1 + rest.1)) (run begins part (f.1 - 1) ks)) (part (k ∷ ks))
    else Some ([], 0)
run begins part (suc skipped) (k ∷ ks) = run begins part skipped ks

-- a run from the first lexeme on
abbrev pub runs : {X : Type 0} → (Shape → Bool) → Reading X → Reading (List X)
runs begins part ks = run begins part 0 ks

-- whether the first lexeme has a shape
abbrev pub begins_with : (Shape → Bool) → List Kept → Bool
begins_with test [] = false
begins_with test (k ∷ ks) = test k.0

-- a reading, and behind it a lexeme that ends it
abbrev pub closed_by : {X : Type 0} → (Shape → Bool) → List Kept → Option (X × ℕ) → Option (X × ℕ)
closed_by ends ks found = option_and_then (λ f. if begins_with ends (drop f.1 ks) then Some (f.0, f.1 + 1) else None) found
