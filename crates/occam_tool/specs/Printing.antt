-- What a sink took of a text.
use Rattle.std.specs.Prelude.{◌≡◌, ℕ, List, ◌++◌, take, Option, Some, None, Result, Ok, Err}
use Rattle.occam_base.specs.declared.fault.Fault.{Fault}

-- all of the text, or after a fault a front of it
abbrev pub TakesText : List ℕ → List ℕ → List ℕ → Result (Unit {0}) Fault → Type 0
TakesText taken more text (Ok done) = more ≡ taken ++ text
TakesText taken more text (Err f) = (n : ℕ) × (more ≡ taken ++ take n text)

abbrev pub PrintOf : Option (List ℕ) → Option (List ℕ) → List ℕ → Result (Unit {0}) Fault → Type 0
PrintOf None None text answer = Unit {0}
PrintOf None (Some more) text answer = ⊥
PrintOf (Some taken) None text answer = ⊥
PrintOf (Some taken) (Some more) text answer = TakesText taken more text answer
