-- One argument of an entry.
use Rattle.std.specs.Prelude.{◌≡◌, ℤ, List, ◌∷◌, Option, None, Some}

-- The argument where it is known, and otherwise the first of the words.
abbrev pub Taken : Option ℤ → List ℤ → ℤ → List ℤ → Type 0
Taken (Some z) words number more = (number ≡ z) × (more ≡ words)
Taken None words number more = words ≡ number ∷ more
