-- The rows that roots need.
use Rattle.std.specs.Prelude.{◌≡◌, ℕ, Bool, true, List, All}

-- the test holds of each root
abbrev pub HoldsRoots : List (List ℕ) → (List ℕ → Bool) → Type 0
HoldsRoots roots s = All (λ row. s row ≡ true) roots

-- where the test holds of a row, it holds of each row that this one needs
abbrev pub IsClosed : (List ℕ → List (List ℕ)) → (List ℕ → Bool) → Type 0
IsClosed needs s = (row : List ℕ) → s row ≡ true → All (λ need. s need ≡ true) (needs row)

-- a row is needed where it is in every set that holds the roots and is closed under needs
abbrev pub IsNeeded : (List ℕ → List (List ℕ)) → List (List ℕ) → List ℕ → Type 0
IsNeeded needs roots row = (s : List ℕ → Bool) → HoldsRoots roots s → IsClosed needs s → s row ≡ true
