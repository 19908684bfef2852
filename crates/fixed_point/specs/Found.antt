-- Rows that were found, in the order in which they were found.
use Rattle.std.specs.Prelude.{◌≡◌, ℕ, List, ◌++◌, All, Contains}

-- `new` is `old` with those of the rows that weren't there put to its end, each once
pub record Adds (old rows new : List (List ℕ)) : Type 0 where
  pub more : List (List ℕ)
  pub kept : new ≡ old ++ more
  pub added : All (Contains rows) more
  pub all : All (Contains new) rows
