-- How a row is kept: its words, filled up with zeros to 34.
use Rattle.std.specs.Prelude.{◌≡◌, ℕ, ◌-◌, ◌≤◌, List, ◌++◌, length, take, replicate}
use Rattle.std.proofs.Common.{arith}
use Rattle.std.proofs.lemmas.List.{length-take-le}

-- the words, filled up with zeros
abbrev pub filled : List ℕ → List ℕ
filled words = words ++ replicate (34 - length words) 0

-- n of the kept words are the row's, and the others are zeros
pub record IsKept (words : List ℕ) (n : ℕ) : Type 0 where
  pub few : n ≤ 34
  pub long : length words ≡ 34
  pub zeros : filled (take n words) ≡ words

pub length-kept : (words : List ℕ) (n : ℕ) → IsKept words n → length (take n words) ≡ n
length-kept words n kept = length-take-le n words (omega arith)
