-- What passes keep when they meet.
use Rattle.std.specs.Prelude.{◌≡◌, ◌≢◌, ℕ, ◌<◌, ◌≤◌, List, length, slice_index, Option, Some, None}
use mathlib.Core.Option.{some}
use lib.ListN.{get_elem?}

-- the first n are taken from the others where they were 0, and all else stays
pub record AreMerged (n : ℕ) (were others are : List ℕ) : Type 0 where
  pub wide : length are ≡ length were
  pub kept : (t : ℕ) → slice_index were t ≢ 0 → slice_index are t ≡ slice_index were t
  pub taken : (t : ℕ) → t < n → slice_index were t ≡ 0 → slice_index are t ≡ slice_index others t
  pub left : (t : ℕ) → n ≤ t → slice_index are t ≡ slice_index were t

-- the first n are those of the others where these have some, and all else stays
pub record AreTogether (n : ℕ) (were others are : List (Option ℕ)) : Type 0 where
  pub wide : length are ≡ length were
  pub taken : (k x : ℕ) → k < n → get_elem? others k ≡ some (Some x) → get_elem? are k ≡ some (Some x)
  pub kept : (k : ℕ) → k < n → get_elem? others k ≡ some None → get_elem? are k ≡ get_elem? were k
  pub left : (k : ℕ) → n ≤ k → get_elem? are k ≡ get_elem? were k
