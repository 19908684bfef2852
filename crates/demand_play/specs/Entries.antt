-- The entries of a closed table, their generations, and when they are sound.
use Rattle.std.specs.Prelude.{◌≡◌, ◌≢◌, ℕ, zero, suc, Bool, true, false, List, All, AllPairs, Contains, slice_get, Option, Some, None, IfSome, option_and_then}
use Rattle.std.specs.Option.{is_none, MatchOption}
use Rattle.demand_play.specs.declared.entry.Closed.{Closed}

-- the entry whose row needed the row of this one
abbrev pub parent_entry : List Closed → Closed → Option Closed
parent_entry entries entry = option_and_then (slice_get entries) entry.parent

abbrev pub holds_of : (Closed → Bool) → Option Closed → Bool
holds_of test None = false
holds_of test (Some entry) = test entry

-- the entry's generation is n: its chain of parents ends after n steps
abbrev pub is_of_generation : List Closed → ℕ → Closed → Bool
is_of_generation entries zero entry = is_none entry.parent
is_of_generation entries (suc n) entry = holds_of (is_of_generation entries n) (parent_entry entries entry)

-- rows are distinct, each parent is an entry whose claimer is the child's maker, and each chain of parents ends
pub record AreSound (entries : List Closed) : Type 0 where
  pub distinct : AllPairs (λ entry other. entry.row ≢ other.row) entries
  pub claimed : All (λ entry. IfSome entry.parent (λ place. (parent : Closed) × (slice_get entries place ≡ Some parent) × (parent.claimer ≡ Some entry.maker))) entries
  pub ends : All (λ entry. (n : ℕ) × (is_of_generation entries n entry ≡ true)) entries

-- the rows without a parent are roots, and the others are needed by the rows of their parents
abbrev pub AreAsked : (List ℕ → List (List ℕ)) → List (List ℕ) → List Closed → Type 0
AreAsked needs roots entries = All (λ entry. MatchOption entry.parent (Contains roots entry.row)
    (λ place. (parent : Closed) × (slice_get entries place ≡ Some parent) × Contains (needs parent.row) entry.row)) entries
