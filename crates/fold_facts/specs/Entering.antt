-- Pairs of a block and one that it leads to, with whether an edge between them is reached.
use Rattle.std.specs.Prelude.{◌≡◌, ◌⊎◌, ℕ, nat_eq, Bool, false, ◌&&◌, cond, List, Option, Some, IsSome, slice_get}
use Rattle.std.specs.List.{list_any}
use Rattle.std.specs.HashMap.{get}
use Rattle.fold_facts.specs.declared.edge.Edge.{Edge}
use Rattle.fold_facts.specs.declared.entered.Entered.{Entered}
use Rattle.fold_facts.specs.Assigned.{comes_to, edges_at}

-- what is said of the pair, if it is listed
abbrev pub entered_at : Entered → ℕ → ℕ → Option Bool
entered_at e from to = get (λ p q. nat_eq p.0 q.0 && nat_eq p.1 q.1) e.pairs (from, to)

-- The one pair gets the flag, and the others keep theirs.
abbrev pub Puts : Entered → Entered → ℕ → ℕ → Bool → Type 0
Puts before after from to flag = (f t : ℕ) → entered_at after f t ≡ cond (nat_eq from f && nat_eq to t) (Some flag) (entered_at before f t)

-- The pairs of these edges are listed, none of them as entered.
pub record Lists (before after : Entered) (from : ℕ) (edges : List Edge) : Type 0 where
  pub fresh : (f t : ℕ) (flag : Bool) → entered_at after f t ≡ Some flag → (flag ≡ false) ⊎ (entered_at before f t ≡ Some flag)
  pub keeps : (f t : ℕ) → IsSome (entered_at before f t) → IsSome (entered_at after f t)
  pub lists : (k : ℕ) (edge : Edge) → slice_get edges k ≡ Some edge → IsSome (entered_at after from edge.to)

-- Each edge's pair is listed, and says rightly whether one of its edges is reached.
pub record IsIndexed (e : Entered) (edges : List (List Edge)) : Type 0 where
  pub right : (from to : ℕ) (flag : Bool) → entered_at e from to ≡ Some flag → flag ≡ list_any (comes_to to) (edges_at (slice_get edges from))
  pub lists : (from k : ℕ) (edge : Edge) → slice_get (edges_at (slice_get edges from)) k ≡ Some edge → IsSome (entered_at e from edge.to)
