-- In the least closed assignment a path of reached edges leads to each reached block: the assignment that reaches only what such
-- paths lead to is closed. Which blocks these are needn't be known, since what is shown is that the contrary can't be.
use Rattle.std.proofs.Common.{◌≡◌, ◌∙◌, ◌⊎◌, inl, inr, ℕ, zero, suc, ◌+◌, ◌<◌, Bool, true, false, List, [], ◌∷◌, ◌++◌, Option, None, Some, length, map, refl, sym, ap, subst, arith}
use Rattle.std.specs.Prelude.{slice_get}
use Rattle.std.proofs.lemmas.Bool.{false≢true}
use Rattle.std.proofs.lemmas.Option.{none-some}
use Rattle.std.proofs.lemmas.List.{length-append}
use Rattle.ir_syntax.specs.declared.body.Block.{Block}
use Rattle.fold_facts.specs.declared.edge.Edge.{Edge}
use Rattle.fold_facts.specs.Assigned.{Assigned, fact_of, edges_at, IsReachedEdge, is_reached, IsAtMost}
use Rattle.fold_facts.specs.Operands.{Setting}
use Rattle.fold_facts.specs.Closed.{IsClosed, IsLeastClosed}
use Rattle.fold_facts.specs.Phis.{phi_fact}
use Rattle.fold_facts.proofs.Lists.{some_is, of_map}
use Rattle.fold_facts.proofs.Orders.{below_refl, below_trans}
use Rattle.fold_facts.proofs.Rising.{phi_rises}
use Rattle.fold_facts.proofs.Reaching.{reached_by, reached_rises}

-- A path of reached edges from the first block, last visited first.
abbrev pub IsReachedPath : Assigned → List ℕ → Type 0
IsReachedPath a [] = ⊥
IsReachedPath a (place ∷ []) = place ≡ 0
IsReachedPath a (place ∷ from ∷ more) = ((k : ℕ) × IsReachedEdge a from k place) × IsReachedPath a (from ∷ more)

pub record IsPathTo (a : Assigned) (place : ℕ) : Type 0 where
  pub visited : List ℕ
  pub path : IsReachedPath a (place ∷ visited)

first_path : (a : Assigned) (place : ℕ) → place ≡ 0 → IsPathTo a place
first_path a place h = record { visited = []; path = h }

longer : (a : Assigned) (from k to : ℕ) → IsPathTo a from → IsReachedEdge a from k to → IsPathTo a to
longer a from k to p e = record { visited = from ∷ p.visited; path = ((k, e), p.path) }

-- ---- what can't fail to be decided

-- Each of the first numbers has the property or not.
record AreDecided (P : ℕ → Type 0) (n : ℕ) (flags : List Bool) : Type 0 where
  long : length flags ≡ n
  holds : (k : ℕ) → slice_get flags k ≡ Some true → P k
  fails : (k : ℕ) → slice_get flags k ≡ Some false → P k → ⊥

pushed : (flags : List Bool) (x y : Bool) (k : ℕ) → slice_get (flags ++ x ∷ []) k ≡ Some y → (slice_get flags k ≡ Some y) ⊎ ((k ≡ length flags) × (x ≡ y))
pushed [] x y zero h = inr (refl, some_is h)
pushed [] x y (suc k) h = absurd (none-some y h)
pushed (z ∷ zs) x y zero h = inl h
pushed (z ∷ zs) x y (suc k) h = elim (pushed zs x y k h) [ inl o ↦ inl o | inr (e, s) ↦ inr (ap suc e, s) ]

decided_more : (P : ℕ → Type 0) (n : ℕ) (flags : List Bool) (flag : Bool) → AreDecided P n flags → (flag ≡ true → P n) → (flag ≡ false → P n → ⊥) → AreDecided P (suc n) (flags ++ flag ∷ [])
decided_more P n flags flag d held never = record {
  long = omega (arith, d.long, length-append flags (flag ∷ []));
  holds = λ k h. elim (pushed flags flag true k h) [ inl old ↦ d.holds k old | inr (e, s) ↦ subst P (sym (e ∙ d.long)) (held s) ];
  fails = λ k h p. elim (pushed flags flag false k h) [ inl old ↦ d.fails k old p | inr (e, s) ↦ never s (subst P (e ∙ d.long) p) ];
}

decided : (P : ℕ → Type 0) (n : ℕ) → ((flags : List Bool) → AreDecided P n flags → ⊥) → ⊥
decided P zero never = never [] (record { long = refl; holds = λ k h. absurd (none-some true h); fails = λ k h. absurd (none-some false h) })
decided P (suc n) never = decided P n (λ flags d.
    let not_last : P n → ⊥ = λ p. never (flags ++ true ∷ []) (decided_more P n flags true d (λ e. p) (λ e. absurd (false≢true (sym e)))) in
    never (flags ++ false ∷ []) (decided_more P n flags false d (λ e. absurd (false≢true e)) (λ e. not_last)))

-- ---- the edges of some blocks alone

abbrev kept_edges : Option Bool → List Edge → List Edge
kept_edges None edges = edges
kept_edges (Some true) edges = edges
kept_edges (Some false) edges = map (λ edge. record { to = edge.to; reached = false }) edges

abbrev kept_from : List Bool → List (List Edge) → List (List Edge)
kept_from flags [] = []
kept_from [] (edges ∷ more) = edges ∷ more
kept_from (flag ∷ flags) (edges ∷ more) = kept_edges (Some flag) edges ∷ kept_from flags more

kept_at : (flags : List Bool) (edges : List (List Edge)) (from : ℕ) → edges_at (slice_get (kept_from flags edges) from) ≡ kept_edges (slice_get flags from) (edges_at (slice_get edges from))
kept_at [] [] from = refl
kept_at [] (es ∷ more) from = refl
kept_at (true ∷ flags) [] zero = refl
kept_at (false ∷ flags) [] zero = refl
kept_at (flag ∷ flags) [] (suc from) = none (slice_get flags from)
  where
    none : (o : Option Bool) → [] ≡ kept_edges o []
    none None = refl
    none (Some true) = refl
    none (Some false) = refl
kept_at (flag ∷ flags) (es ∷ more) zero = refl
kept_at (flag ∷ flags) (es ∷ more) (suc from) = kept_at flags more from

abbrev reached_to : ℕ → Edge
reached_to to = record { to = to; reached = true }

-- an edge that is kept was reached, and its block isn't one of those that aren't kept
kept_is : (o : Option Bool) (edges : List Edge) (k to : ℕ) → slice_get (kept_edges o edges) k ≡ Some (reached_to to) → (o ≡ Some false → ⊥) × (slice_get edges k ≡ Some (reached_to to))
kept_is None edges k to h = (λ e. none-some false e, h)
kept_is (Some true) edges k to h = (λ e. absurd (false≢true (sym (some_is e))), h)
kept_is (Some false) edges k to h =
    let was = of_map (λ (edge : Edge). record { to = edge.to; reached = false }) edges k (reached_to to) h in
    absurd (false≢true (ap (λ (edge : Edge). edge.reached) was.2))

is_kept : (o : Option Bool) (edges : List Edge) (k to : ℕ) → (o ≡ Some false → ⊥) → slice_get edges k ≡ Some (reached_to to) → slice_get (kept_edges o edges) k ≡ Some (reached_to to)
is_kept None edges k to keep h = h
is_kept (Some true) edges k to keep h = h
is_kept (Some false) edges k to keep h = absurd (keep refl)

-- ---- the least

edge_within : (edges : List (List Edge)) (from k to : ℕ) → slice_get (edges_at (slice_get edges from)) k ≡ Some (reached_to to) → from < length edges
edge_within [] from k to h = absurd (none-some (reached_to to) h)
edge_within (es ∷ more) zero k to h = omega arith
edge_within (es ∷ more) (suc from) k to h = omega (arith, edge_within more from k to h)

there_or : (flags : List Bool) (k : ℕ) → k < length flags → (slice_get flags k ≡ Some true) ⊎ (slice_get flags k ≡ Some false)
there_or [] k h = absurd (omega arith)
there_or (true ∷ flags) zero h = inl refl
there_or (false ∷ flags) zero h = inr refl
there_or (flag ∷ flags) (suc k) h = there_or flags k (omega arith)

only_paths : (setting : Setting) (blocks : List Block) (a : Assigned) (place : ℕ) (flags : List Bool) → IsLeastClosed setting blocks a → is_reached a place ≡ true → AreDecided (IsPathTo a) (length blocks + length a.edges) flags → IsPathTo a place
only_paths setting blocks a place flags h reached d = path_of place (reached_rises a cut (h.least cut cut_closed) place reached)
  where
    cut : Assigned
    cut = record { facts = a.facts; edges = kept_from flags a.edges }

    edge_of : (from k to : ℕ) → IsReachedEdge cut from k to → (slice_get flags from ≡ Some false → ⊥) × IsReachedEdge a from k to
    edge_of from k to e = kept_is (slice_get flags from) (edges_at (slice_get a.edges from)) k to (sym (ap (λ es. slice_get es k) (kept_at flags a.edges from)) ∙ e)

    edge_to : (from k to : ℕ) → IsPathTo a from → IsReachedEdge a from k to → IsReachedEdge cut from k to
    edge_to from k to p e = ap (λ es. slice_get es k) (kept_at flags a.edges from) ∙ is_kept (slice_get flags from) (edges_at (slice_get a.edges from)) k to (λ f. d.fails from f p) e

    below : IsAtMost cut a
    below = record { facts = λ k. below_refl (fact_of a.facts k); edges = λ from k to e. (edge_of from k to e).1 }

    path_of : (at : ℕ) → is_reached cut at ≡ true → IsPathTo a at
    path_of at r = elim (reached_by cut at r) [
      | inl first ↦ first_path a at first
      | inr (from, k, e) ↦
          let was = edge_of from k at e in
          elim (there_or flags from (let less : from < length a.edges = edge_within a.edges from k at was.1 in omega (arith, less, d.long))) [
            | inl held ↦ longer a from k at (d.holds from held) was.1
            | inr never ↦ absurd (was.0 never)
          ]
    ]

    cut_closed : IsClosed setting blocks cut
    cut_closed at block is r =
        let c = h.closed at block is (reached_rises cut a below at r) in
        record {
          phis = λ k phi here. below_trans (phi_fact setting cut at phi) (phi_fact setting a at phi) _ (phi_rises setting cut a below at phi) (c.phis k phi here);
          insts = c.insts;
          edges = λ k to here asked. edge_to at k to (path_of at r) (c.edges k to here asked);
        }

-- No reached block is without a path.
pub paths_lead : (setting : Setting) (blocks : List Block) (a : Assigned) (place : ℕ) → IsLeastClosed setting blocks a → is_reached a place ≡ true → (IsPathTo a place → ⊥) → ⊥
paths_lead setting blocks a place h reached never = decided (IsPathTo a) (length blocks + length a.edges) (λ flags d. never (only_paths setting blocks a place flags h reached d))
