-- Which blocks are reached by which edges.
use Rattle.std.proofs.Common.{◌≡◌, ◌∙◌, ℕ, zero, suc, Bool, true, false, List, [], ◌∷◌, Some, refl, sym, ap, subst, ◌⊎◌, inl, inr}
use Rattle.std.specs.Prelude.{◌==◌, ◌&&◌, ◌||◌, slice_get}
use Rattle.std.proofs.lemmas.Option.{none-some}
use Rattle.std.specs.List.{list_any}
use Rattle.std.proofs.lemmas.Bool.{eqb-true, eq-eqb, false≢true}
use Rattle.fold_facts.specs.declared.edge.Edge.{Edge}
use Rattle.fold_facts.specs.Assigned.{Assigned, edges_at, edges_from, IsReachedEdge, comes_to, enters, is_reached, IsAtMost}

or_cases : (a b : Bool) → (a || b) ≡ true → (a ≡ true) ⊎ (b ≡ true)
or_cases true b h = inl refl
or_cases false b h = inr h

or_left : (a b : Bool) → a ≡ true → (a || b) ≡ true
or_left true b h = refl
or_left false b h = absurd (false≢true h)

or_right : (a b : Bool) → b ≡ true → (a || b) ≡ true
or_right true b h = refl
or_right false b h = h

and_left : (a b : Bool) → (a && b) ≡ true → a ≡ true
and_left true b h = refl
and_left false b h = h

and_right : (a b : Bool) → (a && b) ≡ true → b ≡ true
and_right true b h = h
and_right false b h = absurd (false≢true h)

abbrev reached_to : ℕ → Edge
reached_to to = record { to = to; reached = true }

edge_is : (e : Edge) (place : ℕ) → comes_to place e ≡ true → e ≡ reached_to place
edge_is e place h =
    let flag : e.reached ≡ true = and_left e.reached (e.to == place) h in
    let to : e.to ≡ place = eqb-true e.to place (and_right e.reached (e.to == place) h) in
    ap (λ k. record { to = k; reached = e.reached }) to ∙ ap (λ b. record { to = place; reached = b }) flag

is_edge : (place : ℕ) → comes_to place (reached_to place) ≡ true
is_edge place = eq-eqb place place refl

-- an edge of the list that is reached and goes to the block
abbrev Comes : List Edge → ℕ → Type 0
Comes edges place = (k : ℕ) × (slice_get edges k ≡ Some (reached_to place))

comes : (edges : List Edge) (place : ℕ) → list_any (comes_to place) edges ≡ true → Comes edges place
comes [] place h = absurd (false≢true h)
comes (e ∷ es) place h = elim (or_cases (comes_to place e) (list_any (comes_to place) es) h) [
  | inl here ↦ (0, ap Some (edge_is e place here))
  | inr there ↦ let found = comes es place there in (suc found.0, found.1)
]

some_is : {A : Type 0} {x y : A} → Some x ≡ Some y → x ≡ y
some_is h = cc

come : (edges : List Edge) (place k : ℕ) → slice_get edges k ≡ Some (reached_to place) → list_any (comes_to place) edges ≡ true
come [] place k h = absurd (none-some (reached_to place) h)
come (e ∷ es) place zero h = or_left (comes_to place e) (list_any (comes_to place) es) (subst (λ d. comes_to place d ≡ true) (sym (some_is h)) (is_edge place))
come (e ∷ es) place (suc k) h = or_right (comes_to place e) (list_any (comes_to place) es) (come es place k h)

-- ---- one block to another

pub entered : (a : Assigned) (from place : ℕ) → enters a from place ≡ true → (k : ℕ) × IsReachedEdge a from k place
entered a from place h = comes (edges_from a from) place h

pub enter : (a : Assigned) (from k place : ℕ) → IsReachedEdge a from k place → enters a from place ≡ true
enter a from k place h = come (edges_from a from) place k h

pub enters_rises : (a b : Assigned) → IsAtMost a b → (from place : ℕ) → enters a from place ≡ true → enters b from place ≡ true
enters_rises a b less from place h =
    let e = entered a from place h in
    enter b from e.0 place (less.edges from e.0 place e.1)

-- ---- blocks

any_block : (blocks : List (List Edge)) (place : ℕ) → list_any (list_any (comes_to place)) blocks ≡ true → (from : ℕ) × Comes (edges_at (slice_get blocks from)) place
any_block [] place h = absurd (false≢true h)
any_block (es ∷ more) place h = elim (or_cases (list_any (comes_to place) es) (list_any (list_any (comes_to place)) more) h) [
  | inl here ↦ (0, comes es place here)
  | inr there ↦ let found = any_block more place there in (suc found.0, found.1)
]

some_block : (blocks : List (List Edge)) (from place k : ℕ) → slice_get (edges_at (slice_get blocks from)) k ≡ Some (reached_to place) → list_any (list_any (comes_to place)) blocks ≡ true
some_block [] from place k h = absurd (none-some (reached_to place) h)
some_block (es ∷ more) zero place k h = or_left (list_any (comes_to place) es) (list_any (list_any (comes_to place)) more) (come es place k h)
some_block (es ∷ more) (suc from) place k h = or_right (list_any (comes_to place) es) (list_any (list_any (comes_to place)) more) (some_block more from place k h)

-- It is the first, or an edge that comes to it is reached.
pub reached_by : (a : Assigned) (place : ℕ) → is_reached a place ≡ true → (place ≡ 0) ⊎ ((from : ℕ) × (k : ℕ) × IsReachedEdge a from k place)
reached_by a place h = elim (or_cases (place == 0) (list_any (list_any (comes_to place)) a.edges) h) [
  | inl first ↦ inl (eqb-true place 0 first)
  | inr any ↦ let found = any_block a.edges place any in inr (found.0, found.1.0, found.1.1)
]

pub first_reached : (a : Assigned) → is_reached a 0 ≡ true
first_reached a = refl

pub reached_when : (a : Assigned) (from k place : ℕ) → IsReachedEdge a from k place → is_reached a place ≡ true
reached_when a from k place h = or_right (place == 0) (list_any (list_any (comes_to place)) a.edges) (some_block a.edges from place k h)

pub reached_rises : (a b : Assigned) → IsAtMost a b → (place : ℕ) → is_reached a place ≡ true → is_reached b place ≡ true
reached_rises a b less place h = elim (reached_by a place h) [
  | inl first ↦ subst (λ k. is_reached b k ≡ true) (sym first) refl
  | inr edge ↦ reached_when b edge.0 edge.1 place (less.edges edge.0 edge.1 place edge.2)
]
