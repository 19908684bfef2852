-- A blank assignment is raised until it is closed.
use Rattle.std.proofs.Common.{◌≡◌, ◌∙◌, ℕ, zero, suc, ◌+◌, ◌<◌, Bool, true, false, cond, List, [], ◌∷◌, Option, None, Some, map, refl, sym, ap, subst, arith}
use Rattle.std.specs.Prelude.{slice_get, IsFalse}
use Rattle.std.specs.List.{AllZip}
use Rattle.std.proofs.lemmas.Bool.{false≢true}
use Rattle.std.proofs.lemmas.Option.{none-some}
use Rattle.ir_types.specs.declared.scalar.Scalar.{Scalar}
use Rattle.ir_syntax.specs.declared.body.Block.{Block}
use Rattle.ir_syntax.specs.Edges.{successors}
use Rattle.fold_facts.specs.declared.fact.Fact.{Fact}
use Rattle.fold_facts.specs.declared.fact.Fact.TheVariants.{Unreached}
use Rattle.fold_facts.specs.declared.edge.Edge.{Edge}
use Rattle.fold_facts.specs.Facts.{IsBelow}
use Rattle.fold_facts.specs.Assigned.{Assigned, fact_of, edges_at, IsReachedEdge, IsAtMost}
use Rattle.fold_facts.specs.Operands.{Setting}
use Rattle.fold_facts.specs.Closed.{IsClosed, IsLeastClosed}
use Rattle.fold_facts.specs.OfFunction.{IsFactOf, IsAssignmentIn, results_in}
use Rattle.fold_facts.specs.Raising.{Raises, room, blank, blank_edges}
use Rattle.fold_facts.proofs.Lists.{of_map}

-- ---- the start

all_suit : (fact : Fact) (tys : List Scalar) → ((ty : Scalar) → IsFactOf ty fact) → AllZip IsFactOf tys (map (λ ty. fact) tys)
all_suit fact [] h = tt
all_suit fact (ty ∷ tys) h = (h ty, all_suit fact tys h)

targets : (tos : List ℕ) → map (λ (edge : Edge). edge.to) (map (λ to. record { to = to; reached = false }) tos) ≡ tos
targets [] = refl
targets (to ∷ tos) = ap (λ l. to ∷ l) (targets tos)

abbrev targets_of : List Edge → List ℕ
targets_of edges = map (λ edge. edge.to) edges

rows : (blocks : List Block) → map targets_of (map blank_edges blocks) ≡ map (λ block. successors block.term) blocks
rows [] = refl
rows (b ∷ bs) = ap (λ l. l ∷ map targets_of (map blank_edges bs)) (targets (successors b.term)) ∙ ap (λ l. successors b.term ∷ l) (rows bs)

pub blank_fits : (blocks : List Block) (fact : Fact) → ((ty : Scalar) → IsFactOf ty fact) → IsAssignmentIn blocks (blank blocks fact)
blank_fits blocks fact h = record { facts = all_suit fact (results_in blocks) h; edges = rows blocks }

blank_fact : (tys : List Scalar) (k : ℕ) → fact_of (map (λ ty. Unreached) tys) k ≡ Unreached
blank_fact [] k = refl
blank_fact (ty ∷ tys) zero = refl
blank_fact (ty ∷ tys) (suc k) = blank_fact tys k

-- no edge of it is reached
pub not_reached : (blocks : List Block) (fact : Fact) (from k to : ℕ) → IsReachedEdge (blank blocks fact) from k to → ⊥
not_reached blocks fact from k to h = by (slice_get (map blank_edges blocks) from) refl h
  where
    by : (o : Option (List Edge)) → slice_get (map blank_edges blocks) from ≡ o → slice_get (edges_at o) k ≡ Some (record { to = to; reached = true }) → ⊥
    by None is g = none-some _ g
    by (Some es) is g =
        let block = of_map blank_edges blocks from es is in
        let edge = of_map (λ t. record { to = t; reached = false }) (successors block.0.term) k (record { to = to; reached = true }) (ap (λ l. slice_get l k) block.2 ∙ g) in
        false≢true (ap (λ e. e.reached) edge.2)

pub blank_least : (blocks : List Block) (other : Assigned) → IsAtMost (blank blocks Unreached) other
blank_least blocks other = record {
  facts = λ k. subst (λ f. IsBelow f (fact_of other.facts k)) (sym (blank_fact (results_in blocks) k)) tt;
  edges = λ from k to h. absurd (not_reached blocks Unreached from k to h);
}

-- ---- rounds

pub record Settles (setting : Setting) (blocks : List Block) (a : Assigned) (changed : Bool) : Type 0 where
  pub fits : IsAssignmentIn blocks a
  pub below : (other : Assigned) → IsClosed setting blocks other → IsAtMost a other
  pub closed : IsFalse changed → IsClosed setting blocks a

pub settle_start : (setting : Setting) (blocks : List Block) (a : Assigned) → a ≡ blank blocks Unreached → Settles setting blocks a true
settle_start setting blocks a is = subst (λ b. Settles setting blocks b true) (sym is) (record {
  fits = blank_fits blocks Unreached (λ ty. tt);
  below = λ other closed. blank_least blocks other;
  closed = λ f. absurd (false≢true (sym f));
})

pub settle_step : (setting : Setting) (blocks : List Block) (a b : Assigned) (before changed : Bool) → Settles setting blocks a before → Raises setting blocks a b changed → (IsFalse changed → IsClosed setting blocks a) → Settles setting blocks b changed
settle_step setting blocks a b before changed h step closed = record {
  fits = step.fits;
  below = λ other is. step.within other is (h.below other is);
  closed = λ f. subst (IsClosed setting blocks) (sym (step.same f)) (closed f);
}

pub settle_end : (setting : Setting) (blocks : List Block) (a : Assigned) (changed : Bool) → changed ≡ false → Settles setting blocks a changed → IsLeastClosed setting blocks a
settle_end setting blocks a changed f h = record { closed = h.closed f; least = h.below }

-- the room, and one more before the last round
abbrev pub rounds_left : Assigned → Bool → ℕ
rounds_left a changed = room a + cond changed 1 0

pub settle_falls : (setting : Setting) (blocks : List Block) (a b : Assigned) (before changed : Bool) → before ≡ true → Raises setting blocks a b changed → rounds_left b changed < rounds_left a before
settle_falls setting blocks a b before changed was step =
    let one : cond {A = ℕ} before 1 0 ≡ 1 = ap (λ c. cond {A = ℕ} c 1 0) was in
    omega (arith, one, by changed refl step)
  where
    by : (c : Bool) → changed ≡ c → Raises setting blocks a b c → room b + cond changed 1 0 < room a + 1
    by true e s =
        let two : cond {A = ℕ} changed 1 0 ≡ 1 = ap (λ c. cond {A = ℕ} c 1 0) e in
        let less : room b < room a = s.falls refl in
        omega arith
    by false e s =
        let two : cond {A = ℕ} changed 1 0 ≡ 0 = ap (λ c. cond {A = ℕ} c 1 0) e in
        let same : room b ≡ room a = ap room (s.same refl) in
        omega arith
