-- The least closed assignment: its reached edges begin where ways lead to, and the terminators ask for them. The assignment that
-- reaches those of its edges alone that reached blocks ask for is closed.
use Rattle.std.proofs.Common.{◌≡◌, ◌∙◌, ℕ, zero, suc, ◌+◌, Bool, true, false, List, [], ◌∷◌, Some, refl, ap, sym, arith}
use Rattle.std.specs.Prelude.{◌&&◌, slice_get}
use Rattle.std.proofs.lemmas.Bool.{false≢true}
use Rattle.std.proofs.lemmas.Option.{none-some}
use Rattle.ir_types.specs.declared.scalar.Known.{Known}
use Rattle.ir_syntax.specs.declared.body.Block.{Block}
use Rattle.ir_syntax.specs.declared.item.Func.{Func}
use Rattle.fold_facts.specs.declared.edge.Edge.{Edge}
use Rattle.fold_facts.specs.declared.said.Edges.{Edges}
use Rattle.fold_facts.specs.Assigned.{Assigned, fact_of, edges_at, IsReachedEdge, is_reached, IsAtMost}
use Rattle.fold_facts.specs.Operands.{Setting}
use Rattle.fold_facts.specs.Closed.{IsClosed, IsLeastClosed}
use Rattle.fold_facts.specs.Phis.{phi_fact}
use Rattle.fold_facts.specs.Places.{blocks_of}
use Rattle.fold_facts.specs.Terminators.{asks, term_edges}
use Rattle.fold_facts.proofs.Lists.{some_is}
use Rattle.fold_facts.proofs.Orders.{below_refl, below_trans}
use Rattle.fold_facts.proofs.Rising.{phi_rises}
use Rattle.fold_facts.proofs.Reaching.{reached_rises}
use Rattle.fold_facts.proofs.Paths.{IsReachedPath, paths_lead}
use Rattle.fold_facts.proofs.Visits.{edge_is}
use Rattle.residual_laws.specs.Left.{IsWay, IsLedTo, AreAsked}

abbrev reached_to : ℕ → Edge
reached_to to = record { to = to; reached = true }

-- ---- the edges that reached blocks ask for

abbrev cut_row : Bool → Edges → ℕ → List Edge → List Edge
cut_row flag eds n [] = []
cut_row flag eds n (e ∷ es) = record { to = e.to; reached = e.reached && (flag && asks eds n) } ∷ cut_row flag eds (suc n) es

abbrev cut_from : Setting → Assigned → ℕ → List Block → List (List Edge) → List (List Edge)
cut_from setting a place [] rows = []
cut_from setting a place (b ∷ bs) [] = []
cut_from setting a place (b ∷ bs) (es ∷ rows) = cut_row (is_reached a place) (term_edges setting a.facts b.term) 0 es ∷ cut_from setting a (suc place) bs rows

all_true : (x y z : Bool) → (x && (y && z)) ≡ true → (x ≡ true) × (y ≡ true) × (z ≡ true)
all_true true true true h = (refl, refl, refl)
all_true true true false h = absurd (false≢true h)
all_true true false z h = absurd (false≢true h)
all_true false y z h = absurd (false≢true h)

row_is : (flag : Bool) (eds : Edges) (n k to : ℕ) (es : List Edge) → slice_get (cut_row flag eds n es) k ≡ Some (reached_to to) → (flag ≡ true) × (asks eds (n + k) ≡ true) × (slice_get es k ≡ Some (reached_to to))
row_is flag eds n k to [] h = absurd (none-some (reached_to to) h)
row_is flag eds n zero to (e ∷ es) h =
    let none_on : n + 0 ≡ n = omega arith in
    let all = all_true e.reached flag (asks eds n) (ap (λ (x : Edge). x.reached) (some_is h)) in
    (all.1, ap (asks eds) none_on ∙ all.2, ap Some (edge_is e to (ap (λ (x : Edge). x.to) (some_is h)) all.0))
row_is flag eds n (suc k) to (e ∷ es) h =
    let one_on : n + suc k ≡ suc n + k = omega arith in
    let more = row_is flag eds (suc n) k to es h in
    (more.0, ap (asks eds) one_on ∙ more.1, more.2)

row_has : (flag : Bool) (eds : Edges) (n k to : ℕ) (es : List Edge) → flag ≡ true → asks eds (n + k) ≡ true → slice_get es k ≡ Some (reached_to to) → slice_get (cut_row flag eds n es) k ≡ Some (reached_to to)
row_has flag eds n k to [] f asked h = absurd (none-some (reached_to to) h)
row_has flag eds n zero to (e ∷ es) f asked h =
    let none_on : n ≡ n + 0 = omega arith in
    let is : e ≡ reached_to to = some_is h in
    ap (λ (x : Edge). Some (record { to = x.to; reached = x.reached && (flag && asks eds n) })) is ∙ ap (λ b. Some (record { to = to; reached = b && asks eds n })) f ∙ ap (λ b. Some (record { to = to; reached = b })) (ap (asks eds) none_on ∙ asked)
row_has flag eds n (suc k) to (e ∷ es) f asked h =
    let one_on : suc n + k ≡ n + suc k = omega arith in
    row_has flag eds (suc n) k to es f (ap (asks eds) one_on ∙ asked) h

-- An edge of the cut.
record IsCut (setting : Setting) (a : Assigned) (place : ℕ) (blocks : List Block) (rows : List (List Edge)) (from k to : ℕ) : Type 0 where
  block : Block
  here : slice_get blocks from ≡ Some block
  start : is_reached a (place + from) ≡ true
  asked : asks (term_edges setting a.facts block.term) (0 + k) ≡ true
  was : slice_get (edges_at (slice_get rows from)) k ≡ Some (reached_to to)

cut_is : (setting : Setting) (a : Assigned) (place : ℕ) (blocks : List Block) (rows : List (List Edge)) (from k to : ℕ) → slice_get (edges_at (slice_get (cut_from setting a place blocks rows) from)) k ≡ Some (reached_to to)
    → IsCut setting a place blocks rows from k to
cut_is setting a place [] rows from k to h = absurd (none-some (reached_to to) h)
cut_is setting a place (b ∷ bs) [] from k to h = absurd (none-some (reached_to to) h)
cut_is setting a place (b ∷ bs) (es ∷ rows) zero k to h =
    let none_on : place + 0 ≡ place = omega arith in
    let one = row_is (is_reached a place) (term_edges setting a.facts b.term) 0 k to es h in
    record { block = b; here = refl; start = ap (is_reached a) none_on ∙ one.0; asked = one.1; was = one.2 }
cut_is setting a place (b ∷ bs) (es ∷ rows) (suc from) k to h =
    let one_on : place + suc from ≡ suc place + from = omega arith in
    let more = cut_is setting a (suc place) bs rows from k to h in
    record { block = more.block; here = more.here; start = ap (is_reached a) one_on ∙ more.start; asked = more.asked; was = more.was }

cut_has : (setting : Setting) (a : Assigned) (place : ℕ) (blocks : List Block) (rows : List (List Edge)) (from k to : ℕ) (block : Block) → slice_get blocks from ≡ Some block → is_reached a (place + from) ≡ true
    → asks (term_edges setting a.facts block.term) (0 + k) ≡ true → slice_get (edges_at (slice_get rows from)) k ≡ Some (reached_to to) → slice_get (edges_at (slice_get (cut_from setting a place blocks rows) from)) k ≡ Some (reached_to to)
cut_has setting a place [] rows from k to block here start asked was = absurd (none-some block here)
cut_has setting a place (b ∷ bs) [] from k to block here start asked was = absurd (none-some (reached_to to) was)
cut_has setting a place (b ∷ bs) (es ∷ rows) zero k to block here start asked was =
    let none_on : place ≡ place + 0 = omega arith in
    row_has (is_reached a place) (term_edges setting a.facts b.term) 0 k to es (ap (is_reached a) none_on ∙ start) (ap (λ (x : Block). asks (term_edges setting a.facts x.term) (0 + k)) (some_is here) ∙ asked) was
cut_has setting a place (b ∷ bs) (es ∷ rows) (suc from) k to block here start asked was =
    let one_on : suc place + from ≡ place + suc from = omega arith in
    cut_has setting a (suc place) bs rows from k to block here (ap (is_reached a) one_on ∙ start) asked was

-- ---- the least

-- A reached edge is asked for by its block, which is reached.
least_cut : (setting : Setting) (blocks : List Block) (a : Assigned) (from k to : ℕ) → IsLeastClosed setting blocks a → IsReachedEdge a from k to → IsCut setting a 0 blocks a.edges from k to
least_cut setting blocks a from k to h e = cut_is setting a 0 blocks a.edges from k to ((h.least cut cut_closed).edges from k to e)
  where
    cut : Assigned
    cut = record { facts = a.facts; edges = cut_from setting a 0 blocks a.edges }

    below : IsAtMost cut a
    below = record { facts = λ n. below_refl (fact_of a.facts n); edges = λ f n t edge. (cut_is setting a 0 blocks a.edges f n t edge).was }

    cut_closed : IsClosed setting blocks cut
    cut_closed at block is r =
        let reached = reached_rises cut a below at r in
        let c = h.closed at block is reached in
        let zero_on : 0 + at ≡ at = omega arith in
        record {
          phis = λ n phi here. below_trans (phi_fact setting cut at phi) (phi_fact setting a at phi) _ (phi_rises setting cut a below at phi) (c.phis n phi here);
          insts = c.insts;
          edges = λ n t here asked. cut_has setting a 0 blocks a.edges at n t block is (ap (is_reached a) zero_on ∙ reached) (ap (asks (term_edges setting a.facts block.term)) (zero_more n) ∙ asked) (c.edges n t here asked);
        }
      where
        zero_more : (m : ℕ) → 0 + m ≡ m
        zero_more m = omega arith

path_way : (a : Assigned) (path : List ℕ) → IsReachedPath a path → IsWay a path
path_way a [] p = p
path_way a (place ∷ []) p = p
path_way a (place ∷ from ∷ more) p = (p.0, path_way a (from ∷ more) p.1)

pub least_led : (known : List Known) (func : Func) (a : Assigned) → IsLeastClosed (record { known = known }) (blocks_of func) a → (from k to : ℕ) → IsReachedEdge a from k to → IsLedTo a from
least_led known func a h from k to e never =
    let c = least_cut (record { known = known }) (blocks_of func) a from k to h e in
    let zero_on : from ≡ 0 + from = omega arith in
    paths_lead (record { known = known }) (blocks_of func) a from h (ap (is_reached a) zero_on ∙ c.start) (λ p. never p.visited (path_way a (from ∷ p.visited) p.path))

pub least_asked : (known : List Known) (func : Func) (a : Assigned) → IsLeastClosed (record { known = known }) (blocks_of func) a → AreAsked known func a
least_asked known func a h from k to block here e =
    let c = least_cut (record { known = known }) (blocks_of func) a from k to h e in
    let zero_on : k ≡ 0 + k = omega arith in
    ap (λ (x : Block). asks (term_edges (record { known = known }) a.facts x.term) k) (some_is (sym here ∙ c.here)) ∙ ap (asks (term_edges (record { known = known }) a.facts c.block.term)) zero_on ∙ c.asked
