-- There is one least closed assignment of a function, and one list of rows in order.
use Rattle.std.proofs.Common.{◌≡◌, ◌∙◌, ℕ, suc, Bool, true, false, List, [], ◌∷◌, Some, length, map, refl, sym, ap, arith}
use Rattle.std.specs.Prelude.{slice_get}
use Rattle.ir_types.specs.declared.scalar.Known.{Known}
use Rattle.ir_syntax.specs.declared.item.Func.{Func}
use Rattle.fold_facts.specs.declared.fact.Fact.{Fact}
use Rattle.fold_facts.specs.declared.edge.Edge.{Edge}
use Rattle.fold_facts.specs.Assigned.{Assigned, fact_of, edges_at}
use Rattle.fold_facts.specs.Places.{blocks_of}
use Rattle.fold_facts.proofs.Lists.{some_is}
use Rattle.fold_facts.proofs.Orders.{below_antisym}
use Rattle.fold_facts.proofs.Visits.{edge_is, facts_long}
use Rattle.specialise.proofs.Solving.{IsLeastOf}

facts_same : (xs ys : List Fact) → length xs ≡ length ys → ((k : ℕ) → fact_of xs k ≡ fact_of ys k) → xs ≡ ys
facts_same [] [] long same = refl
facts_same [] (y ∷ ys) long same = absurd (omega (arith, long))
facts_same (x ∷ xs) [] long same = absurd (omega (arith, long))
facts_same (x ∷ xs) (y ∷ ys) long same = ap (λ z. z ∷ xs) (same 0) ∙ ap (λ l. y ∷ l) (facts_same xs ys (omega (arith, long)) (λ k. same (suc k)))

-- an edge of the one is reached only where it is of the other
abbrev AreReachedIn : List Edge → List Edge → Type 0
AreReachedIn es ds = (k to : ℕ) → slice_get es k ≡ Some (record { to = to; reached = true }) → slice_get ds k ≡ Some (record { to = to; reached = true })

edge_same : (e d : Edge) → e.to ≡ d.to → e.reached ≡ d.reached → e ≡ d
edge_same e d h g = ap (λ k. record { to = k; reached = e.reached }) h ∙ ap (λ b. record { to = d.to; reached = b }) g

row_same : (es ds : List Edge) → map (λ edge. edge.to) es ≡ map (λ edge. edge.to) ds → AreReachedIn es ds → AreReachedIn ds es → es ≡ ds
row_same [] [] to there back = refl
row_same [] (d ∷ ds) to there back = cc
row_same (e ∷ es) (d ∷ ds) to there back = ap (λ x. x ∷ es) (edge_same e d goes (by e.reached refl d.reached refl)) ∙ ap (λ l. d ∷ l) (row_same es ds rest (λ k t. there (suc k) t) (λ k t. back (suc k) t))
  where
    goes : e.to ≡ d.to
    goes = cc

    rest : map (λ (edge : Edge). edge.to) es ≡ map (λ (edge : Edge). edge.to) ds
    rest = cc

    by : (b : Bool) → e.reached ≡ b → (c : Bool) → d.reached ≡ c → e.reached ≡ d.reached
    by true h true g = h ∙ sym g
    by false h false g = h ∙ sym g
    by true h false g = h ∙ sym (ap (λ x. x.reached) (some_is (there 0 e.to (ap Some (edge_is e e.to refl h)))))
    by false h true g = ap (λ x. x.reached) (some_is (back 0 d.to (ap Some (edge_is d d.to refl g)))) ∙ sym g
row_same (e ∷ es) [] to there back = cc

rows_same : (xs ys : List (List Edge)) → map (λ edges. map (λ edge. edge.to) edges) xs ≡ map (λ edges. map (λ edge. edge.to) edges) ys
    → ((from : ℕ) → AreReachedIn (edges_at (slice_get xs from)) (edges_at (slice_get ys from))) → ((from : ℕ) → AreReachedIn (edges_at (slice_get ys from)) (edges_at (slice_get xs from))) → xs ≡ ys
rows_same [] [] to there back = refl
rows_same [] (y ∷ ys) to there back = cc
rows_same (x ∷ xs) [] to there back = cc
rows_same (x ∷ xs) (y ∷ ys) to there back =
    let first : map (λ (edge : Edge). edge.to) x ≡ map (λ (edge : Edge). edge.to) y = cc in
    let rest : map (λ (edges : List Edge). map (λ (edge : Edge). edge.to) edges) xs ≡ map (λ (edges : List Edge). map (λ (edge : Edge). edge.to) edges) ys = cc in
    ap (λ l. l ∷ xs) (row_same x y first (there 0) (back 0)) ∙ ap (λ l. y ∷ l) (rows_same xs ys rest (λ from. there (suc from)) (λ from. back (suc from)))

pub least_is_one : (func : Func) (known : List Known) (a b : Assigned) → IsLeastOf func known a → IsLeastOf func known b → a ≡ b
least_is_one func known a b one other =
    let facts = facts_same a.facts b.facts (facts_long (blocks_of func) a one.of ∙ sym (facts_long (blocks_of func) b other.of))
    (λ k. below_antisym (fact_of a.facts k) (fact_of b.facts k) ((one.least.least b other.least.closed).facts k) ((other.least.least a one.least.closed).facts k)) in
    let edges = rows_same a.edges b.edges (one.of.edges ∙ sym other.of.edges) (λ from k to. (one.least.least b other.least.closed).edges from k to) (λ from k to. (other.least.least a one.least.closed).edges from k to) in
    ap (λ fs. record { facts = fs; edges = a.edges }) facts ∙ ap (λ es. record { facts = b.facts; edges = es }) edges
