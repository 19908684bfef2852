-- Which blocks are reached, once an edge is.
use Rattle.std.proofs.Common.{◌≡◌, ◌≢◌, ◌∙◌, inl, inr, ℕ, ◌<◌, Bool, true, false, List, Option, None, Some, length, set, get_or, refl, sym, ap, subst, arith}
use Rattle.std.specs.Prelude.{slice_get}
use Rattle.std.proofs.lemmas.List.{length-set}
use Rattle.std.proofs.lemmas.Option.{none-some, slice_get_read}
use Rattle.fold_facts.specs.declared.edge.Edge.{Edge}
use Rattle.fold_facts.specs.Assigned.{Assigned, edges_at, edges_from, is_reached}
use Rattle.fold_facts.specs.Raising.{with_edge}
use Rattle.fold_facts.proofs.Lists.{some_is, is_or_not, set_same, set_other, within}
use Rattle.fold_facts.proofs.Orders.{below_refl}
use Rattle.fold_facts.proofs.Raised.{edge_reached, edge_cases, edge_above}
use Rattle.fold_facts.proofs.Reaching.{reached_by, reached_when, reached_rises}

abbrev pub AreFlags : Assigned → List Bool → Type 0
AreFlags a flags = (length flags ≡ length a.edges) × ((place : ℕ) (flag : Bool) → slice_get flags place ≡ Some flag → flag ≡ is_reached a place)

both : (x y : Bool) → (x ≡ true → y ≡ true) → (y ≡ true → x ≡ true) → x ≡ y
both true y h g = sym (h refl)
both false true h g = g refl
both false false h g = refl

others : (a : Assigned) (from k : ℕ) (e : Edge) (place : ℕ) → slice_get (edges_from a from) k ≡ Some e → place ≢ e.to → is_reached a place ≡ is_reached (with_edge a from k e.to) place
others a from k e place h n = both (is_reached a place) (is_reached (with_edge a from k e.to) place)
    (reached_rises a (with_edge a from k e.to) (record { facts = λ j. below_refl _; edges = λ f j t g. edge_above a from k e h f j t g }) place)
    (λ r. elim (reached_by (with_edge a from k e.to) place r) [
      | inl first ↦ subst (λ q. is_reached a q ≡ true) (sym first) refl
      | inr (f, j, g) ↦ elim (edge_cases a from k e f j place h g) [
        | inl (sf, sj, st) ↦ absurd (n st)
        | inr was ↦ reached_when a f j place was
      ]
    ])

-- the flag of the block that the edge goes to is set
pub flags_set : (a : Assigned) (flags : List Bool) (from k : ℕ) (e : Edge) → slice_get (edges_from a from) k ≡ Some e → AreFlags a flags → AreFlags (with_edge a from k e.to) (set flags e.to true)
flags_set a flags from k e h (long, are) = (length-set flags e.to true ∙ long ∙ sym (length-set a.edges from (set (edges_from a from) k (record { to = e.to; reached = true }))), at)
  where
    at : (place : ℕ) (flag : Bool) → slice_get (set flags e.to true) place ≡ Some flag → flag ≡ is_reached (with_edge a from k e.to) place
    at place flag is = elim (is_or_not place e.to) [
      | inl same ↦
          let less : e.to < length flags = subst (λ q. q < length flags) same (omega (arith, within (set flags e.to true) place flag is, length-set flags e.to true)) in
          let yes : true ≡ flag = some_is (sym (set_same flags e.to true less) ∙ subst (λ q. slice_get (set flags e.to true) q ≡ Some flag) same is) in
          sym yes ∙ sym (subst (λ q. is_reached (with_edge a from k e.to) q ≡ true) (sym same) (reached_when (with_edge a from k e.to) from k e.to (edge_reached a from k e h)))
      | inr n ↦ are place flag (sym (set_other flags e.to place true n) ∙ is) ∙ others a from k e place h n
    ]

-- ---- an edge of a row written

abbrev reached_to : ℕ → Edge
reached_to to = record { to = to; reached = true }

pub opened_edges : (a : Assigned) (from k : ℕ) (e : Edge) (row new : List Edge) → slice_get (edges_from a from) k ≡ Some e → row ≡ get_or a.edges from row → new ≡ set row k (reached_to e.to) → set a.edges from new ≡ set a.edges from (set (edges_from a from) k (reached_to e.to))
opened_edges a from k e row new h is made = ap (set a.edges from) (made ∙ ap (λ l. set l k (reached_to e.to)) (sym (row_is (slice_get a.edges from) refl h)))
  where
    row_is : (o : Option (List Edge)) → slice_get a.edges from ≡ o → slice_get (edges_at o) k ≡ Some e → edges_from a from ≡ row
    row_is None at g = absurd (none-some e g)
    row_is (Some es) at g = ap edges_at (slice_get_read a.edges (length a.edges) from row refl (within a.edges from es at) is)

pub opened_flags : (a : Assigned) (flags set_flags : List Bool) (from k : ℕ) (e : Edge) (row new : List Edge) → slice_get (edges_from a from) k ≡ Some e → row ≡ get_or a.edges from row → new ≡ set row k (reached_to e.to) → AreFlags a flags → set_flags ≡ set flags e.to true
    → AreFlags (record { facts = a.facts; edges = set a.edges from new }) set_flags
opened_flags a flags set_flags from k e row new h is made are flag =
    subst (λ l. AreFlags (record { facts = a.facts; edges = set a.edges from new }) l) (sym flag)
    (subst (λ es. AreFlags (record { facts = a.facts; edges = es }) (set flags e.to true)) (sym (opened_edges a from k e row new h is made)) (flags_set a flags from k e h are))
