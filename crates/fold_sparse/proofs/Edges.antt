-- An edge is reached.
use Rattle.std.proofs.Common.{◌≡◌, ◌∙◌, ◌⊎◌, inl, inr, ℕ, ◌+◌, ◌<◌, Bool, true, false, cond, List, [], ◌∷◌, ◌++◌, Some, length, refl, sym, ap, subst, arith}
use Rattle.std.specs.Prelude.{slice_get, Contains, IsTrue, IsFalse, IfSome, not}
use Rattle.std.proofs.lemmas.Bool.{false≢true}
use Rattle.std.proofs.lemmas.List.Elements.{Contains-append_left, Contains-append_right}
use Rattle.ir_syntax.specs.declared.body.Block.{Block}
use Rattle.fold_facts.specs.declared.edge.Edge.{Edge}
use Rattle.fold_facts.specs.declared.fact.Fact.{Fact}
use Rattle.fold_facts.specs.declared.said.Edges.{Edges}
use Rattle.fold_facts.specs.Facts.{IsBelow}
use Rattle.fold_facts.specs.Assigned.{Assigned, fact_of, edges_from, IsReachedEdge, is_reached, IsAtMost}
use Rattle.fold_facts.specs.Operands.{Setting, operand_fact}
use Rattle.fold_facts.specs.Instructions.{inst_fact}
use Rattle.fold_facts.specs.Terminators.{asks, term_edges}
use Rattle.fold_facts.specs.Closed.{IsClosed}
use Rattle.fold_facts.specs.OfFunction.{IsAssignmentIn}
use Rattle.fold_facts.specs.Raising.{with_edge, Raises}
use Rattle.fold_facts.proofs.Lists.{some_is, is_or_not, there}
use Rattle.fold_facts.proofs.Orders.{below_refl}
use Rattle.fold_facts.proofs.Raised.{at_most_refl, at_most_trans, edge_reached, edge_cases, edge_above, edges_fit, raises_edge}
use Rattle.fold_facts.proofs.Reaching.{entered, enter, enters_rises, reached_by, reached_when, reached_rises}
use Rattle.fold_facts.proofs.Visits.{edge_is}
use Rattle.fold_sparse.specs.declared.look.Look.{Look}
use Rattle.fold_sparse.specs.declared.look.Look.TheVariants.{Entry, Value, Term}
use Rattle.fold_sparse.specs.declared.standing.Standing.{Standing}
use Rattle.fold_sparse.specs.Groups.{members}
use Rattle.fold_sparse.specs.Looks.{looks_of, is_active, IsMet, source, sources_from, home, homes_from}
use Rattle.fold_sparse.specs.Solving.{IsSolving, left, Opens, Reaches, ReachesAll}
use Rattle.fold_sparse.proofs.Keys.{first_in, key_in_all}
use Rattle.fold_sparse.proofs.Opening.{in_none, in_cons, fewer}

pub active_rises : (a b : Assigned) → IsAtMost a b → (look : Look) → is_active a look ≡ true → is_active b look ≡ true
active_rises a b less (Entry at from phi entry number) h = enters_rises a b less from at h
active_rises a b less (Value at k number) h = reached_rises a b less at h
active_rises a b less (Term at) h = reached_rises a b less at h

-- A look that an edge makes active is at an entry for its block's edges, or in the block that it goes to.
reached_cases : (a : Assigned) (at k : ℕ) (e : Edge) (place : ℕ) → slice_get (edges_from a at) k ≡ Some e → is_reached (with_edge a at k e.to) place ≡ true → (is_reached a place ≡ true) ⊎ (place ≡ e.to)
reached_cases a at k e place h r = elim (reached_by (with_edge a at k e.to) place r) [
  | inl first ↦ inl (subst (λ p. is_reached a p ≡ true) (sym first) refl)
  | inr (f, j, g) ↦ elim (edge_cases a at k e f j place h g) [
    | inl (sf, sj, st) ↦ inr st
    | inr was ↦ inl (reached_when a f j place was)
  ]
]

active_cases : (a : Assigned) (at k : ℕ) (e : Edge) → slice_get (edges_from a at) k ≡ Some e → (look : Look) → is_active (with_edge a at k e.to) look ≡ true
    → (is_active a look ≡ true) ⊎ (Contains (source look) at ⊎ Contains (home look) e.to)
active_cases a at k e h (Entry place from phi entry number) r =
    let edge = entered (with_edge a at k e.to) from place r in
    elim (edge_cases a at k e from edge.0 place h edge.1) [
      | inl (sf, sj, st) ↦ inr (inl (subst (Contains (from ∷ [])) sf (first_in from [])))
      | inr was ↦ inl (enter a from edge.0 place was)
    ]
active_cases a at k e h (Value place n number) r = elim (reached_cases a at k e place h r) [ inl was ↦ inl was | inr new ↦ inr (inr (subst (Contains (place ∷ [])) new (first_in place []))) ]
active_cases a at k e h (Term place) r = elim (reached_cases a at k e place h r) [ inl was ↦ inl was | inr new ↦ inr (inr (subst (Contains (place ∷ [])) new (first_in place []))) ]

-- what is asked for is as it was, and more edges are reached
met_above : (setting : Setting) (blocks : List Block) (a b : Assigned) → b.facts ≡ a.facts → IsAtMost a b → (look : Look) → IsMet setting blocks a look → IsMet setting blocks b look
met_above setting blocks a b same less (Entry at from phi j number) h = λ entry is. subst (λ fs. IsBelow (operand_fact setting fs entry.0) (fact_of fs number)) (sym same) (h entry is)
met_above setting blocks a b same less (Value at k number) h = λ inst is. subst (λ fs. IsBelow (inst_fact setting fs inst) (fact_of fs number)) (sym same) (h inst is)
met_above setting blocks a b same less (Term at) h = λ block is k to at_k asking. less.edges at k to (h block is k to at_k (subst (λ fs. asks (term_edges setting fs block.term) k ≡ true) same asking))

-- The looks in `opening` may be active now.
pub edge_solving : (setting : Setting) (blocks : List Block) (a b : Assigned) (standing : List Standing) (queue opening busy : List ℕ) (at k : ℕ) (e : Edge)
    → slice_get (edges_from a at) k ≡ Some e → b ≡ cond e.reached a (with_edge a at k e.to)
    → ((other : Assigned) → IsClosed setting blocks other → IsAtMost a other → IsReachedEdge other at k e.to)
    → ((l : ℕ) (look : Look) → slice_get (looks_of blocks) l ≡ Some look → Contains (home look) e.to → (is_active a look ≡ true) ⊎ Contains opening l)
    → IsSolving setting blocks a standing queue (members (sources_from 0 (looks_of blocks)) at) busy
    → IsSolving setting blocks b standing queue (opening ++ members (sources_from 0 (looks_of blocks)) at) busy
edge_solving setting blocks a b standing queue opening busy at k e h made least opens s = subst (λ d. IsSolving setting blocks d standing queue (opening ++ members (sources_from 0 (looks_of blocks)) at) busy) (sym made) (by e.reached refl)
  where
    wider : IsSolving setting blocks a standing queue (opening ++ members (sources_from 0 (looks_of blocks)) at) busy
    wider = fewer setting blocks a standing queue (opening ++ members (sources_from 0 (looks_of blocks)) at) (members (sources_from 0 (looks_of blocks)) at) busy busy
        (λ x look is on un there. Contains-append_right opening (members (sources_from 0 (looks_of blocks)) at) x there) (λ x look is idle c. inr c) s

    by : (r : Bool) → e.reached ≡ r → IsSolving setting blocks (cond r a (with_edge a at k e.to)) standing queue (opening ++ members (sources_from 0 (looks_of blocks)) at) busy
    by true r = wider
    by false r =
        let more : IsAtMost a (with_edge a at k e.to) = record { facts = λ j. below_refl (fact_of a.facts j); edges = λ f j t g. edge_above a at k e h f j t g } in
        let raised : Raises setting blocks a (with_edge a at k e.to) (not e.reached) =
        raises_edge setting blocks a (with_edge a at k e.to) at k e (not e.reached) s.fits h least refl (sym (ap (λ c. cond c a (with_edge a at k e.to)) r)) in
        record {
          fits = raised.fits;
          below = λ other closed. raised.within other closed (s.below other closed);
          long = s.long;
          opened = λ l look is. elim (s.opened l look is) [ inl un ↦ inl un | inr on ↦ inr (active_rises a (with_edge a at k e.to) more look on) ];
          seen = λ l look is on un. elim (active_cases a at k e h look on) [
            | inl was ↦ Contains-append_right opening (members (sources_from 0 (looks_of blocks)) at) l (s.seen l look is was un)
            | inr (inl from) ↦ Contains-append_right opening (members (sources_from 0 (looks_of blocks)) at) l (key_in_all source (looks_of blocks) l look at is from)
            | inr (inr to) ↦ elim (opens l look is to) [
              | inl was ↦ Contains-append_right opening (members (sources_from 0 (looks_of blocks)) at) l (s.seen l look is was un)
              | inr there ↦ Contains-append_left opening (members (sources_from 0 (looks_of blocks)) at) l there
            ]
          ];
          waits = s.waits;
          met = λ l look is idle. elim (s.met l look is idle) [ inl ok ↦ inl (met_above setting blocks a (with_edge a at k e.to) refl more look ok) | inr c ↦ inr c ];
        }

-- what the assignment is, once the edge is reached
pub edge_facts : (a b : Assigned) (at k : ℕ) (e : Edge) → b ≡ cond e.reached a (with_edge a at k e.to) → b.facts ≡ a.facts
edge_facts a b at k e made = ap facts_of made ∙ by e.reached
  where
    facts_of : Assigned → List Fact
    facts_of d = d.facts

    by : (r : Bool) → facts_of (cond r a (with_edge a at k e.to)) ≡ a.facts
    by true = refl
    by false = refl

pub edge_more : (a b : Assigned) (at k : ℕ) (e : Edge) → slice_get (edges_from a at) k ≡ Some e → b ≡ cond e.reached a (with_edge a at k e.to) → IsAtMost a b
edge_more a b at k e h made = subst (IsAtMost a) (sym made) (by e.reached)
  where
    by : (r : Bool) → IsAtMost a (cond r a (with_edge a at k e.to))
    by true = at_most_refl a
    by false = record { facts = λ j. below_refl (fact_of a.facts j); edges = λ f j t g. edge_above a at k e h f j t g }

pub edge_fits : (blocks : List Block) (a b : Assigned) (at k : ℕ) (e : Edge) → IsAssignmentIn blocks a → slice_get (edges_from a at) k ≡ Some e → b ≡ cond e.reached a (with_edge a at k e.to) → IsAssignmentIn blocks b
edge_fits blocks a b at k e fits h made = subst (IsAssignmentIn blocks) (sym made) (by e.reached)
  where
    by : (r : Bool) → IsAssignmentIn blocks (cond r a (with_edge a at k e.to))
    by true = fits
    by false = edges_fit blocks a at k e fits h

pub edge_done : (a b : Assigned) (at k : ℕ) (e : Edge) → slice_get (edges_from a at) k ≡ Some e → b ≡ cond e.reached a (with_edge a at k e.to) → IsReachedEdge b at k e.to
edge_done a b at k e h made = subst (λ d. IsReachedEdge d at k e.to) (sym made) (by e.reached refl)
  where
    by : (r : Bool) → e.reached ≡ r → IsReachedEdge (cond r a (with_edge a at k e.to)) at k e.to
    by true r = h ∙ ap Some (edge_is e e.to refl r)
    by false r = edge_reached a at k e h

-- ---- the block that it goes to

abbrev Out : List Block → ℕ → List ℕ
Out blocks at = members (sources_from 0 (looks_of blocks)) at

abbrev In : List Block → ℕ → List ℕ
In blocks to = members (homes_from 0 (looks_of blocks)) to

home_active : (a : Assigned) (look : Look) (to : ℕ) → Contains (home look) to → is_reached a to ≡ true → is_active a look ≡ true
home_active a (Entry at from phi entry number) to h r = absurd (in_none to h)
home_active a (Value at k number) to h r = elim (in_cons at [] to h) [ inl same ↦ subst (λ p. is_reached a p ≡ true) same r | inr none ↦ absurd (in_none to none) ]
home_active a (Term at) to h r = elim (in_cons at [] to h) [ inl same ↦ subst (λ p. is_reached a p ≡ true) same r | inr none ↦ absurd (in_none to none) ]

-- the edge that is there
pub edge_of : (a : Assigned) (at k to : ℕ) → k < length (edges_from a at) → IfSome (slice_get (edges_from a at) k) (λ edge. edge.to ≡ to) → (e : Edge) × (slice_get (edges_from a at) k ≡ Some e) × (e.to ≡ to)
edge_of a at k to less h =
    let e = there (edges_from a at) k less in
    (e.0, e.1, subst (λ o. IfSome o (λ edge. edge.to ≡ to)) e.1 h)

pub reaches_old : (blocks : List Block) (a b : Assigned) (standing : List Standing) (queue : List ℕ) (at k to : ℕ) → IsAssignmentIn blocks a → k < length (edges_from a at)
    → IfSome (slice_get (edges_from a at) k) (λ edge. edge.to ≡ to) → IfSome (slice_get (edges_from a at) k) (λ edge. b ≡ cond edge.reached a (with_edge a at k edge.to))
    → is_reached a to ≡ true → Reaches blocks a b standing standing queue queue at k to
reaches_old blocks a b standing queue at k to fits less goes_to value was =
    let e = edge_of a at k to less goes_to in
    let made : b ≡ cond e.0.reached a (with_edge a at k e.0.to) = subst (λ o. IfSome o (λ edge. b ≡ cond edge.reached a (with_edge a at k edge.to))) e.1 value in
    record {
      facts = edge_facts a b at k e.0 made;
      above = edge_more a b at k e.0 e.1 made;
      fits = edge_fits blocks a b at k e.0 fits e.1 made;
      reached = subst (IsReachedEdge b at k) e.2 (edge_done a b at k e.0 e.1 made);
      goes = λ setting busy least s. edge_solving setting blocks a b standing queue [] busy at k e.0 e.1 made
          (λ other closed above. subst (IsReachedEdge other at k) (sym e.2) (least other closed above))
          (λ l look is h. inl (home_active a look to (subst (Contains (home look)) e.2 h) was)) s;
      left = λ uses. let same : left uses b.facts standing queue ≡ left uses a.facts standing queue = ap (λ fs. left uses fs standing queue) (edge_facts a b at k e.0 made) in omega (arith, same);
    }

pub reaches_new : (blocks : List Block) (a b : Assigned) (standing next : List Standing) (queue longer group : List ℕ) (at k to : ℕ) → IsAssignmentIn blocks a → k < length (edges_from a at)
    → IfSome (slice_get (edges_from a at) k) (λ edge. edge.to ≡ to) → IfSome (slice_get (edges_from a at) k) (λ edge. b ≡ cond edge.reached a (with_edge a at k edge.to))
    → group ≡ In blocks to → Opens blocks b standing next queue longer group → Reaches blocks a b standing next queue longer at k to
reaches_new blocks a b standing next queue longer group at k to fits less goes_to value is opens =
    let e = edge_of a at k to less goes_to in
    let made : b ≡ cond e.0.reached a (with_edge a at k e.0.to) = subst (λ o. IfSome o (λ edge. b ≡ cond edge.reached a (with_edge a at k edge.to))) e.1 value in
    record {
      facts = edge_facts a b at k e.0 made;
      above = edge_more a b at k e.0 e.1 made;
      fits = edge_fits blocks a b at k e.0 fits e.1 made;
      reached = subst (IsReachedEdge b at k) e.2 (edge_done a b at k e.0 e.1 made);
      goes = λ setting busy least s. opens.goes setting (Out blocks at) busy (edge_solving setting blocks a b standing queue group busy at k e.0 e.1 made
          (λ other closed above. subst (IsReachedEdge other at k) (sym e.2) (least other closed above))
          (λ l look here h. inr (subst (λ g. Contains g l) (sym is) (key_in_all home (looks_of blocks) l look to here (subst (Contains (home look)) e.2 h)))) s);
      left = λ uses. let same : left uses b.facts standing queue ≡ left uses a.facts standing queue = ap (λ fs. left uses fs standing queue) (edge_facts a b at k e.0 made) in omega (arith, same, opens.left uses);
    }

-- ---- all edges of a block

pub reaches_none : (blocks : List Block) (a : Assigned) (standing : List Standing) (queue : List ℕ) (at : ℕ) (tos : List ℕ) (asked : Edges) → IsAssignmentIn blocks a → ReachesAll blocks a a standing standing queue queue at tos asked 0
reaches_none blocks a standing queue at tos asked fits = record {
  facts = refl;
  above = at_most_refl a;
  fits = fits;
  reached = λ k to less is asking. absurd (omega (arith, less));
  goes = λ setting busy least s. s;
  left = λ uses. omega arith;
}

pub reaches_next : (blocks : List Block) (a b c : Assigned) (standing mid next : List Standing) (queue longer longest : List ℕ) (at : ℕ) (tos : List ℕ) (asked : Edges) (n to : ℕ) → slice_get tos n ≡ Some to
    → ReachesAll blocks a b standing mid queue longer at tos asked n
    → (IsTrue (asks asked n) → Reaches blocks b c mid next longer longest at n to) → (IsFalse (asks asked n) → (c ≡ b) × (next ≡ mid) × (longest ≡ longer))
    → ReachesAll blocks a c standing next queue longest at tos asked (n + 1)
reaches_next blocks a b c standing mid next queue longer longest at tos asked n to is h yes_case no_case = by (asks asked n) refl
  where
    by : (r : Bool) → asks asked n ≡ r → ReachesAll blocks a c standing next queue longest at tos asked (n + 1)
    by true r =
        let g = yes_case r in
        record {
          facts = g.facts ∙ h.facts;
          above = at_most_trans a b c h.above g.above;
          fits = g.fits;
          reached = λ k t less here asking. elim (is_or_not k n) [
            | inl same ↦
                let target : t ≡ to = some_is (sym here ∙ ap (slice_get tos) same ∙ is) in
                subst (λ m. IsReachedEdge c at m t) (sym same) (subst (IsReachedEdge c at n) (sym target) g.reached)
            | inr ne ↦ g.above.edges at k t (h.reached k t (omega (arith, less, ne)) here asking)
          ];
          goes = λ setting busy least s. g.goes setting busy (λ other closed above. least other closed (at_most_trans a b other h.above above) n to is r) (h.goes setting busy least s);
          left = λ uses. omega (arith, g.left uses, h.left uses);
        }
    by false r =
        let same = no_case r in
        subst (λ d. ReachesAll blocks a d standing next queue longest at tos asked (n + 1)) (sym same.0)
        (subst (λ d. ReachesAll blocks a b standing d queue longest at tos asked (n + 1)) (sym same.1)
        (subst (λ d. ReachesAll blocks a b standing mid queue d at tos asked (n + 1)) (sym same.2) (record {
          facts = h.facts;
          above = h.above;
          fits = h.fits;
          reached = λ k t less here asking. elim (is_or_not k n) [
            | inl eq ↦ absurd (false≢true (sym r ∙ subst (λ m. asks asked m ≡ true) eq asking))
            | inr ne ↦ h.reached k t (omega (arith, less, ne)) here asking
          ];
          goes = h.goes;
          left = h.left;
        })))
