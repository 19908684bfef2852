-- Edges and facts that are given are written one after another.
use Rattle.std.proofs.Common.{◌≡◌, ◌≢◌, ◌∙◌, ◌⊎◌, inl, inr, ℕ, zero, suc, ◌+◌, ◌<◌, ◌≤◌, Bool, true, false, cond, List, [], ◌∷◌, Option, None, Some, length, map, set, get_or, refl, sym, ap, subst, arith}
use Rattle.std.specs.Prelude.{slice_get, IfSome, IsSomeAnd, All, AllPairs}
use Rattle.std.proofs.lemmas.Option.{slice_get-get_or, get_or_from_slice_get, slice_get_read}
use Rattle.ir_types.specs.declared.scalar.Scalar.{Scalar}
use Rattle.ir_types.proofs.ListSteps.{All-at}
use Rattle.ir_syntax.specs.declared.body.Block.{Block}
use Rattle.ir_syntax.specs.Edges.{successors, successors_of}
use Rattle.fold_facts.specs.declared.fact.Fact.{Fact}
use Rattle.fold_facts.specs.declared.fact.Fact.TheVariants.{Varying}
use Rattle.fold_facts.specs.declared.edge.Edge.{Edge}
use Rattle.fold_facts.specs.Assigned.{Assigned, edges_from, IsReachedEdge}
use Rattle.fold_facts.specs.OfFunction.{IsFactOf, IsAssignmentIn, results_in}
use Rattle.fold_facts.specs.Raising.{with_edge, blank}
use Rattle.fold_facts.specs.Given.{IsEdgeIn, IsFactIn, HasEdges, HasFacts}
use Rattle.fold_facts.proofs.Lists.{some_is, is_or_not, set_same, set_other, there, within, zip_set, zip_length}
use Rattle.fold_facts.proofs.Raised.{edge_reached, edge_cases, edge_above, edges_fit}
use Rattle.fold_facts.proofs.Settling.{blank_fits, not_reached}
use Rattle.fold_facts.proofs.Visits.{edge_is, edge_there}

-- ---- edges

-- an edge among the first n of the list
abbrev pub IsListed : List (ℕ × ℕ) → ℕ → ℕ → ℕ → Type 0
IsListed edges n from k = (i : ℕ) × (i < n) × (slice_get edges i ≡ Some (from, k))

pub record EdgesTo (blocks : List Block) (a : Assigned) (edges : List (ℕ × ℕ)) (n : ℕ) : Type 0 where
  pub fits : IsAssignmentIn blocks a
  pub facts : a.facts ≡ (blank blocks Varying).facts
  pub sound : (from k to : ℕ) → IsReachedEdge a from k to → IsListed edges n from k
  pub whole : (from k to : ℕ) → slice_get (successors_of (slice_get blocks from)) k ≡ Some to → IsListed edges n from k → IsReachedEdge a from k to

pub edges_begin : (blocks : List Block) (a : Assigned) (edges : List (ℕ × ℕ)) → a ≡ blank blocks Varying → EdgesTo blocks a edges 0
edges_begin blocks a edges is = subst (λ b. EdgesTo blocks b edges 0) (sym is) (record {
  fits = blank_fits blocks Varying (λ ty. tt);
  facts = refl;
  sound = λ from k to h. absurd (not_reached blocks Varying from k to h);
  whole = λ from k to at h. absurd (omega (arith, h.1));
})

later : (edges : List (ℕ × ℕ)) (n from k : ℕ) → IsListed edges n from k → IsListed edges (n + 1) from k
later edges n from k h = (h.0, omega (arith, h.1), h.2)

-- the block and its target, of an edge that is listed
target : (blocks : List Block) (from k : ℕ) → k < length (successors_of (slice_get blocks from)) → (block : Block) × (slice_get blocks from ≡ Some block) × ((to : ℕ) × (slice_get (successors block.term) k ≡ Some to))
target blocks from k less = by (slice_get blocks from) refl less
  where
    by : (o : Option Block) → slice_get blocks from ≡ o → k < length (successors_of o) → (block : Block) × (slice_get blocks from ≡ Some block) × ((to : ℕ) × (slice_get (successors block.term) k ≡ Some to))
    by None is h = absurd (omega (arith, h))
    by (Some block) is h = (block, is, there (successors block.term) k h)

pub edge_within : (blocks : List Block) (a : Assigned) (from k : ℕ) → IsAssignmentIn blocks a → k < length (successors_of (slice_get blocks from)) → (e : Edge) × (slice_get (edges_from a from) k ≡ Some e)
edge_within blocks a from k fits less =
    let t = target blocks from k less in
    let e = edge_there blocks a from k t.2.0 t.0 fits t.1 t.2.1 in
    (e.0, e.1)

pub edge_less : (blocks : List Block) (a : Assigned) (from k : ℕ) → IsAssignmentIn blocks a → k < length (successors_of (slice_get blocks from)) → k < length (edges_from a from)
edge_less blocks a from k fits less = let e = edge_within blocks a from k fits less in within (edges_from a from) k e.0 e.1

reach_step : (blocks : List Block) (a b : Assigned) (edges : List (ℕ × ℕ)) (n f j : ℕ) (e : Edge) → EdgesTo blocks a edges n → slice_get edges n ≡ Some (f, j) → slice_get (edges_from a f) j ≡ Some e
    → b ≡ cond e.reached a (with_edge a f j e.to) → EdgesTo blocks b edges (n + 1)
reach_step blocks a b edges n f j e h is here made = by e.reached refl made
  where
    own : (from k to : ℕ) → slice_get (successors_of (slice_get blocks from)) k ≡ Some to → from ≡ f → k ≡ j → to ≡ e.to
    own from k to at sf sj =
        let t = target blocks from k (within (successors_of (slice_get blocks from)) k to at) in
        let d = edge_there blocks a from k to t.0 h.fits t.1 (sym (ap (λ o. slice_get (successors_of o) k) t.1) ∙ at) in
        let same : d.0 ≡ e = some_is (sym (subst (λ m. slice_get (edges_from a f) m ≡ Some d.0) sj (subst (λ m. slice_get (edges_from a m) k ≡ Some d.0) sf d.1)) ∙ here) in
        sym d.2 ∙ ap (λ x. x.to) same

    pick : (from k : ℕ) → IsListed edges (n + 1) from k → ((from ≡ f) × (k ≡ j)) ⊎ IsListed edges n from k
    pick from k (i, less, at) = elim (is_or_not i n) [
      | inl same ↦ let pair : (from, k) ≡ (f, j) = some_is (sym at ∙ ap (slice_get edges) same ∙ is) in inl (ap (λ p. p.0) pair, ap (λ p. p.1) pair)
      | inr ne ↦ inr (i, omega (arith, less, ne), at)
    ]

    here_listed : IsListed edges (n + 1) f j
    here_listed = (n, omega arith, is)

    by : (r : Bool) → e.reached ≡ r → b ≡ cond r a (with_edge a f j e.to) → EdgesTo blocks b edges (n + 1)
    by true on at = subst (λ x. EdgesTo blocks x edges (n + 1)) (sym at) (record {
      fits = h.fits;
      facts = h.facts;
      sound = λ from k to g. later edges n from k (h.sound from k to g);
      whole = λ from k to t g. elim (pick from k g) [
        | inl (sf, sj) ↦ subst (λ m. slice_get (edges_from a m) k ≡ Some (record { to = to; reached = true })) (sym sf) (subst (λ m. slice_get (edges_from a f) m ≡ Some (record { to = to; reached = true })) (sym sj)
            (here ∙ ap Some (edge_is e to (sym (own from k to t sf sj)) on)))
        | inr was ↦ h.whole from k to t was
      ];
    })
    by false off at = subst (λ x. EdgesTo blocks x edges (n + 1)) (sym at) (record {
      fits = edges_fit blocks a f j e h.fits here;
      facts = h.facts;
      sound = λ from k to g. elim (edge_cases a f j e from k to here g) [
        | inl (sf, sj, st) ↦ subst (λ m. IsListed edges (n + 1) m k) (sym sf) (subst (λ m. IsListed edges (n + 1) f m) (sym sj) here_listed)
        | inr was ↦ later edges n from k (h.sound from k to was)
      ];
      whole = λ from k to t g. elim (pick from k g) [
        | inl (sf, sj) ↦ subst (λ m. IsReachedEdge (with_edge a f j e.to) m k to) (sym sf) (subst (λ m. IsReachedEdge (with_edge a f j e.to) f m to) (sym sj)
            (subst (λ m. IsReachedEdge (with_edge a f j e.to) f j m) (sym (own from k to t sf sj)) (edge_reached a f j e here)))
        | inr was ↦ edge_above a f j e here from k to (h.whole from k to t was)
      ];
    })

pub edges_step : (blocks : List Block) (a b : Assigned) (edges : List (ℕ × ℕ)) (n f j : ℕ) → EdgesTo blocks a edges n → slice_get edges n ≡ Some (f, j) → All (IsEdgeIn blocks) edges
    → IfSome (slice_get (edges_from a f) j) (λ edge. b ≡ cond edge.reached a (with_edge a f j edge.to)) → EdgesTo blocks b edges (n + 1)
edges_step blocks a b edges n f j h is all made =
    let e = edge_within blocks a f j h.fits (All-at (IsEdgeIn blocks) edges n (f, j) all is) in
    reach_step blocks a b edges n f j e.0 h is e.1 (subst (λ o. IfSome o (λ edge. b ≡ cond edge.reached a (with_edge a f j edge.to))) e.1 made)

pub edges_end : (blocks : List Block) (a : Assigned) (edges : List (ℕ × ℕ)) (n : ℕ) → length edges ≤ n → EdgesTo blocks a edges n → HasEdges blocks a edges
edges_end blocks a edges n all h from k to at = (
  (λ g. let l = h.sound from k to g in (l.0, within edges l.0 (from, k) l.2, get_or_from_slice_get edges l.0 (from, k) (from, k) l.2)),
  (λ c. h.whole from k to at (c.0, omega (arith, c.1, all), slice_get_read edges (length edges) c.0 (from, k) refl c.1 (sym c.2))),
)

-- ---- facts

pub record FactsTo (blocks : List Block) (a b : Assigned) (facts : List (ℕ × Fact)) (n : ℕ) : Type 0 where
  pub fits : IsAssignmentIn blocks b
  pub edges : b.edges ≡ a.edges
  pub listed : (i k : ℕ) (fact : Fact) → i < n → slice_get facts i ≡ Some (k, fact) → slice_get b.facts k ≡ Some fact
  pub others : (k : ℕ) → k < length (results_in blocks) → ((i j : ℕ) (fact : Fact) → i < n → slice_get facts i ≡ Some (j, fact) → j ≢ k) → slice_get b.facts k ≡ Some Varying

vary : (tys : List Scalar) (k : ℕ) → k < length tys → slice_get (map (λ ty. Varying) tys) k ≡ Some Varying
vary [] k h = absurd (omega arith)
vary (ty ∷ tys) zero h = refl
vary (ty ∷ tys) (suc k) h = vary tys k (omega arith)

pub facts_begin : (blocks : List Block) (a : Assigned) (facts : List (ℕ × Fact)) → a.facts ≡ (blank blocks Varying).facts → IsAssignmentIn blocks a → FactsTo blocks a a facts 0
facts_begin blocks a facts is fits = record {
  fits = fits;
  edges = refl;
  listed = λ i k fact less at. absurd (omega (arith, less));
  others = λ k less none. ap (λ l. slice_get l k) is ∙ vary (results_in blocks) k less;
}

typed_at : (blocks : List Block) (k : ℕ) (fact : Fact) → IsFactIn blocks (k, fact) → (ty : Scalar) × (slice_get (results_in blocks) k ≡ Some ty) × IsFactOf ty fact
typed_at blocks k fact h = by (slice_get (results_in blocks) k) refl h
  where
    by : (o : Option Scalar) → slice_get (results_in blocks) k ≡ o → IsSomeAnd o (λ ty. IsFactOf ty fact) → (ty : Scalar) × (slice_get (results_in blocks) k ≡ Some ty) × IsFactOf ty fact
    by None is g = absurd g
    by (Some ty) is g = (ty, is, g)

pub fact_less : (blocks : List Block) (a b : Assigned) (facts : List (ℕ × Fact)) (n k : ℕ) (fact : Fact) → FactsTo blocks a b facts n → slice_get facts n ≡ Some (k, fact) → All (IsFactIn blocks) facts → k < length b.facts
fact_less blocks a b facts n k fact h is all =
    let t = typed_at blocks k fact (All-at (IsFactIn blocks) facts n (k, fact) all is) in
    omega (arith, within (results_in blocks) k t.0 t.1, zip_length IsFactOf (results_in blocks) b.facts h.fits.facts)

-- no result is listed twice
abbrev pub AreDistinct : List (ℕ × Fact) → Type 0
AreDistinct facts = AllPairs (λ one other. one.0 ≢ other.0) facts

apart : (facts : List (ℕ × Fact)) → AreDistinct facts → (i n k j : ℕ) (f g : Fact) → i < n → slice_get facts i ≡ Some (k, f) → slice_get facts n ≡ Some (j, g) → k ≢ j
apart facts h i n k j f g less at is same =
    let one : get_or facts i (k, f) ≡ (k, f) = get_or_from_slice_get facts i (k, f) (k, f) at in
    let other : get_or facts n (k, f) ≡ (j, g) = get_or_from_slice_get facts n (j, g) (k, f) is in
    h i n (k, f) less (within facts n (j, g) is) (ap (λ p. p.0) one ∙ same ∙ sym (ap (λ p. p.0) other))

pub facts_step : (blocks : List Block) (a b c : Assigned) (facts : List (ℕ × Fact)) (n k : ℕ) (fact : Fact) → FactsTo blocks a b facts n → slice_get facts n ≡ Some (k, fact) → All (IsFactIn blocks) facts → AreDistinct facts
    → c ≡ record { facts = set b.facts k fact; edges = b.edges } → FactsTo blocks a c facts (n + 1)
facts_step blocks a b c facts n k fact h is all distinct made = subst (λ d. FactsTo blocks a d facts (n + 1)) (sym made) (record {
  fits =
      let t = typed_at blocks k fact (All-at (IsFactIn blocks) facts n (k, fact) all is) in
      record { facts = zip_set IsFactOf (results_in blocks) b.facts k t.0 fact h.fits.facts t.1 t.2; edges = h.fits.edges };
  edges = h.edges;
  listed = λ i m f less at. elim (is_or_not i n) [
    | inl same ↦
        let pair : (m, f) ≡ (k, fact) = some_is (sym at ∙ ap (slice_get facts) same ∙ is) in
        ap (slice_get (set b.facts k fact)) (ap (λ p. p.0) pair) ∙ set_same b.facts k fact (fact_less blocks a b facts n k fact h is all) ∙ ap Some (sym (ap (λ p. p.1) pair))
    | inr ne ↦ set_other b.facts k m fact (apart facts distinct i n m k f fact (omega (arith, less, ne)) at is) ∙ h.listed i m f (omega (arith, less, ne)) at
  ];
  others = λ m less none.
      set_other b.facts k m fact (λ e. none n k fact (omega arith) is (sym e)) ∙ h.others m less (λ i j f low at. none i j f (omega (arith, low)) at);
})

pub facts_end : (blocks : List Block) (a b : Assigned) (facts : List (ℕ × Fact)) (n : ℕ) → length facts ≤ n → FactsTo blocks a b facts n → HasFacts blocks b facts
facts_end blocks a b facts n all h = record {
  listed = λ i d less. h.listed i (get_or facts i d).0 (get_or facts i d).1 (omega (arith, less, all)) (slice_get-get_or facts i d less);
  others = λ k less none. h.others k less (λ i j f low at.
      let pair : get_or facts i (j, f) ≡ (j, f) = get_or_from_slice_get facts i (j, f) (j, f) at in
      λ e. none i (j, f) (within facts i (j, f) at) (ap (λ p. p.0) pair ∙ e));
}

-- the facts of edges that are reached don't change
pub edges_kept : (blocks : List Block) (a b : Assigned) (edges : List (ℕ × ℕ)) → b.edges ≡ a.edges → HasEdges blocks a edges → HasEdges blocks b edges
edges_kept blocks a b edges same h = subst (λ es. HasEdges blocks (record { facts = b.facts; edges = es }) edges) (sym same) h

-- facts that are put change no edges
pub edges_stay : (blocks slice : List Block) (a b : Assigned) (listed : List (ℕ × ℕ)) → slice ≡ blocks → b.edges ≡ a.edges → HasEdges slice a listed → HasEdges blocks b listed
edges_stay blocks slice a b listed same edges h =
    let here : HasEdges blocks a listed = subst (λ (bs : List Block). HasEdges bs a listed) same h in
    subst (λ (es : List (List Edge)). HasEdges blocks (record { facts = b.facts; edges = es }) listed) (sym edges) here
