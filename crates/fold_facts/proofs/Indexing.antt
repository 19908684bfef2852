-- The pairs of blocks that are entered, while edges are listed and reached.
use Rattle.std.proofs.Common.{◌≡◌, ◌∙◌, ◌⊎◌, inl, inr, ℕ, zero, suc, ◌+◌, ◌<◌, ◌≤◌, Bool, true, false, cond, List, [], ◌∷◌, ◌++◌, Option, None, Some, length, set, take, get_or, refl, sym, ap, subst}
use Rattle.std.specs.Prelude.{◌&&◌, nat_eq, slice_get, IsSome}
use Rattle.std.specs.List.{list_any}
use Rattle.std.proofs.lemmas.Bool.{eqb-true, eq-eqb, false≢true}
use Rattle.std.proofs.lemmas.Option.{none-some}
use Rattle.std.proofs.lemmas.List.{take_more, take_all}
use Rattle.ir_syntax.specs.declared.body.Block.{Block}
use Rattle.fold_facts.specs.declared.fact.Fact.{Fact}
use Rattle.fold_facts.specs.declared.edge.Edge.{Edge}
use Rattle.fold_facts.specs.declared.entered.Entered.{Entered}
use Rattle.fold_facts.specs.Assigned.{Assigned, comes_to, edges_at, edges_from, enters}
use Rattle.fold_facts.specs.Raising.{with_edge, blank}
use Rattle.fold_facts.specs.Entering.{entered_at, Puts, Lists, IsIndexed}
use Rattle.fold_facts.proofs.Lists.{some_is, is_or_not}
use Rattle.fold_facts.proofs.Orders.{below_refl}
use Rattle.fold_facts.proofs.Raised.{edge_reached, edge_cases, edge_above}
use Rattle.fold_facts.proofs.Reaching.{entered, enter, enters_rises}
use Rattle.fold_facts.proofs.Blank.{IsBlankTo, blank_start}
use Rattle.fold_facts.proofs.Flags.{opened_edges}
use Rattle.fold_facts.proofs.Settling.{not_reached}

and_parts : (a b : Bool) → (a && b) ≡ true → (a ≡ true) × (b ≡ true)
and_parts true b h = (refl, h)
and_parts false b h = absurd (false≢true h)

same_pair : (from to f t : ℕ) → (nat_eq from f && nat_eq to t) ≡ true → (f ≡ from) × (t ≡ to)
same_pair from to f t h = let both = and_parts (nat_eq from f) (nat_eq to t) h in (sym (eqb-true from f both.0), sym (eqb-true to t both.1))

pair_same : (from to : ℕ) → (nat_eq from from && nat_eq to to) ≡ true
pair_same from to = ap (λ b. b && nat_eq to to) (eq-eqb from from refl) ∙ eq-eqb to to refl

-- ---- one pair

put_here : (before after : Entered) (from to : ℕ) (flag : Bool) → Puts before after from to flag → entered_at after from to ≡ Some flag
put_here before after from to flag p = p from to ∙ ap (λ b. cond b (Some flag) (entered_at before from to)) (pair_same from to)

put_cases : (before after : Entered) (from to : ℕ) (flag : Bool) → Puts before after from to flag → (f t : ℕ) → ((f ≡ from) × (t ≡ to)) ⊎ (entered_at after f t ≡ entered_at before f t)
put_cases before after from to flag p f t = by (nat_eq from f && nat_eq to t) refl
  where
    by : (b : Bool) → (nat_eq from f && nat_eq to t) ≡ b → ((f ≡ from) × (t ≡ to)) ⊎ (entered_at after f t ≡ entered_at before f t)
    by true e = inl (same_pair from to f t e)
    by false e = inr (p f t ∙ ap (λ b. cond b (Some flag) (entered_at before f t)) e)

put_keeps : (before after : Entered) (from to : ℕ) (flag : Bool) → Puts before after from to flag → (f t : ℕ) → IsSome (entered_at before f t) → IsSome (entered_at after f t)
put_keeps before after from to flag p f t some = elim (put_cases before after from to flag p f t) [
  | inl (e, s) ↦ subst IsSome (sym (ap (λ n. entered_at after n t) e ∙ ap (entered_at after from) s ∙ put_here before after from to flag p)) refl
  | inr same ↦ subst IsSome (sym same) some
]

-- ---- the pairs of edges

pub lists_none : (e : Entered) (from : ℕ) → Lists e e from []
lists_none e from = record { fresh = λ f t flag h. inr h; keeps = λ f t some. some; lists = λ k edge h. absurd (none-some edge h) }

pub lists_more : (first before after : Entered) (from k : ℕ) (edges : List Edge) (d : Edge) → k < length edges → Lists first before from (take k edges) → Puts before after from (get_or edges k d).to false
    → Lists first after from (take (k + 1) edges)
lists_more first before after from k edges d less h p = subst (Lists first after from) (sym (take_more edges k d less)) (record {
  fresh = λ f t flag at. elim (put_cases before after from (get_or edges k d).to false p f t) [
    | inl (e, s) ↦ inl (some_is (sym at ∙ ap (λ n. entered_at after n t) e ∙ ap (entered_at after from) s ∙ put_here before after from (get_or edges k d).to false p))
    | inr same ↦ h.fresh f t flag (sym same ∙ at)
  ];
  keeps = λ f t some. put_keeps before after from (get_or edges k d).to false p f t (h.keeps f t some);
  lists = λ j other at. elim (pushed (take k edges) (get_or edges k d) other j at) [
    | inl old ↦ put_keeps before after from (get_or edges k d).to false p from other.to (h.lists j other old)
    | inr s ↦ subst (λ (x : Edge). IsSome (entered_at after from x.to)) s (subst IsSome (sym (put_here before after from (get_or edges k d).to false p)) refl)
  ];
})
  where
    pushed : (xs : List Edge) (x y : Edge) (j : ℕ) → slice_get (xs ++ x ∷ []) j ≡ Some y → (slice_get xs j ≡ Some y) ⊎ (x ≡ y)
    pushed [] x y zero h = inr (some_is h)
    pushed [] x y (suc j) h = absurd (none-some y h)
    pushed (z ∷ zs) x y zero h = inl h
    pushed (z ∷ zs) x y (suc j) h = pushed zs x y j h

-- ---- a blank assignment

-- the pairs of the edges so far are listed, and none is entered
pub record AreListed (e : Entered) (edges : List (List Edge)) : Type 0 where
  pub fresh : (f t : ℕ) (flag : Bool) → entered_at e f t ≡ Some flag → flag ≡ false
  pub lists : (from k : ℕ) (edge : Edge) → slice_get (edges_at (slice_get edges from)) k ≡ Some edge → IsSome (entered_at e from edge.to)

pub listed_none : (e : Entered) → ((from to : ℕ) → entered_at e from to ≡ None) → AreListed e []
listed_none e none = record { fresh = λ f t flag h. absurd (none-some flag (sym (none f t) ∙ h)); lists = λ from k edge h. absurd (none-some edge h) }

pub listed_start : (blocks : List Block) (fact : Fact) (facts : List Fact) (edges : List (List Edge)) (flags : List Bool) (e : Entered) → facts ≡ [] → edges ≡ [] → flags ≡ [] → ((from to : ℕ) → entered_at e from to ≡ None)
    → IsBlankTo blocks fact 0 facts edges flags × AreListed e edges
listed_start blocks fact facts edges flags e f g h none = (
  subst (λ (l : List Fact). IsBlankTo blocks fact 0 l edges flags) (sym f)
      (subst (λ (l : List (List Edge)). IsBlankTo blocks fact 0 [] l flags) (sym g) (subst (λ (l : List Bool). IsBlankTo blocks fact 0 [] [] l) (sym h) (blank_start blocks fact))),
  subst (AreListed e) (sym g) (listed_none e none),
)

pub listed_more : (before after : Entered) (edges next : List (List Edge)) (row : List Edge) (n : ℕ) → length edges ≡ n → next ≡ edges ++ row ∷ [] → AreListed before edges → Lists before after n row → AreListed after next
listed_more before after edges next row n long pushed h l = subst (AreListed after) (sym pushed) (record {
  fresh = λ f t flag at. elim (l.fresh f t flag at) [ inl e ↦ e | inr old ↦ h.fresh f t flag old ];
  lists = λ from k edge at. elim (rows edges row from k edge at) [
    | inl old ↦ l.keeps from edge.to (h.lists from k edge old)
    | inr (e, here) ↦ subst (λ m. IsSome (entered_at after m edge.to)) (sym (e ∙ long)) (l.lists k edge here)
  ];
})
  where
    rows : (xs : List (List Edge)) (x : List Edge) (from k : ℕ) (edge : Edge) → slice_get (edges_at (slice_get (xs ++ x ∷ []) from)) k ≡ Some edge
        → (slice_get (edges_at (slice_get xs from)) k ≡ Some edge) ⊎ ((from ≡ length xs) × (slice_get x k ≡ Some edge))
    rows [] x zero k edge h = inr (refl, h)
    rows [] x (suc from) k edge h = absurd (none-some edge h)
    rows (y ∷ ys) x zero k edge h = inl h
    rows (y ∷ ys) x (suc from) k edge h = elim (rows ys x from k edge h) [ inl old ↦ inl old | inr (e, s) ↦ inr (ap suc e, s) ]

pub blank_indexed : (blocks : List Block) (fact : Fact) (facts : List Fact) (edges : List (List Edge)) (e : Entered) → (record { facts = facts; edges = edges }) ≡ blank blocks fact → AreListed e edges → IsIndexed e edges
blank_indexed blocks fact facts edges e is h = record {
  right = λ from to flag at. h.fresh from to flag at ∙ sym (none from to (list_any (comes_to to) (edges_at (slice_get edges from))) refl);
  lists = h.lists;
}
  where
    none : (from to : ℕ) (b : Bool) → list_any (comes_to to) (edges_at (slice_get edges from)) ≡ b → b ≡ false
    none from to true any =
        let found = entered (blank blocks fact) from to (sym (ap (λ (a : Assigned). enters a from to) is) ∙ any) in
        absurd (not_reached blocks fact from found.0 to found.1)
    none from to false any = refl

-- ---- an edge is reached

both : (x y : Bool) → (x ≡ true → y ≡ true) → (y ≡ true → x ≡ true) → x ≡ y
both true y h g = sym (h refl)
both false true h g = g refl
both false false h g = refl

others : (a : Assigned) (from k : ℕ) (e : Edge) (f place : ℕ) → slice_get (edges_from a from) k ≡ Some e → (f ≡ from → place ≡ e.to → ⊥) → enters a f place ≡ enters (with_edge a from k e.to) f place
others a from k e f place h n = both (enters a f place) (enters (with_edge a from k e.to) f place)
    (enters_rises a (with_edge a from k e.to) (record { facts = λ j. below_refl _; edges = λ i j t g. edge_above a from k e h i j t g }) f place)
    (λ r.
    let found = entered (with_edge a from k e.to) f place r in
    elim (edge_cases a from k e f found.0 place h found.1) [
      | inl (sf, sj, st) ↦ absurd (n sf st)
      | inr was ↦ enter a f found.0 place was
    ])

-- an edge of the assignment with one edge reached was one before, to the same block
was_edge : (a : Assigned) (from k : ℕ) (e : Edge) (f j : ℕ) (edge : Edge) → slice_get (edges_from a from) k ≡ Some e → slice_get (edges_from (with_edge a from k e.to) f) j ≡ Some edge
    → (old : Edge) × (slice_get (edges_from a f) j ≡ Some old) × (old.to ≡ edge.to)
was_edge a from k e f j edge h at = by_block (slice_get a.edges from) refl
  where
    row : (es : List Edge) (k j : ℕ) (e edge : Edge) → slice_get es k ≡ Some e → slice_get (set es k (record { to = e.to; reached = true })) j ≡ Some edge → (old : Edge) × (slice_get es j ≡ Some old) × (old.to ≡ edge.to)
    row [] k j e edge h at = absurd (none-some e h)
    row (x ∷ xs) zero zero e edge h at = (x, refl, ap (λ (y : Edge). y.to) (some_is h) ∙ ap (λ (y : Edge). y.to) (some_is at))
    row (x ∷ xs) zero (suc j) e edge h at = (edge, at, refl)
    row (x ∷ xs) (suc k) zero e edge h at = (edge, at, refl)
    row (x ∷ xs) (suc k) (suc j) e edge h at = row xs k j e edge h at

    block : (ess : List (List Edge)) (es : List Edge) (from f : ℕ) → slice_get ess from ≡ Some es → slice_get (edges_at (slice_get (set ess from (set es k (record { to = e.to; reached = true }))) f)) j ≡ Some edge
        → slice_get es k ≡ Some e → (old : Edge) × (slice_get (edges_at (slice_get ess f)) j ≡ Some old) × (old.to ≡ edge.to)
    block [] es from f is at h = absurd (none-some es is)
    block (x ∷ xs) es zero zero is at h =
        let found = row es k j e edge h at in
        (found.0, ap (λ l. slice_get l j) (some_is is) ∙ found.1, found.2)
    block (x ∷ xs) es zero (suc f) is at h = (edge, at, refl)
    block (x ∷ xs) es (suc from) zero is at h = (edge, at, refl)
    block (x ∷ xs) es (suc from) (suc f) is at h = block xs es from f is at h

    by_block : (o : Option (List Edge)) → slice_get a.edges from ≡ o → (old : Edge) × (slice_get (edges_from a f) j ≡ Some old) × (old.to ≡ edge.to)
    by_block None is = absurd (none-some e (ap (λ (x : Option (List Edge)). slice_get (edges_at x) k) (sym is) ∙ h))
    by_block (Some es) is =
        let mine : edges_from a from ≡ es = ap edges_at is in
        block a.edges es from f is (sym (ap (λ l. slice_get (edges_at (slice_get (set a.edges from (set l k (record { to = e.to; reached = true }))) f)) j) mine) ∙ at) (sym (ap (λ l. slice_get l k) mine) ∙ h)

reached_indexed : (a : Assigned) (before after : Entered) (from k : ℕ) (e : Edge) → slice_get (edges_from a from) k ≡ Some e → IsIndexed before a.edges → Puts before after from e.to true
    → IsIndexed after (with_edge a from k e.to).edges
reached_indexed a before after from k e h i p = record {
  right = λ f t flag at. elim (put_cases before after from e.to true p f t) [
    | inl (ef, et) ↦
        let yes : true ≡ flag = some_is (sym (put_here before after from e.to true p) ∙ sym (ap (λ n. entered_at after n t) ef ∙ ap (entered_at after from) et) ∙ at) in
        let now : enters (with_edge a from k e.to) from e.to ≡ true = enter (with_edge a from k e.to) from k e.to (edge_reached a from k e h) in
        sym yes ∙ sym (ap (λ n. enters (with_edge a from k e.to) n t) ef ∙ ap (enters (with_edge a from k e.to) from) et ∙ now)
    | inr same ↦ elim (apart f t) [
      | inl (ef, et) ↦
          let yes : true ≡ flag = some_is (sym (put_here before after from e.to true p) ∙ sym (ap (λ n. entered_at after n t) ef ∙ ap (entered_at after from) et) ∙ at) in
          let now : enters (with_edge a from k e.to) from e.to ≡ true = enter (with_edge a from k e.to) from k e.to (edge_reached a from k e h) in
          sym yes ∙ sym (ap (λ n. enters (with_edge a from k e.to) n t) ef ∙ ap (enters (with_edge a from k e.to) from) et ∙ now)
      | inr n ↦ i.right f t flag (sym same ∙ at) ∙ others a from k e f t h n
    ]
  ];
  lists = λ f j edge at.
      let old = was_edge a from k e f j edge h at in
      put_keeps before after from e.to true p f edge.to (subst (λ n. IsSome (entered_at before f n)) old.2 (i.lists f j old.0 old.1));
}
  where
    apart : (f t : ℕ) → ((f ≡ from) × (t ≡ e.to)) ⊎ (f ≡ from → t ≡ e.to → ⊥)
    apart f t = elim (is_or_not f from) [
      | inl ef ↦ elim (is_or_not t e.to) [ inl et ↦ inl (ef, et) | inr n ↦ inr (λ x y. n y) ]
      | inr n ↦ inr (λ x y. n x)
    ]

pub opened_indexed : (a : Assigned) (before after : Entered) (from k : ℕ) (e : Edge) (row new : List Edge) → slice_get (edges_from a from) k ≡ Some e → row ≡ get_or a.edges from row
    → new ≡ set row k (record { to = e.to; reached = true }) → IsIndexed before a.edges → Puts before after from e.to true → IsIndexed after (set a.edges from new)
opened_indexed a before after from k e row new h is made i p = subst (IsIndexed after) (sym (opened_edges a from k e row new h is made)) (reached_indexed a before after from k e h i p)

-- ---- what is asked

pub none_entered : (a : Assigned) (e : Entered) (from place : ℕ) → IsIndexed e a.edges → entered_at e from place ≡ None → false ≡ enters a from place
none_entered a e from place i none = sym (by (enters a from place) refl)
  where
    by : (b : Bool) → enters a from place ≡ b → b ≡ false
    by true any =
        let found = entered a from place any in
        absurd (false≢true (sym (ap (λ (o : Option Bool). is_some_flag o) none) ∙ some_flag (entered_at e from place) (i.lists from found.0 (record { to = place; reached = true }) found.1)))
      where
        is_some_flag : Option Bool → Bool
        is_some_flag None = false
        is_some_flag (Some x) = true

        some_flag : (o : Option Bool) → IsSome o → is_some_flag o ≡ true
        some_flag None h = absurd (false≢true h)
        some_flag (Some x) h = refl
    by false any = refl

-- ---- as the code makes them

pub lists_start : (e : Entered) (from : ℕ) (edges : List Edge) → Lists e e from (take 0 edges)
lists_start e from [] = lists_none e from
lists_start e from (x ∷ xs) = lists_none e from

pub lists_all : (first after : Entered) (from n : ℕ) (edges : List Edge) → length edges ≤ n → Lists first after from (take n edges) → Lists first after from edges
lists_all first after from n edges all h = subst (Lists first after from) (take_all n edges all) h
