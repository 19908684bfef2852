-- One change of an assignment raises it.
use Rattle.std.proofs.Common.{◌≡◌, ◌≢◌, ◌∙◌, ◌⊎◌, inl, inr, ℕ, ◌+◌, ◌<◌, ◌≤◌, Bool, true, false, cond, List, Option, None, Some, length, set, map, refl, sym, ap, subst, arith}
use Rattle.std.specs.Prelude.{◌||◌, not, slice_get, sum_by, MatchBool}
use Rattle.std.proofs.lemmas.Bool.{false≢true}
use Rattle.std.proofs.lemmas.Option.{none-some}
use Rattle.ir_types.specs.declared.scalar.Scalar.{Scalar}
use Rattle.ir_syntax.specs.declared.body.Block.{Block}
use Rattle.fold_facts.specs.declared.fact.Fact.{Fact}
use Rattle.fold_facts.specs.declared.fact.Fact.TheVariants.{Unreached, One, Varying}
use Rattle.fold_facts.specs.declared.edge.Edge.{Edge}
use Rattle.fold_facts.specs.Facts.{IsBelow, is_same, join}
use Rattle.fold_facts.specs.Assigned.{Assigned, fact_at, fact_of, edges_at, edges_from, IsReachedEdge, IsAtMost}
use Rattle.fold_facts.specs.Operands.{Setting}
use Rattle.fold_facts.specs.Closed.{IsClosed}
use Rattle.fold_facts.specs.OfFunction.{IsFactOf, IsAssignmentIn, results_in}
use Rattle.fold_facts.specs.Raising.{with_fact, with_edge, fact_room, edge_room, room, Raises}
use Rattle.fold_facts.proofs.Lists.{some_is, is_or_not, set_same, set_other, set_is, there, within, map_set, get_map, zip_set, zip_at, zip_length, sum_set}
use Rattle.fold_facts.proofs.Orders.{below_refl, below_trans, below_of_is, join_left, join_right, join_least, join_absorbs}

-- ---- steps one after another

pub at_most_refl : (a : Assigned) → IsAtMost a a
at_most_refl a = record { facts = λ k. below_refl (fact_of a.facts k); edges = λ from k to h. h }

pub at_most_trans : (a b c : Assigned) → IsAtMost a b → IsAtMost b c → IsAtMost a c
at_most_trans a b c h g = record {
  facts = λ k. below_trans (fact_of a.facts k) (fact_of b.facts k) (fact_of c.facts k) (h.facts k) (g.facts k);
  edges = λ from k to e. g.edges from k to (h.edges from k to e);
}

pub raises_none : (setting : Setting) (blocks : List Block) (a : Assigned) → IsAssignmentIn blocks a → Raises setting blocks a a false
raises_none setting blocks a fits = record {
  above = at_most_refl a;
  fits = fits;
  within = λ other closed less. less;
  same = λ f. refl;
  falls = λ t. absurd (false≢true t);
}

pub room_most : {setting : Setting} {blocks : List Block} {a b : Assigned} (changed : Bool) → Raises setting blocks a b changed → room b ≤ room a
room_most true h = omega (arith, h.falls refl)
room_most false h = let e = ap room (h.same refl) in omega arith

pub raises_both : (setting : Setting) (blocks : List Block) (a b c : Assigned) (one other : Bool) → Raises setting blocks a b one → Raises setting blocks b c other → Raises setting blocks a c (one || other)
raises_both setting blocks a b c one other h g = record {
  above = at_most_trans a b c h.above g.above;
  fits = g.fits;
  within = λ d closed less. g.within d closed (h.within d closed less);
  same = λ f. g.same (or_false_right one other f) ∙ h.same (or_false_left one other f);
  falls = λ t. falls one other h g t;
}
  where
    or_false_left : (x y : Bool) → (x || y) ≡ false → x ≡ false
    or_false_left true y f = f
    or_false_left false y f = refl

    or_false_right : (x y : Bool) → (x || y) ≡ false → y ≡ false
    or_false_right true y f = absurd (false≢true (sym f))
    or_false_right false y f = f

    falls : (x y : Bool) → Raises setting blocks a b x → Raises setting blocks b c y → (x || y) ≡ true → room c < room a
    falls true y p q t = omega (arith, p.falls refl, room_most y q)
    falls false y p q t = omega (arith, q.falls t, room_most false p)

pub raises_three : (setting : Setting) (blocks : List Block) (a b c d : Assigned) (one other third first all : Bool) → first ≡ (one || other) → all ≡ (first || third)
    → Raises setting blocks a b one → Raises setting blocks b c other → Raises setting blocks c d third → Raises setting blocks a d all
raises_three setting blocks a b c d one other third first all is are h g k =
    subst (Raises setting blocks a d) (sym are) (raises_both setting blocks a c d first third (subst (Raises setting blocks a c) (sym is) (raises_both setting blocks a b c one other h g)) k)

-- ---- facts

pub fact_at_some : (fs : List Fact) (k : ℕ) (f : Fact) → slice_get fs k ≡ Some f → fact_of fs k ≡ f
fact_at_some fs k f h = ap fact_at h

pub room_falls : (x y : Fact) → (IsBelow y x → ⊥) → fact_room (join x y) < fact_room x
room_falls Unreached Unreached h = absurd (h tt)
room_falls Unreached (One w) h = omega arith
room_falls Unreached Varying h = omega arith
room_falls (One v) Unreached h = absurd (h tt)
room_falls (One v) (One w) h = ones (One v) (join (One v) (One w)) refl (join_left (One v) (One w)) (λ e. h (subst (λ z. IsBelow (One w) z) e (join_right (One v) (One w))))
  where
    ones : (x z : Fact) → x ≡ One v → IsBelow x z → (z ≡ One v → ⊥) → fact_room z < 1
    ones x Unreached e b n = absurd (subst (λ q. IsBelow q Unreached) e b)
    ones x (One u) e b n = absurd (n (ap One (sym (subst (λ q. IsBelow q (One u)) e b))))
    ones x Varying e b n = omega arith
room_falls (One v) Varying h = omega arith
room_falls Varying y h = absurd (h (top y))
  where
    top : (z : Fact) → IsBelow z Varying
    top Unreached = tt
    top (One u) = tt
    top Varying = tt

-- a fact of the list that has it raised
pub raised_same : (fs : List Fact) (k : ℕ) (x said : Fact) → slice_get fs k ≡ Some x → fact_of (set fs k (join (fact_of fs k) said)) k ≡ join (fact_of fs k) said
raised_same fs k x said h = fact_at_some (set fs k (join (fact_of fs k) said)) k (join (fact_of fs k) said) (set_same fs k (join (fact_of fs k) said) (within fs k x h))

pub raised_other : (fs : List Fact) (k j : ℕ) (y : Fact) → j ≢ k → fact_of (set fs k y) j ≡ fact_of fs j
raised_other fs k j y n = ap fact_at (set_other fs k j y n)

-- What is said of a result that is there is at most the fact that each closed assignment above has.
pub record IsSaid (setting : Setting) (blocks : List Block) (a : Assigned) (k : ℕ) (ty : Scalar) (said : Fact) : Type 0 where
  pub there : slice_get (results_in blocks) k ≡ Some ty
  pub suits : IsFactOf ty said
  pub least : (other : Assigned) → IsClosed setting blocks other → IsAtMost a other → IsBelow said (fact_of other.facts k)

pub joined_suits : (ty : Scalar) (x y : Fact) → IsFactOf ty x → IsFactOf ty y → IsFactOf ty (join x y)
joined_suits ty Unreached y h g = g
joined_suits ty (One v) Unreached h g = h
joined_suits ty (One v) (One w) h g = ones (is_same v w)
  where
    ones : (b : Bool) → IsFactOf ty (cond b (One v) Varying)
    ones true = h
    ones false = tt
joined_suits ty (One v) Varying h g = tt
joined_suits ty Varying y h g = tt

suits_at : (blocks : List Block) (a : Assigned) (k : ℕ) (ty : Scalar) (old : Fact) → IsAssignmentIn blocks a → slice_get (results_in blocks) k ≡ Some ty → slice_get a.facts k ≡ Some old → IsFactOf ty (fact_of a.facts k)
suits_at blocks a k ty old fits is at = subst (IsFactOf ty) (sym (fact_at_some a.facts k old at)) (zip_at IsFactOf (results_in blocks) a.facts k ty old fits.facts is at)

fact_above : (fs : List Fact) (k j : ℕ) (x said : Fact) → slice_get fs k ≡ Some x → IsBelow (fact_of fs j) (fact_of (set fs k (join (fact_of fs k) said)) j)
fact_above fs k j x said at = elim (is_or_not j k) [
  | inl e ↦ subst (λ n. IsBelow (fact_of fs n) (fact_of (set fs k (join (fact_of fs k) said)) n)) (sym e) (subst (IsBelow (fact_of fs k)) (sym (raised_same fs k x said at)) (join_left (fact_of fs k) said))
  | inr n ↦ below_of_is (fact_of fs j) (fact_of (set fs k (join (fact_of fs k) said)) j) (sym (raised_other fs k j (join (fact_of fs k) said) n))
]

fact_within : (fs gs : List Fact) (k j : ℕ) (x said : Fact) → slice_get fs k ≡ Some x → ((n : ℕ) → IsBelow (fact_of fs n) (fact_of gs n)) → IsBelow said (fact_of gs k) → IsBelow (fact_of (set fs k (join (fact_of fs k) said)) j) (fact_of gs j)
fact_within fs gs k j x said at less h = elim (is_or_not j k) [
  | inl e ↦ subst (λ n. IsBelow (fact_of (set fs k (join (fact_of fs k) said)) n) (fact_of gs n)) (sym e)
      (subst (λ f. IsBelow f (fact_of gs k)) (sym (raised_same fs k x said at)) (join_least (fact_of fs k) said (fact_of gs k) (less k) h))
  | inr n ↦ subst (λ f. IsBelow f (fact_of gs j)) (sym (raised_other fs k j (join (fact_of fs k) said) n)) (less j)
]

pub fact_same : (a : Assigned) (k : ℕ) (x said : Fact) → slice_get a.facts k ≡ Some x → IsBelow said (fact_of a.facts k) → with_fact a k said ≡ a
fact_same a k x said at h =
    let is : join (fact_of a.facts k) said ≡ x = join_absorbs (fact_of a.facts k) said h ∙ fact_at_some a.facts k x at in
    let same : set a.facts k (join (fact_of a.facts k) said) ≡ a.facts = ap (set a.facts k) is ∙ set_is a.facts k x at in
    ap (λ fs. record { facts = fs; edges = a.edges }) same

fact_falls : (a : Assigned) (k : ℕ) (x said : Fact) → slice_get a.facts k ≡ Some x → (IsBelow said (fact_of a.facts k) → ⊥) → room (with_fact a k said) < room a
fact_falls a k x said at h =
    let sum : sum_by fact_room (set a.facts k (join (fact_of a.facts k) said)) + fact_room x ≡ sum_by fact_room a.facts + fact_room (join (fact_of a.facts k) said) = sum_set fact_room a.facts k x (join (fact_of a.facts k) said) at in
    let less : fact_room (join (fact_of a.facts k) said) < fact_room (fact_of a.facts k) = room_falls (fact_of a.facts k) said h in
    let is : fact_room (fact_of a.facts k) ≡ fact_room x = ap fact_room (fact_at_some a.facts k x at) in
    omega arith

pub raises_fact : (setting : Setting) (blocks : List Block) (a : Assigned) (k : ℕ) (said : Fact) (ty : Scalar) (changed : Bool)
    → IsAssignmentIn blocks a → IsSaid setting blocks a k ty said
    → MatchBool (not changed) (IsBelow said (fact_of a.facts k)) (IsBelow said (fact_of a.facts k) → ⊥)
    → Raises setting blocks a (with_fact a k said) changed
raises_fact setting blocks a k said ty changed fits says test =
    let less : k < length a.facts = omega (arith, within (results_in blocks) k ty says.there, zip_length IsFactOf (results_in blocks) a.facts fits.facts) in
    let old = there a.facts k less in
    at_is old.0 old.1 changed test
  where
    at_is : (x : Fact) → slice_get a.facts k ≡ Some x → (c : Bool) → MatchBool (not c) (IsBelow said (fact_of a.facts k)) (IsBelow said (fact_of a.facts k) → ⊥) → Raises setting blocks a (with_fact a k said) c
    at_is x at c t = record {
      above = record { facts = λ j. fact_above a.facts k j x said at; edges = λ from j to h. h };
      fits = record {
        facts = zip_set IsFactOf (results_in blocks) a.facts k ty (join (fact_of a.facts k) said) fits.facts says.there
            (joined_suits ty (fact_of a.facts k) said (suits_at blocks a k ty x fits says.there at) says.suits);
        edges = fits.edges;
      };
      within = λ other closed less. record {
        facts = λ j. fact_within a.facts other.facts k j x said at less.facts (says.least other closed less);
        edges = less.edges;
      };
      same = λ f. same c f t;
      falls = λ f. falls c f t;
    }
      where
        same : (b : Bool) → b ≡ false → MatchBool (not b) (IsBelow said (fact_of a.facts k)) (IsBelow said (fact_of a.facts k) → ⊥) → with_fact a k said ≡ a
        same true f u = absurd (false≢true (sym f))
        same false f u = fact_same a k x said at u

        falls : (b : Bool) → b ≡ true → MatchBool (not b) (IsBelow said (fact_of a.facts k)) (IsBelow said (fact_of a.facts k) → ⊥) → room (with_fact a k said) < room a
        falls true f u = fact_falls a k x said at u
        falls false f u = absurd (false≢true f)

-- ---- edges

abbrev edge_at : Edge → ℕ
edge_at edge = edge.to

abbrev reached_to : ℕ → Edge
reached_to to = record { to = to; reached = true }

-- what the assignment has from a block
edges_with : (a : Assigned) (from k to : ℕ) (es : List Edge) → slice_get a.edges from ≡ Some es → edges_from (with_edge a from k to) from ≡ set es k (reached_to to)
edges_with a from k to es h =
    ap edges_at (set_same a.edges from (set (edges_from a from) k (reached_to to)) (within a.edges from es h)) ∙ ap (λ l. set l k (reached_to to)) (ap edges_at h)

edges_without : (a : Assigned) (from k to other : ℕ) → other ≢ from → edges_from (with_edge a from k to) other ≡ edges_from a other
edges_without a from k to other n = ap edges_at (set_other a.edges from other (set (edges_from a from) k (reached_to to)) n)

-- an edge of a block that has edges
row_of : (a : Assigned) (from k : ℕ) (e : Edge) → slice_get (edges_from a from) k ≡ Some e → (es : List Edge) × (slice_get a.edges from ≡ Some es) × (slice_get es k ≡ Some e)
row_of a from k e h = at (slice_get a.edges from) refl h
  where
    at : (o : Option (List Edge)) → slice_get a.edges from ≡ o → slice_get (edges_at o) k ≡ Some e → (es : List Edge) × (slice_get a.edges from ≡ Some es) × (slice_get es k ≡ Some e)
    at None is g = absurd (none-some e g)
    at (Some es) is g = (es, is, g)

-- the edge is reached now,
pub edge_reached : (a : Assigned) (from k : ℕ) (e : Edge) → slice_get (edges_from a from) k ≡ Some e → IsReachedEdge (with_edge a from k e.to) from k e.to
edge_reached a from k e h =
    let row = row_of a from k e h in
    ap (λ l. slice_get l k) (edges_with a from k e.to row.0 row.1) ∙ set_same row.0 k (reached_to e.to) (within row.0 k e row.2)

-- and every other is as it was.
pub edge_cases : (a : Assigned) (from k : ℕ) (e : Edge) (f j t : ℕ) → slice_get (edges_from a from) k ≡ Some e → IsReachedEdge (with_edge a from k e.to) f j t → ((f ≡ from) × (j ≡ k) × (t ≡ e.to)) ⊎ IsReachedEdge a f j t
edge_cases a from k e f j t h g = elim (is_or_not f from) [
  | inr n ↦ inr (sym (ap (λ l. slice_get l j) (edges_without a from k e.to f n)) ∙ g)
  | inl same ↦ elim (is_or_not j k) [
    | inl place ↦ inl (same, place, ap edge_to (some_is (sym (subst (λ n. slice_get (edges_from (with_edge a from k e.to) f) n ≡ Some (reached_to t)) place g) ∙ subst (λ n. slice_get (edges_from (with_edge a from k e.to) n) k ≡ Some (reached_to e.to)) (sym same) (edge_reached a from k e h))))
    | inr n ↦ inr (subst (λ m. slice_get (edges_from a m) j ≡ Some (reached_to t)) (sym same) (other (subst (λ m. slice_get (edges_from (with_edge a from k e.to) m) j ≡ Some (reached_to t)) same g) n))
  ]
]
  where
    edge_to : Edge → ℕ
    edge_to edge = edge.to

    other : slice_get (edges_from (with_edge a from k e.to) from) j ≡ Some (reached_to t) → j ≢ k → slice_get (edges_from a from) j ≡ Some (reached_to t)
    other at n =
        let row = row_of a from k e h in
        ap (λ o. slice_get (edges_at o) j) row.1 ∙ sym (set_other row.0 k j (reached_to e.to) n) ∙ sym (ap (λ l. slice_get l j) (edges_with a from k e.to row.0 row.1)) ∙ at

pub edge_above : (a : Assigned) (from k : ℕ) (e : Edge) → slice_get (edges_from a from) k ≡ Some e → (f j t : ℕ) → IsReachedEdge a f j t → IsReachedEdge (with_edge a from k e.to) f j t
edge_above a from k e h f j t g = elim (is_or_not f from) [
  | inr n ↦ ap (λ l. slice_get l j) (edges_without a from k e.to f n) ∙ g
  | inl same ↦ subst (λ m. slice_get (edges_from (with_edge a from k e.to) m) j ≡ Some (reached_to t)) (sym same) (at (subst (λ m. slice_get (edges_from a m) j ≡ Some (reached_to t)) same g))
]
  where
    at : slice_get (edges_from a from) j ≡ Some (reached_to t) → slice_get (edges_from (with_edge a from k e.to) from) j ≡ Some (reached_to t)
    at g = elim (is_or_not j k) [
      | inr n ↦
          let row = row_of a from k e h in
          ap (λ l. slice_get l j) (edges_with a from k e.to row.0 row.1) ∙ set_other row.0 k j (reached_to e.to) n ∙ sym (ap (λ o. slice_get (edges_at o) j) row.1) ∙ g
      | inl place ↦
          let is : e ≡ reached_to t = some_is (sym h ∙ subst (λ n. slice_get (edges_from a from) n ≡ Some (reached_to t)) place g) in
          subst (λ n. slice_get (edges_from (with_edge a from k e.to) from) n ≡ Some (reached_to t)) (sym place)
          (edge_reached a from k e h ∙ ap (λ d. Some (reached_to d)) (ap edge_at is))
    ]

pub edges_fit : (blocks : List Block) (a : Assigned) (from k : ℕ) (e : Edge) → IsAssignmentIn blocks a → slice_get (edges_from a from) k ≡ Some e → IsAssignmentIn blocks (with_edge a from k e.to)
edges_fit blocks a from k e fits h = record {
  facts = fits.facts;
  edges =
      let row = row_of a from k e h in
      let one : map (λ edge. edge.to) (set (edges_from a from) k (reached_to e.to)) ≡ map (λ edge. edge.to) row.0 =
      ap (λ o. map (λ edge. edge.to) (set (edges_at o) k (reached_to e.to))) row.1 ∙ map_set (λ edge. edge.to) row.0 k (reached_to e.to) ∙ set_is (map (λ edge. edge.to) row.0) k e.to (get_map (λ edge. edge.to) row.0 k e row.2) in
      map_set (λ edges. map (λ edge. edge.to) edges) a.edges from (set (edges_from a from) k (reached_to e.to))
      ∙ ap (set (map (λ edges. map (λ edge. edge.to) edges) a.edges) from) one
      ∙ set_is (map (λ edges. map (λ edge. edge.to) edges) a.edges) from (map (λ edge. edge.to) row.0) (get_map (λ edges. map (λ edge. edge.to) edges) a.edges from row.0 row.1)
      ∙ fits.edges;
}

edge_falls : (a : Assigned) (from k : ℕ) (e : Edge) → slice_get (edges_from a from) k ≡ Some e → e.reached ≡ false → room (with_edge a from k e.to) < room a
edge_falls a from k e h new =
    let row = row_of a from k e h in
    let es : edges_from a from ≡ row.0 = ap edges_at row.1 in
    let one : sum_by edge_room (set row.0 k (reached_to e.to)) + edge_room e ≡ sum_by edge_room row.0 + edge_room (reached_to e.to) = sum_set edge_room row.0 k e (reached_to e.to) row.2 in
    let all : sum_by (λ edges. sum_by edge_room edges) (set a.edges from (set (edges_from a from) k (reached_to e.to))) + sum_by edge_room row.0
    ≡ sum_by (λ edges. sum_by edge_room edges) a.edges + sum_by edge_room (set (edges_from a from) k (reached_to e.to)) =
    sum_set (λ edges. sum_by edge_room edges) a.edges from row.0 (set (edges_from a from) k (reached_to e.to)) row.1 in
    let same : sum_by edge_room (set (edges_from a from) k (reached_to e.to)) ≡ sum_by edge_room (set row.0 k (reached_to e.to)) = ap (λ l. sum_by edge_room (set l k (reached_to e.to))) es in
    let was : edge_room e ≡ 1 = ap (λ b. cond b 0 1) new in
    let now : edge_room (reached_to e.to) ≡ 0 = refl in
    omega arith

-- An edge that each closed assignment above reaches.
pub raises_edge : (setting : Setting) (blocks : List Block) (a b : Assigned) (from k : ℕ) (e : Edge) (changed : Bool)
    → IsAssignmentIn blocks a → slice_get (edges_from a from) k ≡ Some e
    → ((other : Assigned) → IsClosed setting blocks other → IsAtMost a other → IsReachedEdge other from k e.to)
    → changed ≡ not e.reached → b ≡ cond e.reached a (with_edge a from k e.to)
    → Raises setting blocks a b changed
raises_edge setting blocks a b from k e changed fits h least flag is =
    subst (λ c. Raises setting blocks a b c) (sym flag) (subst (λ x. Raises setting blocks a x (not e.reached)) (sym is) (by e.reached refl))
  where
    by : (r : Bool) → e.reached ≡ r → Raises setting blocks a (cond r a (with_edge a from k e.to)) (not r)
    by true r = raises_none setting blocks a fits
    by false r = record {
      above = record { facts = λ j. below_refl (fact_of a.facts j); edges = λ f j t g. edge_above a from k e h f j t g };
      fits = edges_fit blocks a from k e fits h;
      within = λ other closed less. record {
        facts = less.facts;
        edges = λ f j t g. elim (edge_cases a from k e f j t h g) [
          | inl (sf, sj, st) ↦ subst (λ n. IsReachedEdge other n j t) (sym sf) (subst (λ n. IsReachedEdge other from n t) (sym sj) (subst (λ n. IsReachedEdge other from k n) (sym st) (least other closed less)))
          | inr was ↦ less.edges f j t was
        ];
      };
      same = λ f. absurd (false≢true (sym f));
      falls = λ t. edge_falls a from k e h r;
    }
