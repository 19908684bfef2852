-- The steps of the search, as the code makes them.
use Rattle.std.proofs.Common.{◌≡◌, ◌∙◌, ◌↔◌, ℕ, ◌+◌, ◌-◌, ◌<◌, ◌≤◌, Bool, true, List, [], ◌∷◌, ◌++◌, Option, None, Some, IsTrue, Contains, length, set, take, drop, refl, sym, ap, subst, arith}
use Rattle.std.specs.Prelude.{slice_get, slice_index, MatchOption}
use Rattle.call_cycles.specs.declared.graph.Graph.{Graph}
use Rattle.call_cycles.specs.declared.mark.Mark.{Mark}
use Rattle.call_cycles.specs.declared.mark.Mark.TheVariants.{Fresh, Open, Closed}
use Rattle.call_cycles.specs.Edges.{IsNode, IsEdge, Reaches}
use Rattle.call_cycles.specs.Searching.{Rising, IsSearch, IsDone, IsRight, IsSettled, LeadTo, AreFewerFresh, put_all, left}
use Rattle.call_cycles.proofs.Lists.{some_is, set_same, index_is, contains_none, no_last, within, there, get_dropped, topmost, last_contained, popped, push_old}
use Rattle.call_cycles.proofs.Searching.{fresh_open, enters, entered, enters_fewer, leads_on, follows, done_waiting}
use Rattle.call_cycles.proofs.Closing.{many_reach, one_reaches, closes_fewer}
use Rattle.call_cycles.proofs.Leaving.{closes}
use Rattle.call_cycles.proofs.Counting.{left_entered, left_followed, left_closed, left_idle}
use Rattle.call_cycles.proofs.Reaching.{reach_edge}

pub search_same : (g : Graph) (marks marks' : List Mark) (next next' stack stack' bounds bounds' waiting waiting' : List ℕ) → marks' ≡ marks → next' ≡ next → stack' ≡ stack → bounds' ≡ bounds → waiting' ≡ waiting
    → IsSearch g marks next stack bounds waiting → IsSearch g marks' next' stack' bounds' waiting'
search_same g marks marks' next next' stack stack' bounds bounds' waiting waiting' m n s b w h =
    subst (λ (x : List Mark). IsSearch g x next' stack' bounds' waiting') (sym m)
    (subst (λ (x : List ℕ). IsSearch g marks x stack' bounds' waiting') (sym n)
    (subst (λ (x : List ℕ). IsSearch g marks next x bounds' waiting') (sym s)
    (subst (λ (x : List ℕ). IsSearch g marks next stack x waiting') (sym b)
    (subst (λ (x : List ℕ). IsSearch g marks next stack bounds x) (sym w) h))))

-- the node at the place j is entered
pub record IsEntered (marks marks' : List Mark) (next next' stack stack' bounds bounds' waiting waiting' : List ℕ) (v : ℕ) : Type 0 where
  pub marks_are : marks' ≡ set marks v (Open (length stack))
  pub next_are : next' ≡ next
  pub stack_is : stack' ≡ stack ++ v ∷ []
  pub bounds_are : bounds' ≡ bounds ++ length stack ∷ []
  pub waiting_are : waiting' ≡ waiting ++ length stack ∷ []

pub enter_search : (g : Graph) (marks marks' : List Mark) (next next' stack stack' bounds bounds' waiting waiting' : List ℕ) (v : ℕ) → IsEntered marks marks' next next' stack stack' bounds bounds' waiting waiting' v
    → IsSearch g marks next stack bounds waiting → slice_get marks v ≡ Some Fresh → LeadTo g stack v → IsSearch g marks' next' stack' bounds' waiting'
enter_search g marks marks' next next' stack stack' bounds bounds' waiting waiting' v e h is lead =
    search_same g _ marks' _ next' _ stack' _ bounds' _ waiting' e.marks_are e.next_are e.stack_is e.bounds_are e.waiting_are (enters g marks next stack bounds waiting v h is lead)

pub enter_fewer : (marks marks' : List Mark) (next next' stack stack' bounds bounds' waiting waiting' : List ℕ) (v : ℕ) → IsEntered marks marks' next next' stack stack' bounds bounds' waiting waiting' v
    → v < length marks → AreFewerFresh marks marks'
enter_fewer marks marks' next next' stack stack' bounds bounds' waiting waiting' v e there u at = enters_fewer marks v (length stack) u there (subst (λ (x : List Mark). slice_get x u ≡ Some Fresh) e.marks_are at)

pub enter_settled : (g : Graph) (marks marks' : List Mark) (next next' stack stack' bounds bounds' waiting waiting' : List ℕ) (v j : ℕ) → IsEntered marks marks' next next' stack stack' bounds bounds' waiting waiting' v
    → IsSearch g marks next stack bounds waiting → j < length stack → IsSettled marks' stack' bounds' j v
enter_settled g marks marks' next next' stack stack' bounds bounds' waiting waiting' v j e h less =
    subst (λ (x : List Mark). IsSettled x stack' bounds' j v) (sym e.marks_are)
    (subst (λ (x : List ℕ). IsSettled (set marks v (Open (length stack))) x bounds' j v) (sym e.stack_is)
    (subst (λ (x : List ℕ). IsSettled (set marks v (Open (length stack))) (stack ++ v ∷ []) x j v) (sym e.bounds_are) (entered marks stack bounds v j less h.bounds_within)))

pub enter_stack : (marks marks' : List Mark) (next next' stack stack' bounds bounds' waiting waiting' : List ℕ) (v : ℕ) → IsEntered marks marks' next next' stack stack' bounds bounds' waiting waiting' v
    → (j u : ℕ) → slice_get stack j ≡ Some u → slice_get stack' j ≡ Some u
enter_stack marks marks' next next' stack stack' bounds bounds' waiting waiting' v e j u at = subst (λ (x : List ℕ). slice_get x j ≡ Some u) (sym e.stack_is) (push_old stack v u j at)

pub enter_left : (g : Graph) (marks marks' : List Mark) (next next' stack stack' bounds bounds' waiting waiting' : List ℕ) (v : ℕ) → IsEntered marks marks' next next' stack stack' bounds bounds' waiting waiting' v
    → slice_get marks v ≡ Some Fresh → left g marks' next' bounds' waiting' ≤ left g marks next bounds waiting
enter_left g marks marks' next next' stack stack' bounds bounds' waiting waiting' v e is =
    let less : left g (set marks v (Open (length stack))) next (bounds ++ length stack ∷ []) (waiting ++ length stack ∷ []) < left g marks next bounds waiting = left_entered g marks next bounds waiting v (length stack) is in
    let same : left g marks' next' bounds' waiting' ≡ left g (set marks v (Open (length stack))) next (bounds ++ length stack ∷ []) (waiting ++ length stack ∷ []) =
    ap (λ x. left g x next' bounds' waiting') e.marks_are ∙ ap (λ x. left g (set marks v (Open (length stack))) x bounds' waiting') e.next_are
    ∙ ap (λ x. left g (set marks v (Open (length stack))) next x waiting') e.bounds_are ∙ ap (λ x. left g (set marks v (Open (length stack))) next (bounds ++ length stack ∷ []) x) e.waiting_are in
    below (left g marks' next' bounds' waiting') _ (left g marks next bounds waiting) same less
  where
    below : (a b c : ℕ) → a ≡ b → b < c → a ≤ c
    below a b c e l = omega (arith, e, l)

-- ---- looking at a node

pub node_there : (g : Graph) (marks : List Mark) (next stack bounds waiting : List ℕ) (j u : ℕ) → IsSearch g marks next stack bounds waiting → slice_get stack j ≡ Some u → IsNode g u × (u < length next)
node_there g marks next stack bounds waiting j u h at =
    let less : u < length marks = within marks u (Open j) (h.opens j u at) in
    (omega (arith, less, h.marks_long), omega (arith, less, h.marks_long, h.next_long))

-- its next edge
pub next_edge : (g : Graph) (marks : List Mark) (next stack bounds waiting : List ℕ) (j u v place : ℕ) → IsSearch g marks next stack bounds waiting → slice_get stack j ≡ Some u
    → slice_get next u ≡ Some place → place < slice_index g.starts (u + 1) → slice_get g.ends place ≡ Some v → IsEdge g u v
next_edge g marks next stack bounds waiting j u v place h at is upto to =
    let now : slice_index next u ≡ place = index_is next u place is in
    let had : slice_index g.starts u ≤ slice_index next u = h.begun u (within next u place is) in
    record { place = place; from = omega (arith, now, had); upto = upto; to = to }

pub next_leads : (g : Graph) (marks : List Mark) (next stack bounds waiting : List ℕ) (j u v place : ℕ) → IsSearch g marks next stack bounds waiting → slice_get stack j ≡ Some u
    → ((bound : ℕ) → Contains bounds bound → bound ≤ j) → slice_get next u ≡ Some place → place < slice_index g.starts (u + 1) → slice_get g.ends place ≡ Some v → LeadTo g stack v
next_leads g marks next stack bounds waiting j u v place h at last is upto to = leads_on g marks next stack bounds waiting j u v h at last (next_edge g marks next stack bounds waiting j u v place h at is upto to)

-- once it was followed
pub looked_search : (g : Graph) (marks marks' : List Mark) (next next' stack stack' bounds bounds' waiting waiting' : List ℕ) (last : List ℕ) (j u v place : ℕ) → IsSearch g marks' next' stack' bounds' waiting'
    → slice_get stack j ≡ Some u → ((i w : ℕ) → slice_get stack i ≡ Some w → slice_get stack' i ≡ Some w) → next' ≡ next → slice_get next u ≡ Some place → slice_get g.ends place ≡ Some v
    → IsSettled marks' stack' bounds' j v → last ≡ set next' u (place + 1) → IsSearch g marks' last stack' bounds' waiting'
looked_search g marks marks' next next' stack stack' bounds bounds' waiting waiting' last j u v place h at kept same is to settled e =
    subst (λ (x : List ℕ). IsSearch g marks' x stack' bounds' waiting') (sym e)
    (follows g marks' next' stack' bounds' waiting' j u place v h (kept j u at) (ap (λ l. slice_get l u) same ∙ is) to settled)

pub looked_left : (g : Graph) (marks marks' : List Mark) (next next' bounds bounds' waiting waiting' last : List ℕ) (u place : ℕ) → next' ≡ next → slice_get next u ≡ Some place → place < slice_index g.starts (u + 1)
    → left g marks' next' bounds' waiting' ≤ left g marks next bounds waiting → last ≡ set next' u (place + 1) → left g marks' last bounds' waiting' < left g marks next bounds waiting
looked_left g marks marks' next next' bounds bounds' waiting waiting' last u place same is upto most e =
    below (left g marks' last bounds' waiting') (left g marks' (set next' u (place + 1)) bounds' waiting') (left g marks' next' bounds' waiting') (left g marks next bounds waiting) (ap (λ x. left g marks' x bounds' waiting') e)
    (left_followed g marks' next' bounds' waiting' u place (ap (λ l. slice_get l u) same ∙ is) upto) most
  where
    below : (a b c d : ℕ) → a ≡ b → b < c → c ≤ d → a < d
    below a b c d e l m = omega (arith, e, l, m)

pub idle_search : (g : Graph) (marks : List Mark) (next stack bounds waiting waiting' : List ℕ) (taken : Option ℕ) (j u place : ℕ) → IsSearch g marks next stack bounds waiting → slice_get waiting (length waiting - 1) ≡ Some j
    → MatchOption taken ((waiting ≡ []) × (waiting' ≡ [])) (λ last. waiting ≡ waiting' ++ last ∷ []) → slice_get stack j ≡ Some u → slice_get next u ≡ Some place → slice_index g.starts (u + 1) ≤ place
    → IsSearch g marks next stack bounds waiting' × (left g marks next bounds waiting' < left g marks next bounds waiting)
idle_search g marks next stack bounds waiting waiting' taken j u place h last pop at is done =
    let split = popped waiting waiting' taken j pop last in (
      done_waiting g marks next stack bounds waiting waiting' j u h split at (let now : slice_index next u ≡ place = index_is next u place is in omega (arith, now, done)),
      left_idle g marks next bounds waiting waiting' j split,
    )

-- ---- where the last component is looked at

pub last_place : (bounds : List ℕ) (bound j : ℕ) → Rising bounds → slice_get bounds (length bounds - 1) ≡ Some bound → bound ≤ j → (b : ℕ) → Contains bounds b → b ≤ j
last_place bounds bound j rise last less b c = let most : b ≤ bound = topmost bounds bound b rise last c in omega (arith, most, less)

pub is_done : (g : Graph) (marks : List Mark) (next stack bounds waiting : List ℕ) (bound j : ℕ) → IsSearch g marks next stack bounds waiting → slice_get bounds (length bounds - 1) ≡ Some bound
    → slice_get waiting (length waiting - 1) ≡ Some j → j < bound → IsDone g marks next stack bounds waiting bound
is_done g marks next stack bounds waiting bound j h last top less = record {
  search = h;
  last = last;
  idle = λ i c. let most : i ≤ j = topmost waiting j i h.waiting_rise top c in omega (arith, most, less);
}

pub is_done_none : (g : Graph) (marks : List Mark) (next stack bounds waiting : List ℕ) (bound : ℕ) → IsSearch g marks next stack bounds waiting → slice_get bounds (length bounds - 1) ≡ Some bound
    → slice_get waiting (length waiting - 1) ≡ None → IsDone g marks next stack bounds waiting bound
is_done_none g marks next stack bounds waiting bound h last none = record {
  search = h;
  last = last;
  idle = λ i c. absurd (contains_none i (subst (λ l. Contains l i) (no_last waiting none) c));
}

-- ---- where it is closed

pub done_there : (g : Graph) (marks : List Mark) (next stack bounds waiting : List ℕ) (bound : ℕ) → IsDone g marks next stack bounds waiting bound → bound < length stack
done_there g marks next stack bounds waiting bound d = d.search.bounds_within bound (last_contained bounds bound d.last)

pub done_nodes : (g : Graph) (marks : List Mark) (next stack bounds waiting : List ℕ) (bound k u : ℕ) → IsDone g marks next stack bounds waiting bound → slice_get (drop bound stack) k ≡ Some u → u < length marks
done_nodes g marks next stack bounds waiting bound k u d at = within marks u (Open (bound + k)) (d.search.opens (bound + k) u (sym (get_dropped stack bound k (bound + k) refl) ∙ at))

pub close_search : (g : Graph) (marks marks' : List Mark) (next stack stack' bounds bounds' waiting : List ℕ) (taken : Option ℕ) (bound : ℕ) (whole : Bool) → IsDone g marks next stack bounds waiting bound
    → IsRight g stack bound whole → MatchOption taken ((bounds ≡ []) × (bounds' ≡ [])) (λ last. bounds ≡ bounds' ++ last ∷ []) → marks' ≡ put_all (drop bound stack) (Closed whole) marks → stack' ≡ take bound stack
    → IsSearch g marks' next stack' bounds' waiting
close_search g marks marks' next stack stack' bounds bounds' waiting taken bound whole d right pop m s =
    search_same g _ marks' next next _ stack' bounds' bounds' waiting waiting m refl s refl refl (closes g marks next stack bounds waiting bounds' bound whole d (popped bounds bounds' taken bound pop d.last) right)

pub close_fewer : (g : Graph) (marks marks' : List Mark) (next stack bounds waiting : List ℕ) (bound : ℕ) (whole : Bool) → IsDone g marks next stack bounds waiting bound
    → marks' ≡ put_all (drop bound stack) (Closed whole) marks → AreFewerFresh marks marks'
close_fewer g marks marks' next stack bounds waiting bound whole d m u at = closes_fewer g marks next stack bounds waiting bound u whole d.search (subst (λ (x : List Mark). slice_get x u ≡ Some Fresh) m at)

pub close_left : (g : Graph) (marks marks' : List Mark) (next stack bounds bounds' waiting : List ℕ) (taken : Option ℕ) (bound : ℕ) (whole : Bool) → IsDone g marks next stack bounds waiting bound
    → MatchOption taken ((bounds ≡ []) × (bounds' ≡ [])) (λ last. bounds ≡ bounds' ++ last ∷ []) → marks' ≡ put_all (drop bound stack) (Closed whole) marks
    → left g marks' next bounds' waiting < left g marks next bounds waiting
close_left g marks marks' next stack bounds bounds' waiting taken bound whole d pop m =
    subst (λ (x : List Mark). left g x next bounds' waiting < left g marks next bounds waiting) (sym m)
    (left_closed g marks next bounds bounds' waiting (drop bound stack) bound whole (popped bounds bounds' taken bound pop d.last))

pub right_many : (g : Graph) (marks : List Mark) (next stack bounds waiting : List ℕ) (bound : ℕ) → IsDone g marks next stack bounds waiting bound → bound + 1 < length stack → IsRight g stack bound true
right_many g marks next stack bounds waiting bound d many = record { right = λ j u l at. (λ t. many_reach g marks next stack bounds waiting bound j u d many l at, λ r. refl) }

pub right_one : (g : Graph) (marks : List Mark) (next stack bounds waiting : List ℕ) (bound u : ℕ) (whole : Bool) → IsDone g marks next stack bounds waiting bound → length stack ≤ bound + 1 → slice_get stack bound ≡ Some u
    → IsTrue whole ↔ IsEdge g u u → IsRight g stack bound whole
right_one g marks next stack bounds waiting bound u whole d one at is = record {
  right = λ j w l here.
      let same : j ≡ bound = let less : j < length stack = within stack j w here in omega (arith, l, less, one) in
      let node : u ≡ w = some_is (sym at ∙ subst (λ k. slice_get stack k ≡ Some w) same here) in
      subst (λ k. IsTrue whole ↔ Reaches g k k) node
      (λ t. reach_edge g u u (is.0 t), λ r. is.1 (one_reaches g marks next stack bounds waiting bound u d one at r));
}

pub enter_not_fresh : (marks marks' : List Mark) (stack : List ℕ) (v : ℕ) → v < length marks → marks' ≡ set marks v (Open (length stack)) → slice_get marks' v ≡ Some Fresh → ⊥
enter_not_fresh marks marks' stack v less e at =
    fresh_open marks' v (length stack) at (ap (λ l. slice_get l v) e ∙ set_same marks v (Open (length stack)) less)
