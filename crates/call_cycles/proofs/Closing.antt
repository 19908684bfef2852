-- A component is closed.
use Rattle.std.proofs.Common.{◌≡◌, ◌∙◌, ◌⊎◌, inl, inr, ℕ, ◌+◌, ◌-◌, ◌<◌, ◌≤◌, Bool, List, Option, None, Some, length, drop, refl, sym, subst, arith}
use Rattle.std.specs.Prelude.{slice_get, slice_index}
use Rattle.std.proofs.lemmas.Option.{none-some}
use Rattle.call_cycles.specs.declared.graph.Graph.{Graph}
use Rattle.call_cycles.specs.declared.mark.Mark.{Mark}
use Rattle.call_cycles.specs.declared.mark.Mark.TheVariants.{Fresh, Open, Closed}
use Rattle.call_cycles.specs.Edges.{IsEdge, Reaches}
use Rattle.call_cycles.specs.Searching.{IsClosed, IsParted, IsSearch, IsDone, put_all}
use Rattle.call_cycles.proofs.Lists.{last_contained, topmost, some_is, is_or_not, less_or, within, there, get_dropped, put_in, put_out}
use Rattle.call_cycles.proofs.Reaching.{reach_more, reach_keeps, reach_first}
use Rattle.call_cycles.proofs.Searching.{fresh_open, open_closed, one_place}

-- an edge of the component was followed, so it stays there or leads to a closed node
pub stays : (g : Graph) (marks : List Mark) (next stack bounds waiting : List ℕ) (bound j u v : ℕ) → IsDone g marks next stack bounds waiting bound → bound ≤ j → slice_get stack j ≡ Some u → IsEdge g u v
    → IsClosed marks v ⊎ ((k : ℕ) × (bound ≤ k) × (slice_get stack k ≡ Some v))
stays g marks next stack bounds waiting bound j u v d above at e =
    let h = d.search in
    elim (less_or (slice_index next u) (slice_index g.starts (u + 1))) [
      | inl l ↦ absurd (let less : j < bound = d.idle j (h.waits j u at l) in omega (arith, above, less))
      | inr l ↦ elim (h.followed j u e.place v at e.from (omega (arith, e.upto, l)) e.to) [
        | inl c ↦ inl c
        | inr a ↦ inr (a.place, a.ahead bound (last_contained bounds bound d.last) above, a.is)
      ]
    ]

-- where it has two nodes, each is on a cycle
pub many_reach : (g : Graph) (marks : List Mark) (next stack bounds waiting : List ℕ) (bound j u : ℕ) → IsDone g marks next stack bounds waiting bound → bound + 1 < length stack → bound ≤ j
    → slice_get stack j ≡ Some u → Reaches g u u
many_reach g marks next stack bounds waiting bound j u d many above at =
    let h = d.search in
    elim (is_or_not j bound) [
      | inl same ↦
          let other = there stack (bound + 1) many in
          let one : slice_get stack bound ≡ Some u = subst (λ k. slice_get stack k ≡ Some u) same at in
          round h bound (bound + 1) u other.0 (omega arith) one other.1 (omega arith)
      | inr n ↦
          let first = there stack bound (omega (arith, many)) in
          turn h bound j first.0 u (omega (arith, above, n)) first.1 at (omega arith)
    ]
  where
    apart : (i k : ℕ) → IsSearch g marks next stack bounds waiting → bound ≤ i → IsParted bounds i k → ⊥
    apart i k h l p = let less : p.bound ≤ bound = topmost bounds bound p.bound h.bounds_rise d.last p.is in omega (arith, less, p.above, l)

    round : IsSearch g marks next stack bounds waiting → (i k v w : ℕ) → i < k → slice_get stack i ≡ Some v → slice_get stack k ≡ Some w → bound ≤ i → Reaches g v v
    round h i k v w less is to l = elim (h.back i k v w less is to) [
      | inl r ↦ reach_more g v w v (h.forth i k v w less is to) r
      | inr p ↦ absurd (apart i k h l p)
    ]

    turn : IsSearch g marks next stack bounds waiting → (i k v w : ℕ) → i < k → slice_get stack i ≡ Some v → slice_get stack k ≡ Some w → bound ≤ i → Reaches g w w
    turn h i k v w less is to l = elim (h.back i k v w less is to) [
      | inl r ↦ reach_more g w v w r (h.forth i k v w less is to)
      | inr p ↦ absurd (apart i k h l p)
    ]

-- where it has one alone, that is on a cycle where an edge leads to itself
pub one_reaches : (g : Graph) (marks : List Mark) (next stack bounds waiting : List ℕ) (bound u : ℕ) → IsDone g marks next stack bounds waiting bound → length stack ≤ bound + 1
    → slice_get stack bound ≡ Some u → Reaches g u u → IsEdge g u u
one_reaches g marks next stack bounds waiting bound u d one at r =
    let h = d.search in
    let first = reach_first g u u r in
    elim (stays g marks next stack bounds waiting bound bound u first.0 d (omega arith) at first.1) [
      | inl c ↦ absurd (elim first.2 [
        | inl e ↦ let k : IsClosed marks u = subst (IsClosed marks) e c in open_closed marks u bound k.flag (h.opens bound u at) k.is
        | inr more ↦ let k : IsClosed marks u = reach_keeps g (IsClosed marks) first.0 u h.closed c more in open_closed marks u bound k.flag (h.opens bound u at) k.is
      ])
      | inr (k, l, is) ↦
          let same : k ≡ bound = let less : k < length stack = within stack k first.0 is in omega (arith, l, less, one) in
          let to : first.0 ≡ u = some_is (sym is ∙ subst (λ i. slice_get stack i ≡ Some u) (sym same) at) in
          subst (IsEdge g u) to first.1
    ]

-- ---- what is marked when it is closed

-- a node is of the component or not
pub side : (g : Graph) (marks : List Mark) (next stack bounds waiting : List ℕ) (bound u : ℕ) → IsSearch g marks next stack bounds waiting
    → ((j : ℕ) × (bound ≤ j) × (slice_get stack j ≡ Some u)) ⊎ ((j : ℕ) → bound ≤ j → slice_get stack j ≡ Some u → ⊥)
side g marks next stack bounds waiting bound u h = by (slice_get marks u) refl
  where
    by : (o : Option Mark) → slice_get marks u ≡ o → ((j : ℕ) × (bound ≤ j) × (slice_get stack j ≡ Some u)) ⊎ ((j : ℕ) → bound ≤ j → slice_get stack j ≡ Some u → ⊥)
    by None e = inr (λ j l at. none-some (Open j) (sym e ∙ h.opens j u at))
    by (Some Fresh) e = inr (λ j l at. fresh_open marks u j e (h.opens j u at))
    by (Some (Open k)) e = elim (less_or k bound) [
      | inl less ↦ inr (λ j l at. let same : k ≡ j = one_place marks u k j e (h.opens j u at) in omega (arith, less, l, same))
      | inr l ↦ inl (k, l, h.opened k u e)
    ]
    by (Some (Closed flag)) e = inr (λ j l at. open_closed marks u j flag (h.opens j u at) e)

pub closed_in : (g : Graph) (marks : List Mark) (next stack bounds waiting : List ℕ) (bound j u : ℕ) (whole : Bool) → IsSearch g marks next stack bounds waiting → bound ≤ j → slice_get stack j ≡ Some u
    → slice_get (put_all (drop bound stack) (Closed whole) marks) u ≡ Some (Closed whole)
closed_in g marks next stack bounds waiting bound j u whole h l at =
    put_in (drop bound stack) (Closed whole) marks (j - bound) u (get_dropped stack bound (j - bound) j (omega (arith, l)) ∙ at) (within marks u (Open j) (h.opens j u at))

pub closed_out : (marks : List Mark) (stack : List ℕ) (bound u : ℕ) (whole : Bool) → ((j : ℕ) → bound ≤ j → slice_get stack j ≡ Some u → ⊥)
    → slice_get (put_all (drop bound stack) (Closed whole) marks) u ≡ slice_get marks u
closed_out marks stack bound u whole none = put_out (drop bound stack) (Closed whole) marks u (λ i is. none (bound + i) (omega arith) (sym (get_dropped stack bound i (bound + i) refl) ∙ is))

pub closes_fewer : (g : Graph) (marks : List Mark) (next stack bounds waiting : List ℕ) (bound u : ℕ) (whole : Bool) → IsSearch g marks next stack bounds waiting
    → slice_get (put_all (drop bound stack) (Closed whole) marks) u ≡ Some Fresh → slice_get marks u ≡ Some Fresh
closes_fewer g marks next stack bounds waiting bound u whole h at = elim (side g marks next stack bounds waiting bound u h) [
  | inl (j, l, is) ↦ absurd (let e : Some Fresh ≡ Some (Closed whole) = sym at ∙ closed_in g marks next stack bounds waiting bound j u whole h l is in cc)
  | inr none ↦ sym (closed_out marks stack bound u whole none) ∙ at
]
