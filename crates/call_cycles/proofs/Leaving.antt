-- What has to hold still holds once a component is closed.
use Rattle.std.proofs.Common.{◌≡◌, ◌∙◌, ◌⊎◌, ◌↔◌, inl, inr, ℕ, ◌<◌, ◌≤◌, Bool, List, [], ◌∷◌, ◌++◌, Some, IsTrue, Contains, length, take, drop, sym, subst, arith}
use Rattle.std.specs.Prelude.{slice_get}
use Rattle.std.proofs.lemmas.List.Elements.{Contains-append_left, Contains-push_cases}
use Rattle.call_cycles.specs.declared.graph.Graph.{Graph}
use Rattle.call_cycles.specs.declared.mark.Mark.{Mark}
use Rattle.call_cycles.specs.declared.mark.Mark.TheVariants.{Fresh, Closed}
use Rattle.call_cycles.specs.Edges.{Reaches}
use Rattle.call_cycles.specs.Searching.{Rising, IsClosed, IsSearch, IsDone, IsRight, put_all}
use Rattle.call_cycles.proofs.Lists.{last_contained, less_or, taken_get, get_taken, taken_long, rising_front, rising_below, put_long}
use Rattle.call_cycles.proofs.Searching.{open_closed, one_place}
use Rattle.call_cycles.proofs.Closing.{stays, side, closed_in, closed_out}

pub closes : (g : Graph) (marks : List Mark) (next stack bounds waiting rest : List ℕ) (bound : ℕ) (whole : Bool) → IsDone g marks next stack bounds waiting bound → bounds ≡ rest ++ bound ∷ [] → IsRight g stack bound whole
    → IsSearch g (put_all (drop bound stack) (Closed whole) marks) next (take bound stack) rest waiting
closes g marks next stack bounds waiting rest bound whole d split right = record {
  marks_long = omega (arith, put_long (drop bound stack) (Closed whole) marks, h.marks_long);
  next_long = h.next_long;
  begun = h.begun;
  opens = λ j u at. let was = taken_get stack bound j u at in out u (λ k l is. apart j k u was.0 l was.1 is) ∙ h.opens j u was.1;
  opened = λ j u at. elim (part u) [
    | inl (k, l, is) ↦ absurd (open_closed after u j whole at (inside k u l is))
    | inr none ↦
        let was : slice_get stack j ≡ Some u = h.opened j u (sym (out u none) ∙ at) in
        elim (less_or j bound) [ inl less ↦ get_taken stack bound j u was less | inr l ↦ absurd (none j l was) ]
  ];
  fresh = λ u at. elim (part u) [
    | inl (k, l, is) ↦ absurd (let e : Some Fresh ≡ Some (Closed whole) = sym at ∙ inside k u l is in cc)
    | inr none ↦ h.fresh u (sym (out u none) ∙ at)
  ];
  forth = λ i j u v less is to. h.forth i j u v less (taken_get stack bound i u is).1 (taken_get stack bound j v to).1;
  back = λ i j u v less is to.
      let last = taken_get stack bound j v to in
      elim (h.back i j u v less (taken_get stack bound i u is).1 last.1) [
        | inl r ↦ inl r
        | inr p ↦ elim (kept p.bound p.is) [
          | inl k ↦ inr (record { bound = p.bound; is = k; above = p.above; upto = p.upto })
          | inr e ↦ absurd (omega (arith, last.0, p.upto, e))
        ]
      ];
  followed = λ j u place v at from upto to. elim (h.followed j u place v (taken_get stack bound j u at).1 from upto to) [
    | inl c ↦ inl (still v c)
    | inr a ↦ elim (less_or a.place bound) [
      | inl less ↦ inr (record { place = a.place; is = get_taken stack bound a.place v a.is less; ahead = λ b c below. a.ahead b (old b c) below })
      | inr l ↦ inl (record { flag = whole; is = inside a.place v l a.is })
    ]
  ];
  closed = λ u v c e. elim (part u) [
    | inl (j, l, at) ↦ elim (stays g marks next stack bounds waiting bound j u v d l at e) [
      | inl k ↦ still v k
      | inr (k, more, is) ↦ record { flag = whole; is = inside k v more is }
    ]
    | inr none ↦ still v (h.closed u v (record { flag = c.flag; is = sym (out u none) ∙ c.is }) e)
  ];
  flags = λ u flag at. elim (part u) [
    | inl (j, l, is) ↦
        let same : whole ≡ flag = let e : Some (Closed whole) ≡ Some (Closed flag) = sym (inside j u l is) ∙ at in cc in
        subst (λ f. IsTrue f ↔ Reaches g u u) same (right.right j u l is)
    | inr none ↦ h.flags u flag (sym (out u none) ∙ at)
  ];
  waits = λ j u at less. h.waits j u (taken_get stack bound j u at).1 less;
  waiting_rise = h.waiting_rise;
  waiting_within = λ j c. let less : j < bound = d.idle j c in omega (arith, less, long);
  bounds_rise = rising_front rest bound (subst Rising split h.bounds_rise);
  bounds_within = λ b c. let less : b < bound = rising_below rest bound b (subst Rising split h.bounds_rise) c in omega (arith, less, long);
  bounds_first = λ some. elim (kept 0 (h.bounds_first (omega (arith, some, long, bound_within)))) [ inl k ↦ k | inr e ↦ absurd (omega (arith, some, long, e)) ];
}
  where
    h : IsSearch g marks next stack bounds waiting
    h = d.search

    after : List Mark
    after = put_all (drop bound stack) (Closed whole) marks

    bound_within : bound < length stack
    bound_within = d.search.bounds_within bound (last_contained bounds bound d.last)

    long : length (take bound stack) ≡ bound
    long = taken_long stack bound (omega (arith, bound_within))

    part : (u : ℕ) → ((j : ℕ) × (bound ≤ j) × (slice_get stack j ≡ Some u)) ⊎ ((j : ℕ) → bound ≤ j → slice_get stack j ≡ Some u → ⊥)
    part u = side g marks next stack bounds waiting bound u d.search

    inside : (j u : ℕ) → bound ≤ j → slice_get stack j ≡ Some u → slice_get after u ≡ Some (Closed whole)
    inside j u l at = closed_in g marks next stack bounds waiting bound j u whole d.search l at

    out : (u : ℕ) → ((j : ℕ) → bound ≤ j → slice_get stack j ≡ Some u → ⊥) → slice_get after u ≡ slice_get marks u
    out u none = closed_out marks stack bound u whole none

    apart : (j k u : ℕ) → j < bound → bound ≤ k → slice_get stack j ≡ Some u → slice_get stack k ≡ Some u → ⊥
    apart j k u less l at is = let same : j ≡ k = one_place marks u j k (d.search.opens j u at) (d.search.opens k u is) in omega (arith, less, l, same)

    still : (v : ℕ) → IsClosed marks v → IsClosed after v
    still v c = record { flag = c.flag; is = out v (λ j l at. open_closed marks v j c.flag (d.search.opens j v at) c.is) ∙ c.is }

    kept : (b : ℕ) → Contains bounds b → Contains rest b ⊎ (bound ≡ b)
    kept b c = Contains-push_cases rest bound b (subst (λ l. Contains l b) split c)

    old : (b : ℕ) → Contains rest b → Contains bounds b
    old b c = subst (λ l. Contains l b) (sym split) (Contains-append_left rest (bound ∷ []) b c)
