-- How the search begins and ends.
use Rattle.std.proofs.Common.{◌≡◌, ◌∙◌, inl, inr, ℕ, ◌+◌, ◌<◌, List, [], ◌∷◌, ◌++◌, Some, Contains, length, refl, ap, subst, arith}
use Rattle.std.specs.Prelude.{slice_get, slice_index}
use Rattle.std.proofs.lemmas.Option.{none-some}
use Rattle.std.proofs.lemmas.List.{length-append}
use Rattle.call_cycles.specs.declared.graph.Graph.{Graph}
use Rattle.call_cycles.specs.declared.mark.Mark.{Mark}
use Rattle.call_cycles.specs.declared.mark.Mark.TheVariants.{Fresh, Open, Closed}
use Rattle.call_cycles.specs.Searching.{IsSearch, IsMarked, AreMarked}
use Rattle.call_cycles.proofs.Lists.{less_or, within, there, index_there, index_is, push_here, push_old, contains_none}
use Rattle.call_cycles.proofs.Searching.{fresh_open, fresh_closed}

-- the first n nodes
pub record IsStart (g : Graph) (marks : List Mark) (next : List ℕ) (n : ℕ) : Type 0 where
  pub marks_long : length marks ≡ n
  pub next_long : length next ≡ n
  pub fresh : (u : ℕ) → u < n → slice_get marks u ≡ Some Fresh
  pub first : (u : ℕ) → u < n → slice_index next u ≡ slice_index g.starts u

pub start_none : (g : Graph) → IsStart g [] [] 0
start_none g = record { marks_long = refl; next_long = refl; fresh = λ u less. absurd (omega (arith, less)); first = λ u less. absurd (omega (arith, less)) }

pub start_more : (g : Graph) (marks : List Mark) (next : List ℕ) (n first : ℕ) → first ≡ slice_index g.starts n → IsStart g marks next n → IsStart g (marks ++ Fresh ∷ []) (next ++ first ∷ []) (n + 1)
start_more g marks next n first is h = record {
  marks_long = omega (arith, h.marks_long, length-append marks (Fresh ∷ []));
  next_long = omega (arith, h.next_long, length-append next (first ∷ []));
  fresh = λ u less. elim (less_or u n) [
    | inl l ↦ push_old marks Fresh Fresh u (h.fresh u l)
    | inr l ↦ subst (λ k. slice_get (marks ++ Fresh ∷ []) k ≡ Some Fresh) (omega (arith, l, less, h.marks_long)) (push_here marks Fresh)
  ];
  first = λ u less. elim (less_or u n) [
    | inl l ↦ index_is (next ++ first ∷ []) u (slice_index next u) (push_old next first (slice_index next u) u (index_there next u (omega (arith, l, h.next_long)))) ∙ h.first u l
    | inr l ↦
        let e : length next ≡ u = omega (arith, l, less, h.next_long) in
        index_is (next ++ first ∷ []) u first (subst (λ k. slice_get (next ++ first ∷ []) k ≡ Some first) e (push_here next first)) ∙ is ∙ ap (slice_index g.starts) (omega (arith, l, less))
  ];
}

pub start_search : (g : Graph) (marks : List Mark) (next : List ℕ) (n : ℕ) → IsStart g marks next n → n + 1 ≡ length g.starts → IsSearch g marks next [] [] []
start_search g marks next n h long = record {
  marks_long = omega (arith, h.marks_long, long);
  next_long = omega (arith, h.next_long, long);
  begun = λ u less. let first : slice_index next u ≡ slice_index g.starts u = h.first u (omega (arith, less, h.next_long)) in omega (arith, first);
  opens = λ j u at. absurd (none-some u at);
  opened = λ j u at. absurd (fresh_open marks u j (fresh u (Open j) at) at);
  fresh = λ u at. h.first u (omega (arith, within marks u Fresh at, h.marks_long));
  forth = λ i j u v less at. absurd (none-some u at);
  back = λ i j u v less at. absurd (none-some u at);
  followed = λ j u place v at. absurd (none-some u at);
  closed = λ u v c e. absurd (fresh_closed marks u c.flag (fresh u (Closed c.flag) c.is) c.is);
  flags = λ u flag at. absurd (fresh_closed marks u flag (fresh u (Closed flag) at) at);
  waits = λ j u at. absurd (none-some u at);
  waiting_rise = tt;
  waiting_within = λ j c. absurd (contains_none j c);
  bounds_rise = tt;
  bounds_within = λ j c. absurd (contains_none j c);
  bounds_first = λ some. absurd (omega (arith, some));
}
  where
    fresh : (u : ℕ) (mark : Mark) → slice_get marks u ≡ Some mark → slice_get marks u ≡ Some Fresh
    fresh u mark at = h.fresh u (omega (arith, within marks u mark at, h.marks_long))

pub all_marked : (g : Graph) (marks : List Mark) (next stack bounds waiting : List ℕ) (n : ℕ) → IsSearch g marks next stack bounds waiting → stack ≡ [] → n + 1 ≡ length g.starts
    → ((u : ℕ) → u < n → slice_get marks u ≡ Some Fresh → ⊥) → AreMarked g marks
all_marked g marks next stack bounds waiting n h none long visited = record {
  long = h.marks_long;
  each = λ u node. let mark = there marks u (omega (arith, node, h.marks_long)) in by u mark.0 (omega (arith, node, long)) mark.1;
}
  where
    by : (u : ℕ) (mark : Mark) → u < n → slice_get marks u ≡ Some mark → IsMarked g marks u
    by u Fresh less at = absurd (visited u less at)
    by u (Open j) less at = absurd (none-some u (subst (λ l. slice_get l j ≡ Some u) none (h.opened j u at)))
    by u (Closed flag) less at = record { flag = flag; is = at; right = h.flags u flag at }

pub no_stack : (g : Graph) (marks : List Mark) (next stack bounds waiting : List ℕ) → IsSearch g marks next stack bounds waiting → bounds ≡ [] → stack ≡ []
no_stack g marks next [] bounds waiting h none = refl
no_stack g marks next (x ∷ xs) bounds waiting h none = absurd (contains_none 0 (subst (λ l. Contains l 0) none (h.bounds_first (omega arith))))
