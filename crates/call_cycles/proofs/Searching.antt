-- The steps of the search keep what has to hold.
use Rattle.std.proofs.Common.{◌≡◌, ◌≢◌, ◌∙◌, ◌⊎◌, inl, inr, ℕ, ◌+◌, ◌-◌, ◌<◌, ◌≤◌, Bool, List, [], ◌∷◌, ◌++◌, Option, None, Some, Contains, length, set, refl, sym, ap, subst, arith}
use Rattle.std.specs.Prelude.{slice_get, slice_index}
use Rattle.std.proofs.lemmas.List.{length-set, length-append}
use Rattle.std.proofs.lemmas.List.Elements.{Contains-append_left, Contains-push, Contains-push_cases, Contains-append_cases}
use Rattle.call_cycles.specs.declared.graph.Graph.{Graph}
use Rattle.call_cycles.specs.declared.mark.Mark.{Mark}
use Rattle.call_cycles.specs.declared.mark.Mark.TheVariants.{Fresh, Open, Closed}
use Rattle.call_cycles.specs.Edges.{IsEdge, Reaches}
use Rattle.call_cycles.specs.Searching.{Rising, IsClosed, IsSettled, LeadTo, IsSearch, IsCut}
use Rattle.call_cycles.proofs.Lists.{some_is, is_or_not, less_or, within, there, index_is, set_same, set_other, index_set_other, push_here, push_old, push_cases, rising_push, rising_part, topmost, contains_none, no_last, rising_front}
use Rattle.call_cycles.proofs.Reaching.{reach_edge, reach_more}

-- ---- a node stands in one way

pub fresh_open : (marks : List Mark) (u j : ℕ) → slice_get marks u ≡ Some Fresh → slice_get marks u ≡ Some (Open j) → ⊥
fresh_open marks u j a b = let e : Some Fresh ≡ Some (Open j) = sym a ∙ b in cc

pub fresh_closed : (marks : List Mark) (u : ℕ) (flag : Bool) → slice_get marks u ≡ Some Fresh → slice_get marks u ≡ Some (Closed flag) → ⊥
fresh_closed marks u flag a b = let e : Some Fresh ≡ Some (Closed flag) = sym a ∙ b in cc

pub open_closed : (marks : List Mark) (u j : ℕ) (flag : Bool) → slice_get marks u ≡ Some (Open j) → slice_get marks u ≡ Some (Closed flag) → ⊥
open_closed marks u j flag a b = let e : Some (Open j) ≡ Some (Closed flag) = sym a ∙ b in cc

pub one_place : (marks : List Mark) (u i j : ℕ) → slice_get marks u ≡ Some (Open i) → slice_get marks u ≡ Some (Open j) → i ≡ j
one_place marks u i j a b = let e : Some (Open i) ≡ Some (Open j) = sym a ∙ b in cc

-- ---- entering

pub enters : (g : Graph) (marks : List Mark) (next stack bounds waiting : List ℕ) (v : ℕ) → IsSearch g marks next stack bounds waiting → slice_get marks v ≡ Some Fresh → LeadTo g stack v
    → IsSearch g (set marks v (Open (length stack))) next (stack ++ v ∷ []) (bounds ++ length stack ∷ []) (waiting ++ length stack ∷ [])
enters g marks next stack bounds waiting v h is lead = record {
  marks_long = omega (arith, length-set marks v (Open (length stack)), h.marks_long);
  next_long = h.next_long;
  begun = h.begun;
  opens = λ j u at. elim (push_cases stack v u j at) [
    | inl old ↦ other u (not_v j u old) ∙ h.opens j u old
    | inr (e, s) ↦ subst (λ k. slice_get after u ≡ Some (Open k)) (sym e) (subst (λ k. slice_get after k ≡ Some (Open (length stack))) s here)
  ];
  opened = λ j u at. elim (is_or_not u v) [
    | inl e ↦
        let same : length stack ≡ j = one_place after v (length stack) j here (subst (λ k. slice_get after k ≡ Some (Open j)) e at) in
        subst (λ k. slice_get (stack ++ v ∷ []) k ≡ Some u) same (subst (λ k. slice_get (stack ++ v ∷ []) (length stack) ≡ Some k) (sym e) (push_here stack v))
    | inr n ↦ push_old stack v u j (h.opened j u (sym (other u n) ∙ at))
  ];
  fresh = λ u at. h.fresh u (sym (other u (λ e. fresh_open after v (length stack) (subst (λ k. slice_get after k ≡ Some Fresh) e at) here)) ∙ at);
  forth = λ i j u w less at to. elim (push_cases stack v w j to) [
    | inl old ↦ h.forth i j u w less (earlier i j u less at (within stack j w old)) old
    | inr (e, s) ↦ subst (λ k. Reaches g u k) s (lead i u (earlier_or i j u less at e))
  ];
  back = λ i j u w less at to. elim (push_cases stack v w j to) [
    | inl old ↦ elim (h.back i j u w less (earlier i j u less at (within stack j w old)) old) [
      | inl r ↦ inl r
      | inr p ↦ inr (record { bound = p.bound; is = Contains-append_left bounds (length stack ∷ []) p.bound p.is; above = p.above; upto = p.upto })
    ]
    | inr (e, s) ↦ inr (record { bound = length stack; is = Contains-push bounds (length stack); above = omega (arith, less, e); upto = omega (arith, e) })
  ];
  followed = λ j u place w at from upto to. elim (push_cases stack v u j at) [
    | inl old ↦ elim (h.followed j u place w old from upto to) [
      | inl c ↦ inl (still w c)
      | inr a ↦ inr (record {
        place = a.place;
        is = push_old stack v w a.place a.is;
        ahead = λ bound c less. elim (Contains-push_cases bounds (length stack) bound c) [
          | inl o ↦ a.ahead bound o less
          | inr e ↦ absurd (let l : j < length stack = within stack j u old in omega (arith, e, less, l))
        ];
      })
    ]
    | inr (e, s) ↦ absurd (
        let first : slice_index next u ≡ slice_index g.starts u = h.fresh u (subst (λ k. slice_get marks k ≡ Some Fresh) s is) in
        omega (arith, first, from, upto))
  ];
  closed = λ u w c e. still w (h.closed u w (was u c) e);
  flags = λ u flag at. h.flags u flag (was_at u flag at);
  waits = λ j u at less. elim (push_cases stack v u j at) [
    | inl old ↦ Contains-append_left waiting (length stack ∷ []) j (h.waits j u old less)
    | inr (e, s) ↦ subst (Contains (waiting ++ length stack ∷ [])) (sym e) (Contains-push waiting (length stack))
  ];
  waiting_rise = rising_push waiting (length stack) h.waiting_rise h.waiting_within;
  waiting_within = λ j c. elim (Contains-push_cases waiting (length stack) j c) [
    | inl old ↦ omega (arith, h.waiting_within j old, length-append stack (v ∷ []))
    | inr e ↦ omega (arith, e, length-append stack (v ∷ []))
  ];
  bounds_rise = rising_push bounds (length stack) h.bounds_rise h.bounds_within;
  bounds_within = λ j c. elim (Contains-push_cases bounds (length stack) j c) [
    | inl old ↦ omega (arith, h.bounds_within j old, length-append stack (v ∷ []))
    | inr e ↦ omega (arith, e, length-append stack (v ∷ []))
  ];
  bounds_first = λ some. elim (less_or 0 (length stack)) [
    | inl l ↦ Contains-append_left bounds (length stack ∷ []) 0 (h.bounds_first l)
    | inr l ↦ let e : length stack ≡ 0 = omega (arith, l) in subst (Contains (bounds ++ length stack ∷ [])) e (Contains-push bounds (length stack))
  ];
}
  where
    after : List Mark
    after = set marks v (Open (length stack))

    here : slice_get after v ≡ Some (Open (length stack))
    here = set_same marks v (Open (length stack)) (within marks v Fresh is)

    other : (u : ℕ) → u ≢ v → slice_get after u ≡ slice_get marks u
    other u n = set_other marks v u (Open (length stack)) n

    not_v : (j u : ℕ) → slice_get stack j ≡ Some u → u ≢ v
    not_v j u at e = fresh_open marks v j is (subst (λ k. slice_get marks k ≡ Some (Open j)) e (h.opens j u at))

    earlier : (i j u : ℕ) → i < j → slice_get (stack ++ v ∷ []) i ≡ Some u → j < length stack → slice_get stack i ≡ Some u
    earlier i j u less at long = elim (push_cases stack v u i at) [ inl old ↦ old | inr (e, s) ↦ absurd (omega (arith, less, long, e)) ]

    earlier_or : (i j u : ℕ) → i < j → slice_get (stack ++ v ∷ []) i ≡ Some u → j ≡ length stack → slice_get stack i ≡ Some u
    earlier_or i j u less at long = elim (push_cases stack v u i at) [ inl old ↦ old | inr (e, s) ↦ absurd (omega (arith, less, long, e)) ]

    still : (w : ℕ) → IsClosed marks w → IsClosed after w
    still w c = record { flag = c.flag; is = other w (λ e. fresh_closed marks v c.flag is (subst (λ k. slice_get marks k ≡ Some (Closed c.flag)) e c.is)) ∙ c.is }

    was_at : (u : ℕ) (flag : Bool) → slice_get after u ≡ Some (Closed flag) → slice_get marks u ≡ Some (Closed flag)
    was_at u flag at = sym (other u (λ e. open_closed after v (length stack) flag here (subst (λ k. slice_get after k ≡ Some (Closed flag)) e at))) ∙ at

    was : (u : ℕ) → IsClosed after u → IsClosed marks u
    was u c = record { flag = c.flag; is = was_at u c.flag c.is }

-- the node that was entered is settled for those before
pub entered : (marks : List Mark) (stack bounds : List ℕ) (v j : ℕ) → j < length stack → ((bound : ℕ) → Contains bounds bound → bound < length stack)
    → IsSettled (set marks v (Open (length stack))) (stack ++ v ∷ []) (bounds ++ length stack ∷ []) j v
entered marks stack bounds v j less bounded = inr (record {
  place = length stack;
  is = push_here stack v;
  ahead = λ bound c below. omega (arith, below, less);
})

pub enters_fewer : (marks : List Mark) (v j : ℕ) (u : ℕ) → v < length marks → slice_get (set marks v (Open j)) u ≡ Some Fresh → slice_get marks u ≡ Some Fresh
enters_fewer marks v j u there at = elim (is_or_not u v) [
  | inl e ↦ absurd (fresh_open (set marks v (Open j)) v j (subst (λ k. slice_get (set marks v (Open j)) k ≡ Some Fresh) e at) (set_same marks v (Open j) there))
  | inr n ↦ sym (set_other marks v u (Open j) n) ∙ at
]

-- ---- following an edge

-- each open node leads to where a node of the last component leads
pub leads_on : (g : Graph) (marks : List Mark) (next stack bounds waiting : List ℕ) (j u v : ℕ) → IsSearch g marks next stack bounds waiting → slice_get stack j ≡ Some u
    → ((bound : ℕ) → Contains bounds bound → bound ≤ j) → IsEdge g u v → LeadTo g stack v
leads_on g marks next stack bounds waiting j u v h at last e i w is = elim (is_or_not i j) [
  | inl same ↦ reach_edge g w v (subst (λ k. IsEdge g k v) (some_is (sym at ∙ subst (λ k. slice_get stack k ≡ Some w) same is)) e)
  | inr n ↦ elim (less_or i j) [
    | inl l ↦ reach_more g w u v (h.forth i j w u l is at) (reach_edge g u v e)
    | inr l ↦ elim (h.back j i u w (omega (arith, l, n)) at is) [
      | inl r ↦ reach_more g w u v r (reach_edge g u v e)
      | inr p ↦ absurd (omega (arith, last p.bound p.is, p.above))
    ]
  ]
]

-- bounds are taken away where an edge leads back past them
pub joins : (g : Graph) (marks : List Mark) (next stack bounds rest waiting : List ℕ) (place v : ℕ) → IsSearch g marks next stack bounds waiting → IsCut bounds rest place
    → slice_get stack place ≡ Some v → LeadTo g stack v → IsSearch g marks next stack rest waiting
joins g marks next stack bounds rest waiting place v h cut at lead = record {
  marks_long = h.marks_long;
  next_long = h.next_long;
  begun = h.begun;
  opens = h.opens;
  opened = h.opened;
  fresh = h.fresh;
  forth = h.forth;
  back = λ i j u w less is to. elim (h.back i j u w less is to) [
    | inl r ↦ inl r
    | inr p ↦ elim (kept p.bound p.is) [
      | inl k ↦ inr (record { bound = p.bound; is = k; above = p.above; upto = p.upto })
      | inr past ↦ elim (is_or_not i place) [
        | inl same ↦ inl (subst (λ k. Reaches g w k) (some_is (sym at ∙ subst (λ k. slice_get stack k ≡ Some u) same is)) (lead j w to))
        | inr n ↦ elim (less_or place i) [
          | inl l ↦ inl (reach_more g w v u (lead j w to) (h.forth place i v u l at is))
          | inr l ↦ elim (h.back i place u v (omega (arith, l, n)) is at) [
            | inl r ↦ inl (reach_more g w v u (lead j w to) r)
            | inr q ↦ elim (kept q.bound q.is) [
              | inl k ↦ inr (record { bound = q.bound; is = k; above = q.above; upto = omega (arith, q.upto, past, p.upto) })
              | inr more ↦ absurd (omega (arith, q.upto, more))
            ]
          ]
        ]
      ]
    ]
  ];
  followed = λ j u spot w is from upto to. elim (h.followed j u spot w is from upto to) [
    | inl c ↦ inl c
    | inr a ↦ inr (record { place = a.place; is = a.is; ahead = λ b c less. a.ahead b (old b c) less })
  ];
  closed = h.closed;
  flags = h.flags;
  waits = h.waits;
  waiting_rise = h.waiting_rise;
  waiting_within = h.waiting_within;
  bounds_rise = rising_part rest cut.taken (subst Rising cut.split h.bounds_rise);
  bounds_within = λ b c. h.bounds_within b (old b c);
  bounds_first = λ some. elim (kept 0 (h.bounds_first some)) [ inl k ↦ k | inr past ↦ absurd (omega (arith, past)) ];
}
  where
    kept : (b : ℕ) → Contains bounds b → Contains rest b ⊎ (place < b)
    kept b c = elim (Contains-append_cases rest cut.taken b (subst (λ l. Contains l b) cut.split c)) [ inl k ↦ inl k | inr t ↦ inr (cut.past b t) ]

    old : (b : ℕ) → Contains rest b → Contains bounds b
    old b c = subst (λ l. Contains l b) (sym cut.split) (Contains-append_left rest cut.taken b c)

-- where no bound is behind the node that an edge leads back to, it is settled
pub joined : (marks : List Mark) (stack bounds rest : List ℕ) (place v j : ℕ) → Rising bounds → IsCut bounds rest place → ((b : ℕ) → slice_get rest (length rest - 1) ≡ Some b → b ≤ place)
    → slice_get stack place ≡ Some v → IsSettled marks stack rest j v
joined marks stack bounds rest place v j rise cut last at = inr (record { place = place; is = at; ahead = λ b c below. by (slice_get rest (length rest - 1)) refl b c })
  where
    by : (o : Option ℕ) → slice_get rest (length rest - 1) ≡ o → (b : ℕ) → Contains rest b → b ≤ place
    by None e b c = absurd (contains_none b (subst (λ l. Contains l b) (no_last rest e) c))
    by (Some top) e b c = omega (arith, topmost rest top b (rising_part rest cut.taken (subst Rising cut.split rise)) e c, last top e)

-- an edge of an open node was followed
pub follows : (g : Graph) (marks : List Mark) (next stack bounds waiting : List ℕ) (j u place v : ℕ) → IsSearch g marks next stack bounds waiting → slice_get stack j ≡ Some u → slice_get next u ≡ Some place
    → slice_get g.ends place ≡ Some v → IsSettled marks stack bounds j v → IsSearch g marks (set next u (place + 1)) stack bounds waiting
follows g marks next stack bounds waiting j u place v h at is to settled = record {
  marks_long = h.marks_long;
  next_long = omega (arith, h.next_long, length-set next u (place + 1));
  begun = λ w less. elim (is_or_not w u) [
    | inl e ↦
        let had : slice_index g.starts u ≤ slice_index next u = h.begun u (within next u place is) in
        let now : slice_index next u ≡ place = index_is next u place is in
        subst (λ k. slice_index g.starts k ≤ slice_index (set next u (place + 1)) k) (sym e) (omega (arith, had, now, here))
    | inr n ↦ subst (λ k. slice_index g.starts w ≤ k) (sym (index_set_other next u w (place + 1) n)) (h.begun w (omega (arith, less, length-set next u (place + 1))))
  ];
  opens = h.opens;
  opened = h.opened;
  fresh = λ w f. index_set_other next u w (place + 1) (λ e. fresh_open marks u j (subst (λ k. slice_get marks k ≡ Some Fresh) e f) (h.opens j u at)) ∙ h.fresh w f;
  forth = h.forth;
  back = h.back;
  followed = λ i w spot x this from upto goes. elim (is_or_not w u) [
    | inl e ↦
        let same : i ≡ j = one_place marks u i j (subst (λ k. slice_get marks k ≡ Some (Open i)) e (h.opens i w this)) (h.opens j u at) in
        let below : spot < place + 1 = subst (λ k. spot < k) here (subst (λ k. spot < slice_index (set next u (place + 1)) k) e upto) in
        elim (is_or_not spot place) [
          | inl last ↦
              let one : v ≡ x = some_is (sym to ∙ subst (λ k. slice_get g.ends k ≡ Some x) last goes) in
              subst (λ k. IsSettled marks stack bounds k x) (sym same) (subst (λ k. IsSettled marks stack bounds j k) one settled)
          | inr n ↦ h.followed i w spot x this from (let now : slice_index next w ≡ place = ap (slice_index next) e ∙ index_is next u place is in omega (arith, now, below, n)) goes
        ]
    | inr n ↦ h.followed i w spot x this from (subst (λ k. spot < k) (index_set_other next u w (place + 1) n) upto) goes
  ];
  closed = h.closed;
  flags = h.flags;
  waits = λ i w this less. elim (is_or_not w u) [
    | inl e ↦ h.waits i w this (
        let now : slice_index next w ≡ place = ap (slice_index next) e ∙ index_is next u place is in
        let then_next : slice_index (set next u (place + 1)) w ≡ place + 1 = ap (slice_index (set next u (place + 1))) e ∙ here in
        omega (arith, now, then_next, less))
    | inr n ↦ h.waits i w this (subst (λ k. k < slice_index g.starts (w + 1)) (index_set_other next u w (place + 1) n) less)
  ];
  waiting_rise = h.waiting_rise;
  waiting_within = h.waiting_within;
  bounds_rise = h.bounds_rise;
  bounds_within = h.bounds_within;
  bounds_first = h.bounds_first;
}
  where
    here : slice_index (set next u (place + 1)) u ≡ place + 1
    here = index_is (set next u (place + 1)) u (place + 1) (set_same next u (place + 1) (within next u place is))

-- a node without edges left waits no more
pub done_waiting : (g : Graph) (marks : List Mark) (next stack bounds waiting rest : List ℕ) (j u : ℕ) → IsSearch g marks next stack bounds waiting → waiting ≡ rest ++ j ∷ [] → slice_get stack j ≡ Some u
    → slice_index g.starts (u + 1) ≤ slice_index next u → IsSearch g marks next stack bounds rest
done_waiting g marks next stack bounds waiting rest j u h split at done = record {
  marks_long = h.marks_long;
  next_long = h.next_long;
  begun = h.begun;
  opens = h.opens;
  opened = h.opened;
  fresh = h.fresh;
  forth = h.forth;
  back = h.back;
  followed = h.followed;
  closed = h.closed;
  flags = h.flags;
  waits = λ i w this less. elim (Contains-push_cases rest j i (subst (λ l. Contains l i) split (h.waits i w this less))) [
    | inl k ↦ k
    | inr e ↦ absurd (let same : w ≡ u = some_is (sym this ∙ subst (λ k. slice_get stack k ≡ Some u) e at) in
        let end : slice_index g.starts (w + 1) ≤ slice_index next w = subst (λ k. slice_index g.starts (k + 1) ≤ slice_index next k) (sym same) done in omega (arith, less, end))
  ];
  waiting_rise = rising_front rest j (subst Rising split h.waiting_rise);
  waiting_within = λ i c. h.waiting_within i (subst (λ l. Contains l i) (sym split) (Contains-append_left rest (j ∷ []) i c));
  bounds_rise = h.bounds_rise;
  bounds_within = h.bounds_within;
  bounds_first = h.bounds_first;
}
