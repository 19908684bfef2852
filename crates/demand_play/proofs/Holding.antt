-- What the table holds after some events decides which event is legal next, and is kept by it.
use Rattle.std.proofs.Common.{◌≡◌, ℕ, ◌<◌, ◌↔◌, ⊎_elim, Bool, List, [], ◌∷◌, ◌++◌, Contains, length, get_or, slice_get, set, bytes_eq, IsTrue, true, false, if◌then◌else◌, sym, ap, subst, ◌∙◌, refl, arith, length-append, ne_eqb, true≢false}
use Rattle.std.specs.Prelude.{Option, Some, None}
use Rattle.std.specs.Option.{option_or}
use Rattle.std.proofs.lemmas.Bool.{cases_eq}
use Rattle.std.proofs.lemmas.List.{append-nil, length-set}
use Rattle.std.proofs.lemmas.List.Elements.{filter_map-append}
use Rattle.std.proofs.lemmas.Option.{slice_get_within, slice_get-get_or, same_Some}
use Rattle.demand_play.proofs.Places.{got_left, got_set, got_other}
use Rattle.indexmap.specs.IndexSet.{insert_key}
use Rattle.demand_play.specs.declared.answer.Core.{Core}
use Rattle.demand_play.specs.declared.event.TableEvent.{TableEvent}
use Rattle.demand_play.specs.declared.event.TableEvent.TheVariants.{Insert, Claim}
use Rattle.demand_play.specs.Cores.{row_of, maker_of, parent_of, rows_of, claimer_of}
use Rattle.demand_play.specs.Legal.{IsLegalAfter, IsLegal}
use Rattle.demand_play.specs.Mirrors.Held.{HoldsEvents, AreAsLong, IsSetOf}
use Rattle.std.specs.List.{list_any}
use Rattle.demand_play.proofs.Sets.{insert_key-absent, found_row}
use Rattle.demand_play.proofs.Listed.{claims_of, claims_length, claims_at, claims_insert, claims_claim, claimer_push}
use Rattle.demand_play.proofs.Legality.{unclaimed_past, claimed_within}

or_right : (o : Option ℕ) → option_or o None ≡ o
or_right None = refl
or_right (Some x) = refl

module _ (needs : List ℕ → List (List ℕ)) (before : List TableEvent) (core : Core) (found : List (List ℕ)) (needed : List (List (List ℕ))) (held : HoldsEvents needs before core found needed) where
  claims_is : core.claims ≡ claims_of before
  claims_is = ap (λ (c : Core). c.claims) held.makes

  pub as_long : AreAsLong core needed
  as_long =
      let rows : core.rows ≡ rows_of before = ap (λ (c : Core). c.rows) held.makes in
      (ap length claims_is ∙ claims_length before ∙ sym (ap length rows), held.sized ∙ sym (ap length rows))

  -- a ticket's claim, in the core and in the events
  pub claim_is : (ticket : ℕ) (claim : Option ℕ) → ticket < length (rows_of before) → (slice_get core.claims ticket ≡ Some claim) ↔ (claimer_of before ticket ≡ claim)
  claim_is ticket claim within =
      let at : slice_get core.claims ticket ≡ Some (claimer_of before ticket) = ap (λ (l : List (Option ℕ)). slice_get l ticket) claims_is ∙ claims_at before ticket within in
      ((λ is. same_Some (claimer_of before ticket) claim (sym at ∙ is)), λ is. at ∙ ap (λ (o : Option ℕ). Some o) is)

  pub claim_within : (ticket : ℕ) (claim : Option ℕ) → slice_get core.claims ticket ≡ Some claim → ticket < length (rows_of before)
  claim_within ticket claim is = let within = slice_get_within core.claims ticket claim is in omega (arith, within, ap length claims_is, claims_length before)

  -- whether a claim is legal
  pub may_claim : (roots : List (List ℕ)) (worker ticket : ℕ) → (slice_get core.claims ticket ≡ Some None) ↔ IsLegalAfter needs roots before (Claim worker ticket)
  may_claim roots worker ticket = (
    (λ is. let within = claim_within ticket None is in (within, (claim_is ticket None within).0 is)),
    λ legal. (claim_is ticket None legal.0).1 legal.1,
  )

  -- whether an insert is legal
  pub not_twice : (roots : List (List ℕ)) (worker : ℕ) (row : List ℕ) (parent : Option ℕ) → Contains found row → ¬ IsLegalAfter needs roots before (Insert worker row parent)
  not_twice roots worker row None there legal = legal.0 (subst (λ (l : List (List ℕ)). Contains l row) held.lists there)
  not_twice roots worker row (Some parent) there legal = legal.0 (subst (λ (l : List (List ℕ)). Contains l row) held.lists there)

  absent : (row : List ℕ) → ¬ Contains found row → ¬ Contains (rows_of before) row
  absent row new there = new (subst (λ (l : List (List ℕ)). Contains l row) (sym held.lists) there)

  pub as_root : (roots : List (List ℕ)) (worker : ℕ) (row : List ℕ) → ¬ Contains found row → Contains roots row ↔ IsLegalAfter needs roots before (Insert worker row None)
  as_root roots worker row new = ((λ root. (absent row new, root)), λ legal. legal.1)

  pub as_child : (roots : List (List ℕ)) (worker : ℕ) (row : List ℕ) (parent : ℕ) → ¬ Contains found row
      → ((slice_get core.claims parent ≡ Some (Some worker)) × ((rows : List (List ℕ)) × (slice_get needed parent ≡ Some rows) × Contains rows row))
      ↔ IsLegalAfter needs roots before (Insert worker row (Some parent))
  as_child roots worker row parent new = (
    (λ (claimed, asked).
        let within = claim_within parent (Some worker) claimed in
        let claimer = (claim_is parent (Some worker) within).0 claimed in
        let own = slice_get-get_or (rows_of before) parent [] within in
        (absent row new, claimer, (get_or (rows_of before) parent [], own, ((held.asks parent worker (get_or (rows_of before) parent []) asked.0 claimer own asked.1).same row).0 asked.2))),
    λ legal.
        let within = slice_get_within (rows_of before) parent legal.2.0 legal.2.1 in
        let kept : slice_get needed parent ≡ Some (get_or needed parent []) = slice_get-get_or needed parent [] (omega (arith, within, held.sized)) in (
          (claim_is parent (Some worker) within).1 legal.1,
          (get_or needed parent [], kept, ((held.asks parent worker legal.2.0 (get_or needed parent []) legal.1 legal.2.1 kept).same row).1 legal.2.2),
        ),
  )

  -- the answers of the code
  pub answers_twice : (roots : List (List ℕ)) (worker : ℕ) (row : List ℕ) (parent : Option ℕ) (answer : Bool) → answer ≡ list_any (bytes_eq row) found → answer ≡ true
      → IsTrue false ↔ IsLegalAfter needs roots before (Insert worker row parent)
  answers_twice roots worker row parent answer is so =
      ((λ not_so. absurd (true≢false (sym not_so))), λ legal. absurd (not_twice roots worker row parent ((found_row found row).0 (sym is ∙ so)) legal))

  pub is_new : (row : List ℕ) (answer : Bool) → answer ≡ list_any (bytes_eq row) found → answer ≡ false → ¬ Contains found row
  is_new row answer is not_so there = true≢false (sym ((found_row found row).1 there) ∙ sym is ∙ not_so)

  pub answers_root : (roots : List (List ℕ)) (worker : ℕ) (row : List ℕ) (parent : Option ℕ) (answer : Bool) → ¬ Contains found row → parent ≡ None
      → answer ≡ list_any (bytes_eq row) roots → IsTrue answer ↔ IsLegalAfter needs roots before (Insert worker row parent)
  answers_root roots worker row parent answer new none is =
      subst (λ (o : Option ℕ). IsTrue answer ↔ IsLegalAfter needs roots before (Insert worker row o)) (sym none) (
        (λ so. (as_root roots worker row new).0 ((found_row roots row).0 (sym is ∙ so))),
        λ legal. is ∙ (found_row roots row).1 ((as_root roots worker row new).1 legal),
      )

  pub answers_child : (roots : List (List ℕ)) (worker : ℕ) (row : List ℕ) (parent : Option ℕ) (ticket : ℕ) (claimed asked : Bool) → ¬ Contains found row → parent ≡ Some ticket
      → IsTrue claimed ↔ (slice_get core.claims ticket ≡ Some (Some worker)) → claimed ≡ true
      → IsTrue asked ↔ ((rows : List (List ℕ)) × (slice_get needed ticket ≡ Some rows) × Contains rows row) → IsTrue asked ↔ IsLegalAfter needs roots before (Insert worker row parent)
  answers_child roots worker row parent ticket claimed asked new some claims so asks =
      subst (λ (o : Option ℕ). IsTrue asked ↔ IsLegalAfter needs roots before (Insert worker row o)) (sym some) (
        (λ asked_so. (as_child roots worker row ticket new).0 (claims.0 so, asks.0 asked_so)),
        λ legal. asks.1 ((as_child roots worker row ticket new).1 legal).1,
      )

  pub answers_unclaimed : (roots : List (List ℕ)) (worker : ℕ) (row : List ℕ) (parent : Option ℕ) (ticket : ℕ) (claimed : Bool) → ¬ Contains found row → parent ≡ Some ticket
      → IsTrue claimed ↔ (slice_get core.claims ticket ≡ Some (Some worker)) → claimed ≡ false → IsTrue claimed ↔ IsLegalAfter needs roots before (Insert worker row parent)
  answers_unclaimed roots worker row parent ticket claimed new some claims not_so =
      subst (λ (o : Option ℕ). IsTrue claimed ↔ IsLegalAfter needs roots before (Insert worker row o)) (sym some) (
        (λ so. absurd (true≢false (sym so ∙ not_so))),
        λ legal. claims.1 ((as_child roots worker row ticket new).1 legal).0,
      )

  module _ (roots : List (List ℕ)) (legal : IsLegal needs roots before) where
    -- after an insert
    pub holds_insert : (worker : ℕ) (row : List ℕ) (parent : Option ℕ) (new : Core) (listed : List (List ℕ)) (lists : List (List (List ℕ)))
        → ¬ Contains found row
        → new.rows ≡ core.rows ++ row ∷ [] → new.makers ≡ core.makers ++ worker ∷ [] → new.parents ≡ core.parents ++ parent ∷ [] → new.claims ≡ core.claims ++ None ∷ []
        → listed ≡ insert_key bytes_eq found row → lists ≡ needed ++ [] ∷ [] → HoldsEvents needs (before ++ Insert worker row parent ∷ []) new listed lists
    holds_insert worker row parent new listed lists fresh rows makers parents claims set_is lists_is =
        let event : TableEvent = Insert worker row parent in
        let n = length (rows_of before) in
        let rows_now : rows_of (before ++ event ∷ []) ≡ rows_of before ++ row ∷ [] = filter_map-append row_of before (event ∷ []) in
        let rows_is : new.rows ≡ rows_of (before ++ event ∷ []) = rows ∙ ap (λ (c : Core). c.rows ++ row ∷ []) held.makes ∙ sym rows_now in
        let makers_is = makers ∙ ap (λ (c : Core). c.makers ++ worker ∷ []) held.makes ∙ sym (filter_map-append maker_of before (event ∷ [])) in
        let parents_is = parents ∙ ap (λ (c : Core). c.parents ++ parent ∷ []) held.makes ∙ sym (filter_map-append parent_of before (event ∷ [])) in
        let claims_now = claims ∙ ap (λ (l : List (Option ℕ)). l ++ None ∷ []) claims_is ∙ sym (claims_insert before worker row parent (unclaimed_past needs roots before n legal (omega arith))) in
        record {
          makes = λ i. record { rows = rows_is i; makers = makers_is i; parents = parents_is i; claims = claims_now i };
          lists = set_is ∙ insert_key-absent found row fresh ∙ ap (λ (l : List (List ℕ)). l ++ row ∷ []) held.lists ∙ sym rows_now;
          sized = omega (arith, ap length lists_is, length-append needed ([] ∷ []), ap length rows_now, length-append (rows_of before) (row ∷ []), held.sized);
          asks = λ ticket claimer own kept is there kept_there.
              let was : claimer_of before ticket ≡ Some claimer = sym (or_right (claimer_of before ticket)) ∙ sym (claimer_push before event ticket) ∙ is in
              let within : ticket < n = claimed_within needs roots before ticket claimer legal was in
              held.asks ticket claimer own kept was
              (sym (got_left (rows_of before) (row ∷ []) ticket within) ∙ ap (λ (l : List (List ℕ)). slice_get l ticket) (sym rows_now) ∙ there)
              (sym (got_left needed ([] ∷ []) ticket (omega (arith, within, held.sized))) ∙ ap (λ (l : List (List (List ℕ))). slice_get l ticket) (sym lists_is) ∙ kept_there);
        }

    -- after a claim
    pub holds_claim : (worker ticket : ℕ) (new : Core) (listed : List (List ℕ)) (lists : List (List (List ℕ)))
        → slice_get core.claims ticket ≡ Some None
        → new.rows ≡ core.rows → new.makers ≡ core.makers → new.parents ≡ core.parents → new.claims ≡ set core.claims ticket (Some worker)
        → listed ≡ found
        → ((row : List ℕ) → slice_get core.rows ticket ≡ Some row → (rows : List (List ℕ)) × (lists ≡ set needed ticket rows) × IsSetOf (needs row) rows)
        → HoldsEvents needs (before ++ Claim worker ticket ∷ []) new listed lists
    holds_claim worker ticket new listed lists free rows makers parents claims set_is lists_is =
        let event : TableEvent = Claim worker ticket in
        let n = length (rows_of before) in
        let within : ticket < n = claim_within ticket None free in
        let unclaimed : claimer_of before ticket ≡ None = (claim_is ticket None within).0 free in
        let rows_now : rows_of (before ++ event ∷ []) ≡ rows_of before = filter_map-append row_of before (event ∷ []) ∙ append-nil (rows_of before) in
        let core_rows : core.rows ≡ rows_of before = ap (λ (c : Core). c.rows) held.makes in
        let rows_is : new.rows ≡ rows_of (before ++ event ∷ []) = rows ∙ core_rows ∙ sym rows_now in
        let makers_is = makers ∙ ap (λ (c : Core). c.makers) held.makes ∙ sym (filter_map-append maker_of before (event ∷ []) ∙ append-nil _) in
        let parents_is = parents ∙ ap (λ (c : Core). c.parents) held.makes ∙ sym (filter_map-append parent_of before (event ∷ []) ∙ append-nil _) in
        let claims_now = claims ∙ ap (λ (l : List (Option ℕ)). set l ticket (Some worker)) claims_is ∙ sym (claims_claim before worker ticket within unclaimed) in
        let row = get_or (rows_of before) ticket [] in
        let there : slice_get (rows_of before) ticket ≡ Some row = slice_get-get_or (rows_of before) ticket [] within in
        let more = lists_is row (ap (λ (l : List (List ℕ)). slice_get l ticket) core_rows ∙ there) in
        record {
          makes = λ i. record { rows = rows_is i; makers = makers_is i; parents = parents_is i; claims = claims_now i };
          lists = set_is ∙ held.lists ∙ sym rows_now;
          sized = ap length more.1 ∙ length-set needed ticket more.0 ∙ held.sized ∙ sym (ap length rows_now);
          asks = λ other claimer own kept is own_there kept_there.
              let own_was : slice_get (rows_of before) other ≡ Some own = ap (λ (l : List (List ℕ)). slice_get l other) (sym rows_now) ∙ own_there in
              let kept_was : slice_get (set needed ticket more.0) other ≡ Some kept = ap (λ (l : List (List (List ℕ))). slice_get l other) (sym more.1) ∙ kept_there in
              ⊎_elim
              (λ same.
              let own_is : row ≡ own = same_Some row own (sym there ∙ ap (slice_get (rows_of before)) (sym same) ∙ own_was) in
              let kept_is : more.0 ≡ kept = same_Some more.0 kept (sym (got_set needed ticket more.0 (omega (arith, within, held.sized))) ∙ ap (slice_get (set needed ticket more.0)) (sym same) ∙ kept_was) in
              subst (λ (r : List ℕ). IsSetOf (needs r) kept) own_is (subst (λ (k : List (List ℕ)). IsSetOf (needs row) k) kept_is more.2))
              (λ differ.
              let was : claimer_of before other ≡ Some claimer = sym (or_right (claimer_of before other)) ∙ ap (λ (b : Bool). option_or (claimer_of before other) (if b then Some worker else None)) (sym (ne_eqb ticket other (λ e. differ (sym e)))) ∙ sym (claimer_push before event other) ∙ is in
              held.asks other claimer own kept was own_was (sym (got_other needed ticket other more.0 differ) ∙ kept_was))
              (cases_eq other ticket);
        }

    fresh : (worker : ℕ) (row : List ℕ) (parent : Option ℕ) → IsLegalAfter needs roots before (Insert worker row parent) → ¬ Contains found row
    fresh worker row parent next there = not_twice roots worker row parent there next

    -- what the code does with an event
    pub applies_insert : (event : TableEvent) (worker : ℕ) (row : List ℕ) (parent : Option ℕ) (answer : Bool) (new : Core) (listed : List (List ℕ)) (lists : List (List (List ℕ)))
        → event ≡ Insert worker row parent → IsTrue answer ↔ IsLegalAfter needs roots before (Insert worker row parent) → answer ≡ true
        → new.rows ≡ core.rows ++ row ∷ [] → new.makers ≡ core.makers ++ worker ∷ [] → new.parents ≡ core.parents ++ parent ∷ [] → new.claims ≡ core.claims ++ None ∷ []
        → listed ≡ insert_key bytes_eq found row → lists ≡ needed ++ [] ∷ []
        → IsLegalAfter needs roots before event × HoldsEvents needs (before ++ event ∷ []) new listed lists
    applies_insert event worker row parent answer new listed lists is decides so rows makers parents claims set_is lists_is =
        let next = decides.0 so in
        subst (λ (e : TableEvent). IsLegalAfter needs roots before e × HoldsEvents needs (before ++ e ∷ []) new listed lists) (sym is)
        (next, holds_insert worker row parent new listed lists (fresh worker row parent next) rows makers parents claims set_is lists_is)

    pub applies_claim : (event : TableEvent) (worker ticket : ℕ) (answer : Bool) (new : Core) (listed : List (List ℕ)) (lists : List (List (List ℕ)))
        → event ≡ Claim worker ticket → IsTrue answer ↔ (slice_get core.claims ticket ≡ Some None) → answer ≡ true
        → new.rows ≡ core.rows → new.makers ≡ core.makers → new.parents ≡ core.parents → new.claims ≡ set core.claims ticket (Some worker)
        → listed ≡ found
        → ((row : List ℕ) → slice_get core.rows ticket ≡ Some row → (rows : List (List ℕ)) × (lists ≡ set needed ticket rows) × IsSetOf (needs row) rows)
        → IsLegalAfter needs roots before event × HoldsEvents needs (before ++ event ∷ []) new listed lists
    applies_claim event worker ticket answer new listed lists is decides so rows makers parents claims set_is lists_is =
        let free = decides.0 so in
        subst (λ (e : TableEvent). IsLegalAfter needs roots before e × HoldsEvents needs (before ++ e ∷ []) new listed lists) (sym is)
        ((may_claim roots worker ticket).0 free, holds_claim worker ticket new listed lists free rows makers parents claims set_is lists_is)

    pub refuses_insert : (event : TableEvent) (worker : ℕ) (row : List ℕ) (parent : Option ℕ) (answer : Bool)
        → event ≡ Insert worker row parent → IsTrue answer ↔ IsLegalAfter needs roots before (Insert worker row parent) → answer ≡ false → ¬ IsLegalAfter needs roots before event
    refuses_insert event worker row parent answer is decides not_so next =
        true≢false (sym (decides.1 (subst (IsLegalAfter needs roots before) is next)) ∙ not_so)

    pub refuses_claim : (event : TableEvent) (worker ticket : ℕ) (answer : Bool)
        → event ≡ Claim worker ticket → IsTrue answer ↔ (slice_get core.claims ticket ≡ Some None) → answer ≡ false → ¬ IsLegalAfter needs roots before event
    refuses_claim event worker ticket answer is decides not_so next =
        true≢false (sym (decides.1 ((may_claim roots worker ticket).1 (subst (IsLegalAfter needs roots before) is next))) ∙ not_so)
