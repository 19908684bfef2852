-- The history of entries: the core that it makes, and why it is legal.
use Rattle.std.proofs.Common.{◌≡◌, ◌≢◌, ℕ, zero, suc, ◌+◌, ◌<◌, Bool, List, [], ◌∷◌, ◌++◌, All, AllPairs, Contains, length, get_or, map, filter_map, slice_get, if◌then◌else◌, sym, ap, subst, ◌∙◌, refl, arith, zero-add, append_assoc, eq-eqb, ne_eqb, length-append}
use Rattle.std.specs.Prelude.{Option, Some, None, flat_map, option_map, option_to_list, option_and_then}
use Rattle.std.specs.Option.{option_or, MatchOption}
use Rattle.std.specs.List.{range_with_len, enumerate_from, cons_option}
use Rattle.std.proofs.lemmas.List.{append-nil, length-map, map-append}
use Rattle.std.proofs.lemmas.List.Elements.{filter_map-append}
use Rattle.std.proofs.lemmas.List.FromFn.{fill_by_all}
use Rattle.std.proofs.lemmas.Grind.{flat_map-append}
use Rattle.std.proofs.lemmas.Option.{slice_get-map, slice_get-get_or, slice_get_within, get_or_from_slice_get, same_Some}
use Rattle.demand_play.specs.declared.entry.Closed.{Closed}
use Rattle.demand_play.specs.declared.event.TableEvent.{TableEvent}
use Rattle.demand_play.specs.declared.event.TableEvent.TheVariants.{Insert, Claim}
use Rattle.demand_play.specs.Cores.{row_of, maker_of, parent_of, claims_for, rows_of, claimer_of, core_of}
use Rattle.demand_play.specs.Entries.{AreSound, AreAsked}
use Rattle.demand_play.specs.History.{in_order, ticket_of, parent_ticket, events_of, history_in, history_of, core_in}
use Rattle.demand_play.specs.Legal.{IsLegalAfter, IsLegal}
use Rattle.demand_play.proofs.Listed.{claimer_push}
use Rattle.demand_play.proofs.Legality.{legal_none, legal_push, unclaimed_past}
use Rattle.demand_play.proofs.Ordering.{rows_distinct, tickets, entry_at, ticket_at, parent_first}
use Rattle.demand_core.specs.Needed.{IsNeeded}
use Rattle.demand_play.proofs.NeededRows.{rows_needed}
use Rattle.demand_play.proofs.Places.{got_left, got_seam}

or_none : (o : Option ℕ) → option_or o None ≡ o
or_none None = refl
or_none (Some x) = refl

or_assoc : (o p q : Option ℕ) → option_or (option_or o p) q ≡ option_or o (option_or p q)
or_assoc None p q = refl
or_assoc (Some x) p q = refl

claimer_append : (before after : List TableEvent) (ticket : ℕ) → claimer_of (before ++ after) ticket ≡ option_or (claimer_of before ticket) (claimer_of after ticket)
claimer_append [] after ticket = refl
claimer_append (event ∷ before) after ticket =
    ap (option_or (claims_for ticket event)) (claimer_append before after ticket) ∙ sym (or_assoc (claims_for ticket event) (claimer_of before ticket) (claimer_of after ticket))

-- the claim of an entry, if any
abbrev claim_of : Option ℕ → ℕ → List TableEvent
claim_of claimer ticket = option_to_list (option_map (λ worker. Claim worker ticket) claimer)

claim_own : (o : Option ℕ) (n ticket : ℕ) → n ≡ ticket → claimer_of (claim_of o n) ticket ≡ o
claim_own None n ticket same = refl
claim_own (Some worker) n ticket same = ap (λ (b : Bool). option_or (if b then Some worker else None) None) (eq-eqb n ticket same)

claim_other : (o : Option ℕ) (n ticket : ℕ) → (n ≡ ticket → ⊥) → claimer_of (claim_of o n) ticket ≡ None
claim_other None n ticket differ = refl
claim_other (Some worker) n ticket differ = ap (λ (b : Bool). option_or (if b then Some worker else None) None) (ne_eqb n ticket differ)

module _ (order : List (ℕ × Closed)) where
  -- the events of some entries, with tickets from n on
  abbrev story : ℕ → List (ℕ × Closed) → List TableEvent
  story n entries = flat_map (λ entry. events_of order entry.0 entry.1.1) (enumerate_from n entries)

  -- what their inserts say
  module _ {Y : Type 0} (h : TableEvent → Option Y) (f : Closed → Y) (no_claims : (worker ticket : ℕ) → h (Claim worker ticket) ≡ None)
      (inserts : (e : Closed) → h (Insert e.maker e.row (parent_ticket order e)) ≡ Some (f e)) where
    nothing : (o : Option ℕ) (n : ℕ) → filter_map h (claim_of o n) ≡ []
    nothing None n = refl
    nothing (Some worker) n = ap (λ (o : Option Y). cons_option o []) (no_claims worker n)

    pub told : (n : ℕ) (entries : List (ℕ × Closed)) → filter_map h (story n entries) ≡ map (λ e. f e.1) entries
    told n [] = refl
    told n (e ∷ entries) =
        ap (λ (o : Option Y). cons_option o (filter_map h (claim_of e.1.claimer n ++ story (n + 1) entries))) (inserts e.1)
        ∙ ap (λ (l : List Y). f e.1 ∷ l) (filter_map-append h (claim_of e.1.claimer n) (story (n + 1) entries)
        ∙ (λ i. nothing e.1.claimer n i ++ told (n + 1) entries i))

  pub rows_told : (n : ℕ) (entries : List (ℕ × Closed)) → rows_of (story n entries) ≡ map (λ e. e.1.row) entries
  rows_told = told row_of (λ e. e.row) (λ worker ticket. refl) (λ e. refl)

  -- who claims them
  claimed_below : (n : ℕ) (entries : List (ℕ × Closed)) (ticket : ℕ) → ticket < n → claimer_of (story n entries) ticket ≡ None
  claimed_below n [] ticket below = refl
  claimed_below n (e ∷ entries) ticket below =
      claimer_append (claim_of e.1.claimer n) (story (n + 1) entries) ticket
      ∙ (λ i. option_or (claim_other e.1.claimer n ticket (λ same. omega (arith, same, below)) i) (claimed_below (n + 1) entries ticket (omega arith) i))

  pub claimed_at : (n : ℕ) (entries : List (ℕ × Closed)) (k : ℕ) (e : ℕ × Closed) (ticket : ℕ) → slice_get entries k ≡ Some e → n + k ≡ ticket → claimer_of (story n entries) ticket ≡ e.1.claimer
  claimed_at n [] k e ticket there at = absurd (not_some there)
    where
      not_some : None ≡ Some e → ⊥
      not_some is = cc
  claimed_at n (first ∷ entries) zero e ticket there at =
      claimer_append (claim_of first.1.claimer n) (story (n + 1) entries) ticket
      ∙ (λ i. option_or (claim_own first.1.claimer n ticket (omega arith) i) (claimed_below (n + 1) entries ticket (omega arith) i))
      ∙ or_none first.1.claimer ∙ ap (λ (x : ℕ × Closed). x.1.claimer) (same_Some first e there)
  claimed_at n (first ∷ entries) (suc k) e ticket there at =
      claimer_append (claim_of first.1.claimer n) (story (n + 1) entries) ticket
      ∙ (λ i. option_or (claim_other first.1.claimer n ticket (λ same. omega (arith, same, at)) i) (claimed_at (n + 1) entries k e ticket there (omega arith) i))

  -- one entry more
  enumerate_push : (n : ℕ) (entries : List (ℕ × Closed)) (e : ℕ × Closed) → enumerate_from n (entries ++ e ∷ []) ≡ enumerate_from n entries ++ (n + length entries, e) ∷ []
  enumerate_push n [] e = let at : n ≡ n + 0 = omega arith in ap (λ (k : ℕ). (k, e) ∷ []) at
  enumerate_push n (first ∷ entries) e =
      let at : n + 1 + length entries ≡ n + suc (length entries) = omega arith in
      ap (λ (l : List (ℕ × (ℕ × Closed))). (n, first) ∷ l) (enumerate_push (n + 1) entries e ∙ ap (λ (k : ℕ). enumerate_from (n + 1) entries ++ (k, e) ∷ []) at)

  story_push : (entries : List (ℕ × Closed)) (e : ℕ × Closed) → story 0 (entries ++ e ∷ []) ≡ story 0 entries ++ events_of order (length entries) e.1
  story_push entries e =
      ap (flat_map (λ entry. events_of order entry.0 entry.1.1)) (enumerate_push 0 entries e)
      ∙ flat_map-append (λ entry. events_of order entry.0 entry.1.1) (enumerate_from 0 entries) ((0 + length entries, e) ∷ [])
      ∙ ap (λ (l : List TableEvent). story 0 entries ++ l) (append-nil (events_of order (0 + length entries) e.1) ∙ ap (λ (k : ℕ). events_of order k e.1) (zero-add (length entries)))

  -- the core of the whole history
  claims_told : map (claimer_of (history_in order)) (range_with_len 0 (length (rows_of (history_in order)))) ≡ map (λ e. e.1.claimer) order
  claims_told =
      let long : length (rows_of (history_in order)) ≡ length order = ap length (rows_told 0 order) ∙ length-map order (λ (e : ℕ × Closed). e.1.row) in
      let each : (k : ℕ) → k < length order → get_or (map (λ e. e.1.claimer) order) k None ≡ claimer_of (history_in order) k = λ k within.
      let own : slice_get (map (λ e. e.1.claimer) order) k ≡ Some (get_or (map (λ e. e.1.claimer) order) k None) =
      slice_get-get_or (map (λ e. e.1.claimer) order) k None (omega (arith, within, length-map order (λ (e : ℕ × Closed). e.1.claimer))) in
      by k (slice_get order k) refl (slice_get-map (λ (e : ℕ × Closed). e.1.claimer) order k) own in
      ap (λ (m : ℕ). map (claimer_of (history_in order)) (range_with_len 0 m)) long
      ∙ sym (fill_by_all (claimer_of (history_in order)) (map (λ e. e.1.claimer) order) (length order) None (length-map order (λ (e : ℕ × Closed). e.1.claimer)) each)
    where
      by : (k : ℕ) (o : Option (ℕ × Closed)) → slice_get order k ≡ o → slice_get (map (λ e. e.1.claimer) order) k ≡ option_map (λ e. e.1.claimer) (slice_get order k)
          → slice_get (map (λ e. e.1.claimer) order) k ≡ Some (get_or (map (λ e. e.1.claimer) order) k None) → get_or (map (λ e. e.1.claimer) order) k None ≡ claimer_of (history_in order) k
      by k None is mapped own = absurd (not_some (sym (mapped ∙ ap (option_map (λ e. e.1.claimer)) is) ∙ own))
        where
          not_some : {x : Option ℕ} → None ≡ Some x → ⊥
          not_some e = cc
      by k (Some e) is mapped own =
          same_Some (get_or (map (λ x. x.1.claimer) order) k None) e.1.claimer (sym own ∙ mapped ∙ ap (option_map (λ x. x.1.claimer)) is)
          ∙ sym (claimed_at 0 order k e k is (zero-add k))

  pub core_told : core_of (history_in order) ≡ core_in order
  core_told = λ i. record {
    rows = rows_told 0 order i;
    makers = told maker_of (λ e. e.maker) (λ worker ticket. refl) (λ e. refl) 0 order i;
    parents = told parent_of (λ e. parent_ticket order e) (λ worker ticket. refl) (λ e. refl) 0 order i;
    claims = claims_told i;
  }

  module _ (needs : List ℕ → List (List ℕ)) (roots : List (List ℕ)) (apart : AllPairs (λ a b. a ≢ b) (map (λ e. e.1.row) order)) where
    -- the entry stands behind its parent, which its maker claimed and whose row needs its row, or is a root's
    abbrev pub Stands : ℕ → Closed → Option ℕ → Type 0
    Stands ticket entry parent = MatchOption parent (Contains roots entry.row)
        (λ place. (above : ℕ) × (f : ℕ × Closed) × (above < ticket) × (slice_get order above ≡ Some f) × (ticket_of order place ≡ Some above) × (f.1.claimer ≡ Some entry.maker) × Contains (needs f.1.row) entry.row)

    module _ (done rest : List (ℕ × Closed)) (e : ℕ × Closed) (whole : order ≡ done ++ e ∷ rest) where
      new_row : ¬ Contains (rows_of (story 0 done)) e.1.row
      new_row there =
          let listed = subst (λ (l : List (List ℕ)). Contains l e.1.row) (rows_told 0 done) there in
          let rows : map (λ x. x.1.row) order ≡ map (λ x. x.1.row) done ++ e.1.row ∷ map (λ x. x.1.row) rest = ap (map (λ x. x.1.row)) whole ∙ map-append (λ (x : ℕ × Closed). x.1.row) done (e ∷ rest) in
          let n : ℕ = length (map (λ x. x.1.row) done) in
          let early : get_or (map (λ x. x.1.row) order) listed.0 e.1.row ≡ e.1.row =
          get_or_from_slice_get (map (λ x. x.1.row) order) listed.0 e.1.row e.1.row
          (ap (λ (l : List (List ℕ)). slice_get l listed.0) rows ∙ got_left (map (λ x. x.1.row) done) (e.1.row ∷ map (λ x. x.1.row) rest) listed.0 listed.1
          ∙ slice_get-get_or (map (λ x. x.1.row) done) listed.0 e.1.row listed.1 ∙ ap (λ (r : List ℕ). Some r) listed.2) in
          let late : get_or (map (λ x. x.1.row) order) n e.1.row ≡ e.1.row =
          get_or_from_slice_get (map (λ x. x.1.row) order) n e.1.row e.1.row
          (ap (λ (l : List (List ℕ)). slice_get l n) rows ∙ got_seam (map (λ x. x.1.row) done) e.1.row (map (λ x. x.1.row) rest)) in
          let inside : n < length (map (λ x. x.1.row) order) = omega (arith, ap length rows, length-append (map (λ x. x.1.row) done) (e.1.row ∷ map (λ x. x.1.row) rest)) in
          apart listed.0 n e.1.row listed.1 inside (early ∙ sym late)

      next_insert : (parent : Option ℕ) → Stands (length done) e.1 parent → IsLegalAfter needs roots (story 0 done) (Insert e.1.maker e.1.row (option_and_then (ticket_of order) parent))
      next_insert None root = (new_row, root)
      next_insert (Some place) behind =
          let above = behind.0 in
          let f = behind.1 in
          let there : slice_get done above ≡ Some f = sym (got_left done (e ∷ rest) above behind.2) ∙ ap (λ (l : List (ℕ × Closed)). slice_get l above) (sym whole) ∙ behind.3 in
          let row : slice_get (rows_of (story 0 done)) above ≡ Some f.1.row =
          ap (λ (l : List (List ℕ)). slice_get l above) (rows_told 0 done) ∙ slice_get-map (λ (x : ℕ × Closed). x.1.row) done above ∙ ap (option_map (λ x. x.1.row)) there in
          subst (λ (o : Option ℕ). IsLegalAfter needs roots (story 0 done) (Insert e.1.maker e.1.row o)) (sym behind.4)
          (new_row, claimed_at 0 done above f above there (zero-add above) ∙ behind.5, (f.1.row, row, behind.6))

      next_claim : (claimer : Option ℕ) → IsLegal needs roots (story 0 done) → IsLegal needs roots (story 0 done ++ Insert e.1.maker e.1.row (parent_ticket order e.1) ∷ [])
          → IsLegal needs roots (story 0 done ++ Insert e.1.maker e.1.row (parent_ticket order e.1) ∷ claim_of claimer (length done))
      next_claim None front legal = legal
      next_claim (Some worker) front legal =
          let insert : TableEvent = Insert e.1.maker e.1.row (parent_ticket order e.1) in
          let before : List TableEvent = story 0 done ++ insert ∷ [] in
          let rows : rows_of before ≡ rows_of (story 0 done) ++ e.1.row ∷ [] = filter_map-append row_of (story 0 done) (insert ∷ []) in
          let long : length (rows_of (story 0 done)) ≡ length done = ap length (rows_told 0 done) ∙ length-map done (λ (x : ℕ × Closed). x.1.row) in
          let unclaimed : claimer_of before (length done) ≡ None =
          claimer_push (story 0 done) insert (length done) ∙ or_none (claimer_of (story 0 done) (length done))
          ∙ unclaimed_past needs roots (story 0 done) (length done) front (omega (arith, long)) in
          subst (IsLegal needs roots) (append_assoc (story 0 done) (insert ∷ []) (Claim worker (length done) ∷ []))
          (legal_push needs roots before (Claim worker (length done)) legal
          (omega (arith, ap length rows, length-append (rows_of (story 0 done)) (e.1.row ∷ []), long), unclaimed))

      pub one_more : IsLegal needs roots (story 0 done) → Stands (length done) e.1 e.1.parent → IsLegal needs roots (story 0 (done ++ e ∷ []))
      one_more legal stands =
          subst (IsLegal needs roots) (sym (story_push done e))
          (next_claim e.1.claimer legal (legal_push needs roots (story 0 done) (Insert e.1.maker e.1.row (parent_ticket order e.1)) legal (next_insert e.1.parent stands)))

    pub all_legal : (done rest : List (ℕ × Closed)) → order ≡ done ++ rest → ((k : ℕ) (e : ℕ × Closed) → slice_get order k ≡ Some e → Stands k e.1 e.1.parent)
        → IsLegal needs roots (story 0 done) → IsLegal needs roots (story 0 (done ++ rest))
    all_legal done [] whole stands legal = subst (λ (l : List (ℕ × Closed)). IsLegal needs roots (story 0 l)) (sym (append-nil done)) legal
    all_legal done (e ∷ rest) whole stands legal =
        let there : slice_get order (length done) ≡ Some e = ap (λ (l : List (ℕ × Closed)). slice_get l (length done)) whole ∙ got_seam done e rest in
        let joined : (done ++ e ∷ []) ++ rest ≡ done ++ e ∷ rest = append_assoc done (e ∷ []) rest in
        subst (λ (l : List (ℕ × Closed)). IsLegal needs roots (story 0 l)) joined
        (all_legal (done ++ e ∷ []) rest (whole ∙ sym joined) stands (one_more done rest e whole legal (stands (length done) e there)))

-- the history of sound entries that are asked for is legal
pub history_legal : (needs : List ℕ → List (List ℕ)) (roots : List (List ℕ)) (entries : List Closed) → AreSound entries → AreAsked needs roots entries → IsLegal needs roots (history_of entries)
history_legal needs roots entries sound asked =
    all_legal (in_order entries) needs roots (rows_distinct entries sound) [] (in_order entries) refl stands (legal_none needs roots)
  where
    by : (ticket : ℕ) (e : ℕ × Closed) (o : Option ℕ) → slice_get (in_order entries) ticket ≡ Some e → e.1.parent ≡ o
        → MatchOption o (Unit {0}) (λ place. (parent : Closed) × (slice_get entries place ≡ Some parent) × (parent.claimer ≡ Some e.1.maker))
        → MatchOption o (Contains roots e.1.row) (λ place. (parent : Closed) × (slice_get entries place ≡ Some parent) × Contains (needs parent.row) e.1.row)
        → Stands (in_order entries) needs roots (rows_distinct entries sound) ticket e.1 o
    by ticket e None there is claimed root = root
    by ticket e (Some place) there is claimed asked_for =
        let parent = claimed.0 in
        let same : asked_for.0 ≡ parent = same_Some asked_for.0 parent (sym asked_for.1 ∙ claimed.1) in
        let above = ticket_at entries sound place parent claimed.1 in (
          above.0,
          (place, parent),
          parent_first entries sound ticket above.0 e (place, parent) there above.1 is,
          above.1,
          tickets entries sound above.0 (place, parent) above.1,
          claimed.2,
          subst (λ (f : Closed). Contains (needs f.row) e.1.row) same asked_for.2,
        )

    stands : (ticket : ℕ) (e : ℕ × Closed) → slice_get (in_order entries) ticket ≡ Some e → Stands (in_order entries) needs roots (rows_distinct entries sound) ticket e.1 e.1.parent
    stands ticket e there =
        let place = entry_at entries sound ticket e there in
        let within = slice_get_within entries e.0 e.1 place in
        let own : get_or entries e.0 e.1 ≡ e.1 = get_or_from_slice_get entries e.0 e.1 e.1 place in
        by ticket e e.1.parent there refl
        (subst (λ (x : Closed). MatchOption x.parent (Unit {0}) (λ p. (parent : Closed) × (slice_get entries p ≡ Some parent) × (parent.claimer ≡ Some x.maker))) own (sound.claimed e.0 e.1 within))
        (subst (λ (x : Closed). MatchOption x.parent (Contains roots x.row) (λ p. (parent : Closed) × (slice_get entries p ≡ Some parent) × Contains (needs parent.row) x.row)) own (asked e.0 e.1 within))

-- so their rows are needed
pub entries_needed : (needs : List ℕ → List (List ℕ)) (roots : List (List ℕ)) (entries : List Closed) → AreSound entries → AreAsked needs roots entries
    → All (λ entry. IsNeeded needs roots entry.row) entries
entries_needed needs roots entries sound asked k d within =
    let entry = get_or entries k d in
    let at = ticket_at entries sound k entry (slice_get-get_or entries k d within) in
    let rows = rows_of (history_of entries) in
    let there : slice_get rows at.0 ≡ Some entry.row =
    ap (λ (l : List (List ℕ)). slice_get l at.0) (rows_told (in_order entries) 0 (in_order entries))
    ∙ slice_get-map (λ (x : ℕ × Closed). x.1.row) (in_order entries) at.0 ∙ ap (option_map (λ x. x.1.row)) at.1 in
    let inside : at.0 < length rows = slice_get_within rows at.0 entry.row there in
    subst (IsNeeded needs roots) (get_or_from_slice_get rows at.0 entry.row entry.row there)
    (rows_needed needs roots (history_of entries) (history_legal needs roots entries sound asked) at.0 entry.row inside)
