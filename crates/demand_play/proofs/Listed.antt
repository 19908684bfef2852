-- One more event: what is inserted and what is claimed.
use Rattle.std.proofs.Common.{◌≡◌, ℕ, suc, ◌+◌, ◌<◌, ◌≤◌, ⊎_elim, Bool, List, [], ◌∷◌, ◌++◌, length, get_or, take, drop, map, slice_get, set, if◌then◌else◌, sym, ap, ◌∙◌, refl, arith, length-append, eq-eqb, ne_eqb}
use Rattle.std.specs.Prelude.{Option, Some, None}
use Rattle.std.specs.Option.{option_or}
use Rattle.std.specs.List.{range_with_len}
use Rattle.std.proofs.lemmas.Bool.{cases_eq}
use Rattle.std.proofs.lemmas.List.{append-nil, take-append-drop, get_or-set_same, get_or-set_other, length-set}
use Rattle.std.proofs.lemmas.List.Elements.{filter_map-append}
use Rattle.std.proofs.lemmas.List.FromFn.{map-range_with_len_more, length-map-range_with_len, get_or-map-range_with_len, fill_by_all}
use Rattle.std.proofs.lemmas.Option.{slice_get-get_or, slice_get_past, same_Some, none-some}
use Rattle.demand_play.specs.declared.event.TableEvent.{TableEvent}
use Rattle.demand_play.specs.declared.event.TableEvent.TheVariants.{Insert, Claim}
use Rattle.demand_play.specs.Cores.{row_of, claims_for, rows_of, claimer_of}

or_none : (o : Option ℕ) → option_or o None ≡ o
or_none None = refl
or_none (Some x) = refl

or_assoc : (o p q : Option ℕ) → option_or o (option_or p q) ≡ option_or (option_or o p) q
or_assoc None p q = refl
or_assoc (Some x) p q = refl

pub claimer_push : (before : List TableEvent) (event : TableEvent) (ticket : ℕ) → claimer_of (before ++ event ∷ []) ticket ≡ option_or (claimer_of before ticket) (claims_for ticket event)
claimer_push [] event ticket = or_none (claims_for ticket event)
claimer_push (first ∷ before) event ticket =
    ap (option_or (claims_for ticket first)) (claimer_push before event ticket) ∙ or_assoc (claims_for ticket first) (claimer_of before ticket) (claims_for ticket event)

-- a claimer's claim is among the events
pub claim_there : (events : List TableEvent) (ticket worker : ℕ) → claimer_of events ticket ≡ Some worker → (at : ℕ) × (slice_get events at ≡ Some (Claim worker ticket))
claim_there [] ticket worker is = absurd (none-some worker is)
claim_there (Insert maker row parent ∷ events) ticket worker is = let later = claim_there events ticket worker is in (suc later.0, later.1)
claim_there (Claim claimer claimed ∷ events) ticket worker is = ⊎_elim
    (λ same. let here : option_or (claims_for ticket (Claim claimer claimed)) (claimer_of events ticket) ≡ Some claimer =
    ap (λ (b : Bool). option_or (if b then Some claimer else None) (claimer_of events ticket)) (eq-eqb claimed ticket same) in
    let own : claimer ≡ worker = same_Some claimer worker (sym here ∙ is) in
    (0, λ i. Some (Claim (own i) (same i))))
    (λ other. let gone : option_or (claims_for ticket (Claim claimer claimed)) (claimer_of events ticket) ≡ claimer_of events ticket =
    ap (λ (b : Bool). option_or (if b then Some claimer else None) (claimer_of events ticket)) (ne_eqb claimed ticket other) in
    let later = claim_there events ticket worker (sym gone ∙ is) in (suc later.0, later.1))
    (cases_eq claimed ticket)

-- rows that were there stay there
pub rows_front : (events : List TableEvent) (at : ℕ) → length (rows_of (take at events)) ≤ length (rows_of events)
rows_front events at =
    let whole : rows_of events ≡ rows_of (take at events) ++ rows_of (drop at events) =
    ap rows_of (sym (take-append-drop at events)) ∙ filter_map-append row_of (take at events) (drop at events) in
    omega (arith, ap length whole, length-append (rows_of (take at events)) (rows_of (drop at events)))

-- the claims of the events
abbrev pub claims_of : List TableEvent → List (Option ℕ)
claims_of events = map (claimer_of events) (range_with_len 0 (length (rows_of events)))

pub claims_length : (events : List TableEvent) → length (claims_of events) ≡ length (rows_of events)
claims_length events = length-map-range_with_len (claimer_of events) 0 (length (rows_of events))

pub claims_at : (events : List TableEvent) (ticket : ℕ) → ticket < length (rows_of events) → slice_get (claims_of events) ticket ≡ Some (claimer_of events ticket)
claims_at events ticket within =
    slice_get-get_or (claims_of events) ticket None (omega (arith, claims_length events))
    ∙ ap (λ (o : Option ℕ). Some o) (get_or-map-range_with_len (claimer_of events) 0 (length (rows_of events)) ticket ticket None within (omega arith))

pub claims_past : (events : List TableEvent) (ticket : ℕ) → length (rows_of events) ≤ ticket → slice_get (claims_of events) ticket ≡ None
claims_past events ticket past = slice_get_past (claims_of events) ticket (omega (arith, claims_length events))

-- what one more insert makes, where its ticket has no claimer
pub claims_insert : (before : List TableEvent) (worker : ℕ) (row : List ℕ) (parent : Option ℕ) → claimer_of before (length (rows_of before)) ≡ None
    → claims_of (before ++ Insert worker row parent ∷ []) ≡ claims_of before ++ None ∷ []
claims_insert before worker row parent unclaimed =
    let event : TableEvent = Insert worker row parent in
    let n = length (rows_of before) in
    let same : claimer_of (before ++ event ∷ []) ≡ claimer_of before = λ i ticket. (claimer_push before event ticket ∙ or_none (claimer_of before ticket)) i in
    let longer : length (rows_of (before ++ event ∷ [])) ≡ n + 1 = ap length (filter_map-append row_of before (event ∷ [])) ∙ length-append (rows_of before) (row ∷ []) in
    (λ i. map (same i) (range_with_len 0 (longer i)))
    ∙ map-range_with_len_more (claimer_of before) 0 n n (omega arith)
    ∙ ap (λ (o : Option ℕ). claims_of before ++ o ∷ []) unclaimed

-- what one more claim of a ticket without claimer makes
pub claims_claim : (before : List TableEvent) (worker ticket : ℕ) → ticket < length (rows_of before) → claimer_of before ticket ≡ None
    → claims_of (before ++ Claim worker ticket ∷ []) ≡ set (claims_of before) ticket (Some worker)
claims_claim before worker ticket within unclaimed =
    let event : TableEvent = Claim worker ticket in
    let n = length (rows_of before) in
    let rows : rows_of (before ++ event ∷ []) ≡ rows_of before = filter_map-append row_of before (event ∷ []) ∙ append-nil (rows_of before) in
    let long : length (claims_of before) ≡ n = claims_length before in
    let each : (k : ℕ) → k < n → get_or (set (claims_of before) ticket (Some worker)) k None ≡ claimer_of (before ++ event ∷ []) k = λ k below. ⊎_elim
    (λ same.
    let own : claimer_of (before ++ event ∷ []) k ≡ Some worker = claimer_push before event k
    ∙ ap (λ (o : Option ℕ). option_or o (claims_for k event)) (ap (claimer_of before) same ∙ unclaimed)
    ∙ ap (λ (b : Bool). if b then Some worker else None) (eq-eqb ticket k (sym same)) in
    ap (λ (j : ℕ). get_or (set (claims_of before) ticket (Some worker)) j None) same
    ∙ get_or-set_same (claims_of before) ticket (Some worker) None (omega arith) ∙ sym own)
    (λ other.
    let old : claimer_of (before ++ event ∷ []) k ≡ claimer_of before k = claimer_push before event k
    ∙ ap (λ (b : Bool). option_or (claimer_of before k) (if b then Some worker else None)) (ne_eqb ticket k (λ e. other (sym e)))
    ∙ or_none (claimer_of before k) in
    get_or-set_other (claims_of before) ticket k (Some worker) None other
    ∙ get_or-map-range_with_len (claimer_of before) 0 n k k None below (omega arith) ∙ sym old)
    (cases_eq k ticket) in
    ap (λ (m : ℕ). map (claimer_of (before ++ event ∷ [])) (range_with_len 0 m)) (ap length rows)
    ∙ sym (fill_by_all (claimer_of (before ++ event ∷ [])) (set (claims_of before) ticket (Some worker)) n None (length-set (claims_of before) ticket (Some worker) ∙ long) each)
