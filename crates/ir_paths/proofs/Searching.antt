-- The search keeps what it has to: each bit in a word came on a path past its owners, and what doesn't wait has gone on.
use Rattle.std.proofs.Common.{◌≡◌, ◌∙◌, ℕ, zero, suc, ◌^◌, ◌<◌, ◌≤◌, ◌≢◌, ◌⊎◌, inl, inr, Bool, true, false, cond, List, [], ◌∷◌, ◌++◌, length, set, replicate, All, Contains, Option, None, slice_get, slice_index, w64, refl, sym, ap, subst, arith}
use Rattle.std.proofs.lemmas.List.{length-append, length-set, length-replicate}
use Rattle.std.proofs.lemmas.List.Elements.{All-nil, All-cons, All-head, All-tail, Contains-push_cases}
use Rattle.std.proofs.lemmas.Nat.{and_le_l}
use Rattle.std.specs.Int.{bit_not}
use Rattle.ir_syntax.specs.declared.body.Block.{Block}
use Rattle.ir_syntax.specs.Edges.{successors_of, Leads}
use Rattle.ir_syntax.specs.Definite.{IsPath}
use Rattle.ir_paths.specs.Bypass.{HasBit, Bypasses, AreBypassed}
use Rattle.ir_paths.specs.Spreading.{State, arrive, arrive_all, leaving, waits, visit, visit_all}
use Rattle.ir_paths.proofs.Contained.{contains_none, contains_here, contains_cases}
use Rattle.ir_paths.proofs.Words.{Has, has_and, has_of_and, has_within, has_not, has_of_not, has_of_zero, waits-set_same, waits-set_other, waits_within, is_or_not, no_word}
use Rattle.ir_paths.proofs.Arriving.{IsState, left, Arrives, arrives}

-- the bits of a block that it doesn't own have gone on to those that follow it
abbrev pub HaveLeft : List Block → List ℕ → List ℕ → ℕ → Type 0
HaveLeft blocks own words from = (to bit : ℕ) → Leads blocks from to → to < length blocks → HasBit words from bit → (HasBit own from bit → ⊥) → HasBit words to bit

-- Between two visits.
pub record Searched (blocks : List Block) (own : List ℕ) (s : State) : Type 0 where
  pub fits : IsState (length blocks) s
  pub sound : (k bit : ℕ) → HasBit s.0 k bit → Bypasses blocks own bit k
  pub gone : (k : ℕ) → (waits s.1 k ≡ true) ⊎ HaveLeft blocks own s.0 k
  pub started : (bit : ℕ) → bit < 64 → 0 < length blocks → HasBit s.0 0 bit

-- ---- one visit

-- what leaves a block
leaving_bits : (own words : List ℕ) (place bit : ℕ) → slice_index own place < 2 ^ 64 → slice_index words place < 2 ^ 64 → Has (leaving own words place) bit → HasBit words place bit × (HasBit own place bit → ⊥)
leaving_bits own words place bit own_small small h =
    let both = has_and (slice_index words place) (bit_not w64 (slice_index own place)) bit h in
    (both.0, has_not (slice_index own place) bit own_small (has_within (slice_index words place) bit small both.0) both.1)

leaves : (own words : List ℕ) (place bit : ℕ) → slice_index own place < 2 ^ 64 → slice_index words place < 2 ^ 64 → HasBit words place bit → (HasBit own place bit → ⊥) → Has (leaving own words place) bit
leaves own words place bit own_small small h not_own =
    has_of_and (slice_index words place) (bit_not w64 (slice_index own place)) bit h (has_of_not (slice_index own place) bit own_small (has_within (slice_index words place) bit small h) not_own)

leaving_small : (own words : List ℕ) (place : ℕ) → slice_index words place < 2 ^ 64 → leaving own words place < 2 ^ 64
leaving_small own words place small = omega (arith, and_le_l (slice_index words place) (bit_not w64 (slice_index own place)))

farther : (blocks : List Block) (own : List ℕ) (bit place next : ℕ) → Leads blocks place next → (HasBit own place bit → ⊥) → Bypasses blocks own bit place → Bypasses blocks own bit next
farther blocks own bit place next leads not_own before = record {
  visited = place ∷ before.visited;
  path = (leads, before.path);
  past = All-cons (λ at. HasBit own at bit → ⊥) place before.visited not_own before.past;
}

visiting : (blocks : List Block) (own : List ℕ) (place : ℕ) (s t : State) → ((k : ℕ) → slice_index own k < 2 ^ 64) → Searched blocks own s → waits s.1 place ≡ true
    → Arrives (length blocks) (leaving own s.0 place) (successors_of (slice_get blocks place)) (s.0, set s.1 place false, s.2) t → Searched blocks own t
visiting blocks own place s t own_small h wait a = record {
  fits = a.fits;
  sound = λ k bit has. elim (a.new k bit has) [
    | inl had ↦ h.sound k bit had
    | inr (leads, bits) ↦
        let from = leaving_bits own s.0 place bit (own_small place) (h.fits.small place) bits in
        farther blocks own bit place k leads from.1 (h.sound place bit from.0)
  ];
  gone = λ k. elim (a.same k) [
    | inl w ↦ inl w
    | inr same ↦ elim (is_or_not k place) [
      | inl e ↦ inr (λ to bit leads there has not_own.
          let had : HasBit s.0 k bit = subst (λ w. Has w bit) same has in
          a.every to bit (subst (λ j. Leads blocks j to) e leads) there
          (leaves own s.0 place bit (own_small place) (h.fits.small place) (subst (λ j. HasBit s.0 j bit) e had) (λ o. not_own (subst (λ j. HasBit own j bit) (sym e) o))))
      | inr n ↦ elim (h.gone k) [
        | inl w ↦ inl (a.still k (waits-set_other s.1 place k false n ∙ w))
        | inr all ↦ inr (λ to bit leads there has not_own. a.keeps to bit (all to bit leads there (subst (λ w. Has w bit) same has) not_own))
      ]
    ]
  ];
  started = λ bit l some. a.keeps 0 bit (h.started bit l some);
}

cleared : (blocks : List Block) (place : ℕ) (s : State) → IsState (length blocks) s → IsState (length blocks) (s.0, set s.1 place false, s.2)
cleared blocks place s fits = record { words = fits.words; flags = length-set s.1 place false ∙ fits.flags; small = fits.small }

-- Between two visits, where all that wait are to be visited.
pub record Goes (blocks : List Block) (own : List ℕ) (s : State) : Type 0 where
  pub searched : Searched blocks own s
  pub listed : (k : ℕ) → waits s.1 k ≡ true → Contains s.2 k

-- all that wait but one
abbrev pub AllListedBut : ℕ → State → Type 0
AllListedBut place s = (k : ℕ) → waits s.1 k ≡ true → (place ≡ k) ⊎ Contains s.2 k

pub record Visits (blocks : List Block) (own : List ℕ) (s t : State) : Type 0 where
  pub goes : Goes blocks own t
  pub most : left t ≤ left s

waits_no_more : (fs : List Bool) (place k : ℕ) → place < length fs → waits (set fs place false) k ≡ true → k ≢ place
waits_no_more fs place k within w e =
    let none : waits (set fs place false) k ≡ false = ap (waits (set fs place false)) e ∙ waits-set_same fs place false within in
    let clash : true ≡ false = sym w ∙ none in
    cc

visits : (blocks : List Block) (own : List ℕ) (place : ℕ) (s t : State) → ((k : ℕ) → slice_index own k < 2 ^ 64) → Searched blocks own s → AllListedBut place s → waits s.1 place ≡ true
    → Arrives (length blocks) (leaving own s.0 place) (successors_of (slice_get blocks place)) (s.0, set s.1 place false, s.2) t → Visits blocks own s t
visits blocks own place s t own_small h but wait a = record {
  goes = record {
    searched = visiting blocks own place s t own_small h wait a;
    listed = λ k w. elim (a.begun k w) [
      | inl was ↦
          let other = waits_no_more s.1 place k (waits_within s.1 place wait) was in
          elim (but k (sym (waits-set_other s.1 place k false other) ∙ was)) [ inl e ↦ absurd (other (sym e)) | inr c ↦ a.stays k c ]
      | inr c ↦ c
    ];
  };
  most = a.falls;
}

visits_when : (blocks : List Block) (own : List ℕ) (place : ℕ) (s : State) (wait : Bool) → ((k : ℕ) → slice_index own k < 2 ^ 64) → Searched blocks own s → AllListedBut place s → waits s.1 place ≡ wait
    → Visits blocks own s (cond wait (arrive_all (leaving own s.0 place) (successors_of (slice_get blocks place)) (s.0, set s.1 place false, s.2)) s)
visits_when blocks own place s true own_small h but e =
    let places = successors_of (slice_get blocks place) in
    let bits = leaving own s.0 place in
    visits blocks own place s (arrive_all bits places (s.0, set s.1 place false, s.2)) own_small h but e
    (arrives (length blocks) bits places (s.0, set s.1 place false, s.2) (cleared blocks place s h.fits) (leaving_small own s.0 place (h.fits.small place)))
visits_when blocks own place s false own_small h but e = record {
  goes = record {
    searched = h;
    listed = λ k w. elim (but k w) [ inl same ↦ absurd (let clash : true ≡ false = sym w ∙ ap (waits s.1) (sym same) ∙ e in cc) | inr c ↦ c ];
  };
  most = omega arith;
}

visits_at : (blocks : List Block) (own : List ℕ) (place : ℕ) (s : State) → ((k : ℕ) → slice_index own k < 2 ^ 64) → Searched blocks own s → AllListedBut place s → Visits blocks own s (visit blocks own place s)
visits_at blocks own place s own_small h but = visits_when blocks own place s (waits s.1 place) own_small h but refl

visits_all : (blocks : List Block) (own order : List ℕ) (s : State) → ((k : ℕ) → slice_index own k < 2 ^ 64) → Goes blocks own s → Goes blocks own (visit_all blocks own order s)
visits_all blocks own [] s own_small h = h
visits_all blocks own (place ∷ order) s own_small h =
    visits_all blocks own order (visit blocks own place s) own_small (visits_at blocks own place s own_small h.searched (λ k w. inr (h.listed k w))).goes

-- the last of those to be visited is taken
popped : (blocks : List Block) (own words rest : List ℕ) (flags : List Bool) (place : ℕ) → ((k : ℕ) → slice_index own k < 2 ^ 64) → Goes blocks own (words, flags, rest ++ place ∷ [])
    → Visits blocks own (words, flags, rest) (visit blocks own place (words, flags, rest))
popped blocks own words rest flags place own_small h =
    let same : Searched blocks own (words, flags, rest) = record {
      fits = record { words = h.searched.fits.words; flags = h.searched.fits.flags; small = h.searched.fits.small };
      sound = h.searched.sound;
      gone = h.searched.gone;
      started = h.searched.started;
    } in
    visits_at blocks own place (words, flags, rest) own_small same (λ k w. elim (Contains-push_cases rest place k (h.listed k w)) [ inl c ↦ inr c | inr e ↦ inl e ])

-- ---- the start and the end

searched_start : (blocks : List Block) (own : List ℕ) (full : ℕ) (s t : State) → ((k : ℕ) → slice_index s.0 k ≡ 0) → ((bit : ℕ) → bit < 64 → Has full bit)
    → Arrives (length blocks) full (0 ∷ []) s t → Searched blocks own t
searched_start blocks own full s t none all_set a =
    let nothing : (k bit : ℕ) → HasBit s.0 k bit → ⊥ = λ k bit h. has_of_zero bit (subst (λ w. Has w bit) (none k) h) in
    record {
      fits = a.fits;
      sound = λ k bit h. elim (a.new k bit h) [
        | inl had ↦ absurd (nothing k bit had)
        | inr (c, b) ↦ elim (contains_cases 0 k [] c) [
          | inl e ↦ record { visited = []; path = sym e; past = All-nil (λ at. HasBit own at bit → ⊥) }
          | inr d ↦ absurd (contains_none k d)
        ]
      ];
      gone = λ k. elim (a.same k) [
        | inl w ↦ inl w
        | inr e ↦ inr (λ to bit leads there has not_own. absurd (nothing k bit (subst (λ w. Has w bit) e has)))
      ];
      started = λ bit l some. a.every 0 bit (contains_here 0 []) some (all_set bit l);
    }

clear_state : (count : ℕ) → IsState count (replicate count 0, replicate count false, [])
clear_state count = record { words = length-replicate count 0; flags = length-replicate count false; small = λ k. subst (λ w. w < 2 ^ 64) (sym (no_word count k)) (omega arith) }

none_past : (blocks : List Block) (k : ℕ) → length blocks ≤ k → slice_get blocks k ≡ None
none_past [] k h = refl
none_past (b ∷ blocks) zero h = absurd (omega arith)
none_past (b ∷ blocks) (suc k) h = let less : length blocks ≤ k = omega arith in none_past blocks k less

less_or : (m n : ℕ) → (m < n) ⊎ (n ≤ m)
less_or m n = grind arith

pub leads_within : (blocks : List Block) (from to : ℕ) → Leads blocks from to → from < length blocks
leads_within blocks from to h = elim (less_or from (length blocks)) [
  | inl l ↦ l
  | inr l ↦ absurd (contains_none to (subst (λ (o : Option Block). Contains (successors_of o) to) (none_past blocks from l) h))
]

-- A bit that a path brings is there.
brought : (blocks : List Block) (own : List ℕ) (s : State) → Searched blocks own s → ((k : ℕ) → waits s.1 k ≡ false) → (bit : ℕ) → bit < 64
    → (visited : List ℕ) (k : ℕ) → k < length blocks → IsPath blocks (k ∷ visited) → All (λ at. HasBit own at bit → ⊥) visited → HasBit s.0 k bit
brought blocks own s h idle bit l [] k there path past = subst (λ j. HasBit s.0 j bit) (sym path) (h.started bit l (subst (λ j. j < length blocks) path there))
brought blocks own s h idle bit l (from ∷ more) k there path past =
    let within = leads_within blocks from k path.0 in
    let before = brought blocks own s h idle bit l more from within path.1 (All-tail (λ at. HasBit own at bit → ⊥) from more past) in
    let here = All-head (λ at. HasBit own at bit → ⊥) from more past in
    elim (h.gone from) [
      | inl w ↦ absurd (let clash : true ≡ false = sym w ∙ idle from in cc)
      | inr all ↦ all k bit path.0 there before here
    ]

searched_end : (blocks : List Block) (own : List ℕ) (s : State) → Searched blocks own s → ((k : ℕ) → waits s.1 k ≡ false) → AreBypassed blocks own s.0
searched_end blocks own s h idle = record {
  each = h.fits.words;
  exact = λ k bit there l. (λ has. h.sound k bit has, λ b. brought blocks own s h idle bit l b.visited k there b.path b.past);
}

-- ---- as the code makes them

no_flag : (n k : ℕ) → waits (replicate n false) k ≡ true → ⊥
no_flag zero k h = cc
no_flag (suc n) zero h = cc
no_flag (suc n) (suc k) h = no_flag n k h

goes_start : (blocks : List Block) (own : List ℕ) (full : ℕ) → full < 2 ^ 64 → ((bit : ℕ) → bit < 64 → Has full bit)
    → Goes blocks own (arrive full 0 (replicate (length blocks) 0, replicate (length blocks) false, []))
goes_start blocks own full small all_set =
    let count = length blocks in
    let s : State = (replicate count 0, replicate count false, []) in
    let a = arrives count full (0 ∷ []) s (clear_state count) small in
    record {
      searched = searched_start blocks own full s (arrive full 0 s) (no_word count) all_set a;
      listed = λ k w. elim (a.begun k w) [ inl was ↦ absurd (no_flag count k was) | inr c ↦ c ];
    }

pub start_of : (blocks : List Block) (own words next order : List ℕ) (flags : List Bool) (full : ℕ) (s t : State) → words ≡ replicate (length blocks) 0 → flags ≡ replicate (length blocks) false → next ≡ []
    → s ≡ arrive full 0 (words, flags, next) → t ≡ visit_all blocks own order s → full < 2 ^ 64 → ((bit : ℕ) → bit < 64 → Has full bit) → ((k : ℕ) → slice_index own k < 2 ^ 64) → Goes blocks own t
start_of blocks own words next order flags full s t e f none is after small all_set own_small =
    let count = length blocks in
    let clean : s ≡ arrive full 0 (replicate count 0, replicate count false, []) =
    is ∙ ap (λ ws. arrive full 0 (ws, flags, next)) e ∙ ap (λ fs. arrive full 0 (replicate count 0, fs, next)) f ∙ ap (λ ns. arrive full 0 (replicate count 0, replicate count false, ns)) none in
    subst (λ (x : State). Goes blocks own x) (sym after)
    (visits_all blocks own order s own_small (subst (λ (x : State). Goes blocks own x) (sym clean) (goes_start blocks own full small all_set)))

pub goes_on : (blocks : List Block) (own words next rest : List ℕ) (flags : List Bool) (place : ℕ) (t : State) → ((k : ℕ) → slice_index own k < 2 ^ 64) → next ≡ rest ++ place ∷ [] → t ≡ visit blocks own place (words, flags, rest)
    → Goes blocks own (words, flags, next) → Goes blocks own t
goes_on blocks own words next rest flags place t own_small e is h =
    subst (λ (x : State). Goes blocks own x) (sym is) (popped blocks own words rest flags place own_small (subst (λ (ns : List ℕ). Goes blocks own (words, flags, ns)) e h)).goes

pub goes_down : (blocks : List Block) (own words next rest : List ℕ) (flags : List Bool) (place : ℕ) (t : State) → ((k : ℕ) → slice_index own k < 2 ^ 64) → next ≡ rest ++ place ∷ [] → t ≡ visit blocks own place (words, flags, rest)
    → Goes blocks own (words, flags, next) → left t < left (words, flags, next)
goes_down blocks own words next rest flags place t own_small e is h =
    let v = popped blocks own words rest flags place own_small (subst (λ (ns : List ℕ). Goes blocks own (words, flags, ns)) e h) in
    let most : left t ≤ left (words, flags, rest) = subst (λ (x : State). left x ≤ left (words, flags, rest)) (sym is) v.most in
    omega (arith, most, ap (length {A = ℕ}) e, length-append rest (place ∷ []))

false_of : (b : Bool) → (b ≡ true → ⊥) → b ≡ false
false_of true h = absurd (h refl)
false_of false h = refl

pub goes_end : (blocks : List Block) (own words next : List ℕ) (flags : List Bool) → Goes blocks own (words, flags, next) → next ≡ [] → AreBypassed blocks own words
goes_end blocks own words next flags h none =
    searched_end blocks own (words, flags, next) h.searched
    (λ k. false_of (waits flags k) (λ w. contains_none k (subst (λ (ns : List ℕ). Contains ns k) none (h.listed k w))))

pub no_items : (xs : List ℕ) → length xs ≡ 0 → xs ≡ []
no_items [] e = refl
no_items (x ∷ xs) e = absurd (omega arith)
