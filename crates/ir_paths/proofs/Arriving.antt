-- Bits that come to some blocks are there afterwards, and no others.
use Rattle.std.proofs.Common.{◌≡◌, ◌∙◌, ℕ, ◌+◌, ◌^◌, ◌<◌, ◌≤◌, ◌≢◌, ◌⊎◌, inl, inr, Bool, true, false, cond, not, ◌&&◌, List, [], ◌∷◌, ◌++◌, length, set, get_or, Contains, bit_or, refl, sym, ap, subst, arith, nat_lt, eqb, slice_index}
use Rattle.std.proofs.lemmas.Nat.{le_or_l, or_lt}
use Rattle.std.proofs.lemmas.List.{length-append, length-set}
use Rattle.std.proofs.lemmas.List.Elements.{Contains-append_left, Contains-push}
use Rattle.std.proofs.lemmas.Bool.Decides.{nat_tests}
use Rattle.ir_paths.specs.Bypass.{HasBit}
use Rattle.ir_paths.specs.Spreading.{State, arrive, arrive_all, waits}
use Rattle.ir_paths.proofs.Contained.{contains_none, contains_here, contains_there, contains_cases}
use Rattle.ir_paths.proofs.Words.{Has, has_or_left, has_or_right, has_or_cases, waits-set_same, waits-set_other, waits-set_true, word-set_same, word-set_other, room, room-set, is_or_not}

-- words of 64 bits and flags, so many of each
pub record IsState (count : ℕ) (s : State) : Type 0 where
  pub words : length s.0 ≡ count
  pub flags : length s.1 ≡ count
  pub small : (k : ℕ) → slice_index s.0 k < 2 ^ 64

-- how much there is left to do
abbrev pub left : State → ℕ
left s = room (2 ^ 64) s.0 + length s.2

-- From one state to another where the bits come to these places.
pub record Arrives (count bits : ℕ) (places : List ℕ) (s t : State) : Type 0 where
  pub fits : IsState count t
  pub keeps : (k bit : ℕ) → HasBit s.0 k bit → HasBit t.0 k bit
  pub new : (k bit : ℕ) → HasBit t.0 k bit → HasBit s.0 k bit ⊎ (Contains places k × Has bits bit)
  pub every : (k bit : ℕ) → Contains places k → k < count → Has bits bit → HasBit t.0 k bit
  pub still : (k : ℕ) → waits s.1 k ≡ true → waits t.1 k ≡ true
  pub same : (k : ℕ) → (waits t.1 k ≡ true) ⊎ (slice_index t.0 k ≡ slice_index s.0 k)
  pub begun : (k : ℕ) → waits t.1 k ≡ true → (waits s.1 k ≡ true) ⊎ Contains t.2 k
  pub stays : (k : ℕ) → Contains s.2 k → Contains t.2 k
  pub falls : left t ≤ left s

arrives_none : (count bits : ℕ) (s : State) → IsState count s → Arrives count bits [] s s
arrives_none count bits s fits = record { fits = fits; keeps = λ k bit h. h; new = λ k bit h. inl h; every = λ k bit c l h. absurd (contains_none k c); still = λ k h. h; same = λ k. inr refl; begun = λ k h. inl h; stays = λ k h. h; falls = omega arith }

-- at the one place of a list
only : (place k : ℕ) → Contains (place ∷ []) k → place ≡ k
only place k c = elim (contains_cases place k [] c) [ inl e ↦ e | inr h ↦ absurd (contains_none k h) ]

not_arriving : (count bits place : ℕ) (s : State) → IsState count s → (place < count → (bit : ℕ) → Has bits bit → HasBit s.0 place bit) → Arrives count bits (place ∷ []) s s
not_arriving count bits place s fits had = record {
  fits = fits;
  keeps = λ k bit h. h;
  new = λ k bit h. inl h;
  every = λ k bit c l h. let e = only place k c in subst (λ j. HasBit s.0 j bit) e (had (subst (λ j. j < count) (sym e) l) bit h);
  still = λ k h. h;
  same = λ k. inr refl;
  begun = λ k h. inl h;
  stays = λ k h. h;
  falls = omega arith;
}

-- what is left doesn't grow where a word does
less_left : (room_before room_after length_before length_after : ℕ) → room_after + 1 ≤ room_before → length_after ≡ length_before + 1 → room_after + length_after ≤ room_before + length_before
less_left a b c d h k = omega arith

set_small : (ws : List ℕ) (place w k : ℕ) → ((j : ℕ) → slice_index ws j < 2 ^ 64) → w < 2 ^ 64 → place < length ws → slice_index (set ws place w) k < 2 ^ 64
set_small ws place w k small fits within = elim (is_or_not k place) [
  | inl e ↦ subst (λ v. v < 2 ^ 64) (sym (ap (λ j. get_or (set ws place w) j 0) e ∙ word-set_same ws place w within)) fits
  | inr n ↦ subst (λ v. v < 2 ^ 64) (sym (word-set_other ws place k w n)) (small k)
]

arriving : (count bits place : ℕ) (s : State) → IsState count s → bits < 2 ^ 64 → place < count → (bit_or (slice_index s.0 place) bits ≢ slice_index s.0 place)
    → Arrives count bits (place ∷ []) s (set s.0 place (bit_or (slice_index s.0 place) bits), set s.1 place true, s.2 ++ place ∷ [])
arriving count bits place s fits bits_small within changed =
    let old = slice_index s.0 place in
    let word = bit_or old bits in
    let in_words : place < length s.0 = subst (λ n. place < n) (sym fits.words) within in
    let in_flags : place < length s.1 = subst (λ n. place < n) (sym fits.flags) within in
    let small : word < 2 ^ 64 = or_lt 64 old bits (fits.small place) bits_small in
    let above : old ≤ word = le_or_l old bits in
    let grows : old < word = omega (arith, above, changed) in
    let here : slice_index (set s.0 place word) place ≡ word = word-set_same s.0 place word in_words in
    record {
      fits = record { words = length-set s.0 place word ∙ fits.words; flags = length-set s.1 place true ∙ fits.flags; small = λ k. set_small s.0 place word k fits.small small in_words };
      keeps = λ k bit h. elim (is_or_not k place) [
        | inl e ↦ subst (λ j. HasBit (set s.0 place word) j bit) (sym e) (subst (λ w. Has w bit) (sym here) (has_or_left old bits bit (subst (λ j. HasBit s.0 j bit) e h)))
        | inr n ↦ subst (λ w. Has w bit) (sym (word-set_other s.0 place k word n)) h
      ];
      new = λ k bit h. elim (is_or_not k place) [
        | inl e ↦
            let at_place : Has word bit = subst (λ w. Has w bit) here (subst (λ j. HasBit (set s.0 place word) j bit) e h) in
            elim (has_or_cases old bits bit at_place) [
              | inl had ↦ inl (subst (λ j. HasBit s.0 j bit) (sym e) had)
              | inr new ↦ inr (subst (λ j. Contains (place ∷ []) j) (sym e) (contains_here place []), new)
            ]
        | inr n ↦ inl (subst (λ w. Has w bit) (word-set_other s.0 place k word n) h)
      ];
      every = λ k bit c l h. subst (λ j. HasBit (set s.0 place word) j bit) (only place k c) (subst (λ w. Has w bit) (sym here) (has_or_right old bits bit h));
      still = λ k h. waits-set_true s.1 place k h;
      same = λ k. elim (is_or_not k place) [
        | inl e ↦ inl (subst (λ j. waits (set s.1 place true) j ≡ true) (sym e) (waits-set_same s.1 place true in_flags))
        | inr n ↦ inr (word-set_other s.0 place k word n)
      ];
      begun = λ k h. elim (is_or_not k place) [
        | inl e ↦ inr (subst (λ (j : ℕ). Contains (s.2 ++ place ∷ []) j) (sym e) (Contains-push s.2 place))
        | inr n ↦ inl (sym (waits-set_other s.1 place k true n) ∙ h)
      ];
      stays = λ k c. Contains-append_left s.2 (place ∷ []) k c;
      falls = less_left (room (2 ^ 64) s.0) (room (2 ^ 64) (set s.0 place word)) (length s.2) (length (s.2 ++ place ∷ []))
          (room-set (2 ^ 64) s.0 place word in_words grows (omega (arith, small))) (length-append s.2 (place ∷ []));
    }

arrives_when : (count bits place : ℕ) (s : State) → IsState count s → bits < 2 ^ 64 → (there same : Bool) → nat_lt place (length s.0) ≡ there → eqb (bit_or (slice_index s.0 place) bits) (slice_index s.0 place) ≡ same
    → Arrives count bits (place ∷ []) s (cond (there && not same) (set s.0 place (bit_or (slice_index s.0 place) bits), set s.1 place true, s.2 ++ place ∷ []) s)
arrives_when count bits place s fits small true true e f =
    let equal : bit_or (slice_index s.0 place) bits ≡ slice_index s.0 place = grind (arith, nat_tests, f) in
    not_arriving count bits place s fits (λ l bit h. subst (λ w. Has w bit) equal (has_or_right (slice_index s.0 place) bits bit h))
arrives_when count bits place s fits small true false e f =
    let within : place < length s.0 = grind (arith, nat_tests, e) in
    arriving count bits place s fits small (subst (λ n. place < n) fits.words within) (λ q. absurd (grind (arith, nat_tests, f, q)))
arrives_when count bits place s fits small false same e f =
    not_arriving count bits place s fits (λ l. let within : place < length s.0 = subst (λ n. place < n) (sym fits.words) l in absurd (grind (arith, nat_tests, e, within)))

arrives_at : (count bits place : ℕ) (s : State) → IsState count s → bits < 2 ^ 64 → Arrives count bits (place ∷ []) s (arrive bits place s)
arrives_at count bits place s fits small = arrives_when count bits place s fits small (nat_lt place (length s.0)) (eqb (bit_or (slice_index s.0 place) bits) (slice_index s.0 place)) refl refl

arrives_both : (count bits place : ℕ) (places : List ℕ) (s m t : State) → Arrives count bits (place ∷ []) s m → Arrives count bits places m t → Arrives count bits (place ∷ places) s t
arrives_both count bits place places s m t a b = record {
  fits = b.fits;
  keeps = λ k bit h. b.keeps k bit (a.keeps k bit h);
  new = λ k bit h. elim (b.new k bit h) [
    | inl e ↦ elim (a.new k bit e) [ inl f ↦ inl f | inr (c, g) ↦ inr (subst (λ j. Contains (place ∷ places) j) (only place k c) (contains_here place places), g) ]
    | inr (c, g) ↦ inr (contains_there place k places c, g)
  ];
  every = λ k bit c l h. elim (contains_cases place k places c) [
    | inl e ↦ b.keeps k bit (a.every k bit (subst (λ j. Contains (place ∷ []) j) e (contains_here place [])) l h)
    | inr d ↦ b.every k bit d l h
  ];
  still = λ k h. b.still k (a.still k h);
  same = λ k. elim (b.same k) [
    | inl w ↦ inl w
    | inr e ↦ elim (a.same k) [ inl w ↦ inl (b.still k w) | inr f ↦ inr (e ∙ f) ]
  ];
  begun = λ k h. elim (b.begun k h) [
    | inl w ↦ elim (a.begun k w) [ inl v ↦ inl v | inr c ↦ inr (b.stays k c) ]
    | inr c ↦ inr c
  ];
  stays = λ k c. b.stays k (a.stays k c);
  falls = omega (arith, a.falls, b.falls);
}

pub arrives : (count bits : ℕ) (places : List ℕ) (s : State) → IsState count s → bits < 2 ^ 64 → Arrives count bits places s (arrive_all bits places s)
arrives count bits [] s fits small = arrives_none count bits s fits
arrives count bits (place ∷ places) s fits small =
    let first = arrives_at count bits place s fits small in
    arrives_both count bits place places s (arrive bits place s) (arrive_all bits places (arrive bits place s)) first (arrives count bits places (arrive bits place s) first.fits small)
