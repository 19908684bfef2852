-- Each definer has a bit that no other block has.
use Rattle.std.proofs.Common.{◌≡◌, ◌∙◌, ℕ, ◌+◌, ◌*◌, ◌%◌, ◌^◌, ◌<◌, ◌≤◌, ◌≢◌, inl, inr, List, length, set, get_or, take, All, slice_index, sym, ap, subst, arith}
use Rattle.std.proofs.lemmas.Nat.{pow_pos, one_shl}
use Rattle.std.proofs.lemmas.Nat.Bits.{bit_at-pow_other}
use Rattle.std.proofs.lemmas.List.Elements.{All-weaker, All-more}
use Rattle.ir_paths.specs.declared.far.Far.{Far}
use Rattle.ir_paths.specs.Bypass.{HasBit, AreSingle}
use Rattle.ir_paths.proofs.Words.{Has, word-set_same, word-set_other, is_or_not}

abbrev pub IsOwned : List ℕ → Far → Type 0
IsOwned own use_of = slice_index own use_of.definer ≢ 0

-- The definers of so many far uses have a bit each, and so many bits are used.
pub record Shared (far : List Far) (own : List ℕ) (used at : ℕ) : Type 0 where
  pub few : used ≤ 64
  pub begun : used ≤ at
  pub below : (place bit : ℕ) → HasBit own place bit → bit < used
  pub small : (place : ℕ) → slice_index own place < 2 ^ 64
  pub single : AreSingle own
  pub owned : All (IsOwned own) (take at far)

-- a definer that has a bit already
pub shared_had : (far : List Far) (own after : List ℕ) (used now at : ℕ) (x : Far) → Shared far own used at → after ≡ own → now ≡ used → at < length far → slice_index own (get_or far at x).definer ≢ 0 → Shared far after now (at + 1)
shared_had far own after used now at x h e f within had =
    let same : Shared far own used (at + 1) = record {
      few = h.few;
      begun = omega (arith, h.begun);
      below = h.below;
      small = h.small;
      single = h.single;
      owned = All-more (IsOwned own) far at x within h.owned had;
    } in
    subst (λ (n : ℕ). Shared far after n (at + 1)) (sym f) (subst (λ (ws : List ℕ). Shared far ws used (at + 1)) (sym e) same)

only_bit : (used bit : ℕ) → Has (2 ^ used) bit → bit ≡ used
only_bit used bit h = elim (is_or_not bit used) [ inl e ↦ e | inr n ↦ absurd (let none = bit_at-pow_other used bit n in omega (arith, none, h)) ]

above_zero : (n : ℕ) → 0 < n → n ≢ 0
above_zero n l e = omega arith

not_below_itself : (n m : ℕ) → n ≡ m → n < m → ⊥
not_below_itself n m e l = omega arith

below_top : (used : ℕ) → used < 64 → 2 ^ used < 2 ^ 64
below_top used few = omega (arith, one_shl used 64 few)

-- a definer that gets the next bit
shared_next : (far : List Far) (own : List ℕ) (used at place : ℕ) (x : Far) → Shared far own used at → at < length far → place ≡ (get_or far at x).definer → place < length own → used < 64
    → Shared far (set own place (2 ^ used)) (used + 1) (at + 1)
shared_next far own used at place x h within is there few =
    let after = set own place (2 ^ used) in
    let here : slice_index after place ≡ 2 ^ used = word-set_same own place (2 ^ used) there in
    let at_place : (bit : ℕ) → HasBit after place bit → bit ≡ used = λ bit b. only_bit used bit (subst (λ w. Has w bit) here b) in
    let elsewhere : (k bit : ℕ) → k ≢ place → HasBit after k bit → HasBit own k bit = λ k bit n b. subst (λ w. Has w bit) (word-set_other own place k (2 ^ used) n) b in
    let bit_of : (k bit : ℕ) → k ≡ place → HasBit after k bit → bit ≡ used = λ k bit e b. at_place bit (subst (λ j. HasBit after j bit) e b) in
    let fits : 2 ^ used < 2 ^ 64 = below_top used few in
    let not_zero : slice_index after place ≢ 0 = λ z. above_zero (2 ^ used) (pow_pos used) (sym here ∙ z) in
    record {
      few = omega (arith, few);
      begun = omega (arith, h.begun);
      below = λ k bit b. elim (is_or_not k place) [ inl e ↦ omega (arith, bit_of k bit e b) | inr n ↦ omega (arith, h.below k bit (elsewhere k bit n b)) ];
      small = λ k. elim (is_or_not k place) [ inl e ↦ subst (λ w. w < 2 ^ 64) (sym (ap (λ j. slice_index after j) e ∙ here)) fits | inr n ↦ subst (λ w. w < 2 ^ 64) (sym (word-set_other own place k (2 ^ used) n)) (h.small k) ];
      single = λ one other bit a b. elim (is_or_not one place) [
        | inl e ↦ elim (is_or_not other place) [
          | inl f ↦ e ∙ sym f
          | inr m ↦ absurd (not_below_itself bit used (bit_of one bit e a) (h.below other bit (elsewhere other bit m b)))
        ]
        | inr n ↦ elim (is_or_not other place) [
          | inl f ↦ absurd (not_below_itself bit used (bit_of other bit f b) (h.below one bit (elsewhere one bit n a)))
          | inr m ↦ h.single one other bit (elsewhere one bit n a) (elsewhere other bit m b)
        ]
      ];
      owned = All-more (IsOwned after) far at x within
          (All-weaker (IsOwned own) (IsOwned after) (λ u owned. elim (is_or_not u.definer place) [
            | inl e ↦ λ z. not_zero (ap (λ j. slice_index after j) (sym e) ∙ z)
            | inr n ↦ λ z. owned (sym (word-set_other own place u.definer (2 ^ used) n) ∙ z)
          ]) (take at far) h.owned)
          (λ z. not_zero (ap (λ j. slice_index after j) is ∙ z));
    }

pub shared_new : (far : List Far) (own after : List ℕ) (used now at place : ℕ) (x : Far) → Shared far own used at → after ≡ set own place (1 * 2 ^ used % 2 ^ 64) → now ≡ used + 1 → at < length far
    → place ≡ (get_or far at x).definer → place < length own → (used ≢ 64) → Shared far after now (at + 1)
shared_new far own after used now at place x h e f within is there more =
    let few : used < 64 = omega (arith, h.few, more) in
    let clean : after ≡ set own place (2 ^ used) = e ∙ ap (λ w. set own place w) (one_shl used 64 few) in
    subst (λ (n : ℕ). Shared far after n (at + 1)) (sym f) (subst (λ (ws : List ℕ). Shared far ws (used + 1) (at + 1)) (sym clean) (shared_next far own used at place x h within is there few))
