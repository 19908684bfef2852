-- A far use is bypassed just where its block has a bit that its definer owns.
use Rattle.std.proofs.Common.{◌≡◌, ◌≢◌, ◌∙◌, ℕ, ◌^◌, ◌<◌, ◌⊎◌, inl, inr, Bool, true, false, not, ◌||◌, List, [], ◌∷◌, ◌++◌, length, take, drop, Option, Some, MatchOption, All, Contains, slice_index, bit_and, eqb, w64, refl, sym, ap, subst, arith}
use Rattle.std.proofs.lemmas.Nat.{and_le_r}
use Rattle.std.proofs.lemmas.Nat.Bits.{bit_at-trailing_zeros}
use Rattle.std.proofs.lemmas.Bool.Decides.{nat_tests}
use Rattle.std.proofs.lemmas.List.{take-append-drop}
use Rattle.std.proofs.Math.Seq.{take-append_seam}
use Rattle.std.proofs.lemmas.List.Elements.{All-nil, All-cons, All-head, All-tail, All-append, All-contains, All-drop}
use Rattle.std.specs.Int.{trailing_zeros}
use Rattle.std.proofs.lemmas.List.Sorted.{All-permutation, IsPermutation-sym}
use Rattle.std.specs.List.Sorted.{IsPermutation}
use Rattle.std.specs.List.{list_any}
use Rattle.ir_syntax.specs.declared.body.Block.{Block}
use Rattle.ir_paths.specs.declared.far.Far.{Far}
use Rattle.ir_paths.specs.Bypass.{IsPassed, IsWithin, HasBit, Bypasses, AreBypassed, AreSingle}
use Rattle.ir_paths.proofs.Contained.{contains_here, contains_there}
use Rattle.ir_paths.proofs.Words.{Has, has_and, has_of_and, has_of_zero, is_or_not}
use Rattle.ir_paths.proofs.Sharing.{IsOwned}

-- a word that isn't zero has a bit
pub record SomeBit (word : ℕ) : Type 0 where
  pub bit : ℕ
  pub within : bit < 64
  pub has : Has word bit

some_bit : (word : ℕ) → word ≢ 0 → word < 2 ^ 64 → SomeBit word
some_bit word not_zero small =
    let found = bit_at-trailing_zeros w64 word (omega (arith, not_zero)) small in
    record { bit = trailing_zeros w64 word; within = found.0; has = found.1 }

-- the bits that tell whether a far use is bypassed
abbrev pub shared_bits : List ℕ → List ℕ → Far → ℕ
shared_bits own words far = bit_and (slice_index words far.place) (slice_index own far.definer)

past_its_definer : (blocks : List Block) (own words : List ℕ) (far : Far) → AreBypassed blocks own words → far.place < length blocks → slice_index own far.definer < 2 ^ 64 → shared_bits own words far ≢ 0 → IsPassed blocks far → ⊥
past_its_definer blocks own words far exact within small not_zero passed =
    let word = slice_index words far.place in
    let mine = slice_index own far.definer in
    let some = some_bit (bit_and word mine) not_zero (omega (arith, and_le_r word mine, small)) in
    let both = has_and word mine some.bit some.has in
    let path = (exact.exact far.place some.bit within some.within).0 both.0 in
    All-contains (λ at. HasBit own at some.bit → ⊥) path.visited far.definer path.past (passed path.visited path.path) both.1

-- either the definer is among the visited or no block that owns its bit
passed_or_past : (own : List ℕ) (definer bit : ℕ) → AreSingle own → HasBit own definer bit → (visited : List ℕ) → Contains visited definer ⊎ All (λ at. HasBit own at bit → ⊥) visited
passed_or_past own definer bit single has [] = inr (All-nil (λ at. HasBit own at bit → ⊥))
passed_or_past own definer bit single has (at ∷ more) = elim (is_or_not at definer) [
  | inl e ↦ inl (subst (λ (d : ℕ). Contains (at ∷ more) d) e (contains_here at more))
  | inr n ↦ elim (passed_or_past own definer bit single has more) [
    | inl c ↦ inl (contains_there at definer more c)
    | inr past ↦ inr (All-cons (λ p. HasBit own p bit → ⊥) at more (λ b. n (single at definer bit b has)) past)
  ]
]

through_its_definer : (blocks : List Block) (own words : List ℕ) (far : Far) → AreBypassed blocks own words → AreSingle own → far.place < length blocks → slice_index own far.definer ≢ 0 → slice_index own far.definer < 2 ^ 64
    → shared_bits own words far ≡ 0 → IsPassed blocks far
through_its_definer blocks own words far exact single within owned small zero_bits visited path =
    let mine = slice_index own far.definer in
    let some = some_bit mine owned small in
    elim (passed_or_past own far.definer some.bit single some.has visited) [
      | inl c ↦ c
      | inr past ↦
          let bypasses : Bypasses blocks own some.bit far.place = record { visited = visited; path = path; past = past } in
          let there = (exact.exact far.place some.bit within some.within).1 bypasses in
          absurd (has_of_zero some.bit (subst (λ w. Has w some.bit) zero_bits (has_of_and (slice_index words far.place) mine some.bit there some.has)))
    ]

-- ---- a list of far uses

abbrev pub asks : List ℕ → List ℕ → Far → Bool
asks own words far = not (eqb (shared_bits own words far) 0)

or_false : (a b : Bool) → (a || b) ≡ false → (a ≡ false) × (b ≡ false)
or_false true b e = absurd (cc)
or_false false b e = (refl, e)

or_true : (a b : Bool) → (a || b) ≡ true → (a ≡ true) ⊎ (b ≡ true)
or_true true b e = inl refl
or_true false b e = inr e

not_zero_of : (n : ℕ) → not (eqb n 0) ≡ true → n ≢ 0
not_zero_of n e z = grind (arith, nat_tests)

zero_of : (n : ℕ) → not (eqb n 0) ≡ false → n ≡ 0
zero_of n e = grind (arith, nat_tests)

pub bypassed_one : (blocks : List Block) (own words : List ℕ) (far : List Far) → AreBypassed blocks own words → ((k : ℕ) → slice_index own k < 2 ^ 64) → All (IsWithin (length blocks)) far → list_any (asks own words) far ≡ true
    → All (IsPassed blocks) far → ⊥
bypassed_one blocks own words [] exact small within any passed = absurd (cc)
bypassed_one blocks own words (x ∷ far) exact small within any passed = elim (or_true (asks own words x) (list_any (asks own words) far) any) [
  | inl here ↦
      past_its_definer blocks own words x exact (All-head (IsWithin (length blocks)) x far within).1 (small x.definer) (not_zero_of (shared_bits own words x) here) (All-head (IsPassed blocks) x far passed)
  | inr there ↦ bypassed_one blocks own words far exact small (All-tail (IsWithin (length blocks)) x far within) there (All-tail (IsPassed blocks) x far passed)
]

pub none_bypassed : (blocks : List Block) (own words : List ℕ) (far : List Far) → AreBypassed blocks own words → AreSingle own → ((k : ℕ) → slice_index own k < 2 ^ 64) → All (IsWithin (length blocks)) far → All (IsOwned own) far
    → list_any (asks own words) far ≡ false → All (IsPassed blocks) far
none_bypassed blocks own words [] exact single small within owned none = All-nil (IsPassed blocks)
none_bypassed blocks own words (x ∷ far) exact single small within owned none =
    let both = or_false (asks own words x) (list_any (asks own words) far) none in
    All-cons (IsPassed blocks) x far
    (through_its_definer blocks own words x exact single (All-head (IsWithin (length blocks)) x far within).1 (All-head (IsOwned own) x far owned) (small x.definer) (zero_of (shared_bits own words x) both.0))
    (none_bypassed blocks own words far exact single small (All-tail (IsWithin (length blocks)) x far within) (All-tail (IsOwned own) x far owned) both.1)

-- a slice that is written back whole
pub written_back : (n : ℕ) (new old : List ℕ) → length new ≡ n → take n (new ++ drop (length new) old) ≡ new
written_back n new old e = ap (λ m. take m (new ++ drop (length new) old)) (sym e) ∙ take-append_seam new (drop (length new) old)

-- what the code finds of own bits and words that it sees through slices
pub any_seen : (own owns words seen : List ℕ) (far : List Far) (r e : Bool) → owns ≡ own → seen ≡ words → r ≡ list_any (asks owns seen) far → r ≡ e → list_any (asks own words) far ≡ e
any_seen own owns words seen far r e same_own same_words any is =
    ap (λ o. list_any (asks o words) far) (sym same_own) ∙ ap (λ w. list_any (asks owns w) far) (sym same_words) ∙ sym any ∙ is

pub all_of_parts : (P : Far → Type 0) (n : ℕ) (far : List Far) → All P (take n far) → All P (drop n far) → All P far
all_of_parts P n far front back = subst (λ (xs : List Far). All P xs) (take-append-drop n far) (All-append P (take n far) (drop n far) front back)

-- Between two batches: the far uses that are left.
pub record Asks (blocks : List Block) (every rest : List Far) : Type 0 where
  pub within : All (IsWithin (length blocks)) rest
  pub all : All (IsPassed blocks) rest → All (IsPassed blocks) every
  pub each : All (IsPassed blocks) every → All (IsPassed blocks) rest

pub asks_start : (blocks : List Block) (every sorted rest : List Far) → All (IsWithin (length blocks)) every → IsPermutation every sorted → rest ≡ sorted → Asks blocks every rest
asks_start blocks every sorted rest within moved e =
    let here : Asks blocks every sorted = record {
      within = All-permutation (IsWithin (length blocks)) every sorted moved within;
      all = All-permutation (IsPassed blocks) sorted every (IsPermutation-sym every sorted moved);
      each = All-permutation (IsPassed blocks) every sorted moved;
    } in
    subst (λ (xs : List Far). Asks blocks every xs) (sym e) here

asks_on : (blocks : List Block) (every rest : List Far) (n : ℕ) → Asks blocks every rest → All (IsPassed blocks) (take n rest) → Asks blocks every (drop n rest)
asks_on blocks every rest n h passed = record {
  within = All-drop (IsWithin (length blocks)) n rest h.within;
  all = λ back. h.all (all_of_parts (IsPassed blocks) n rest passed back);
  each = λ a. All-drop (IsPassed blocks) n rest (h.each a);
}

pub asks_next : (blocks : List Block) (every rest back : List Far) (o : Option ℕ) (n : ℕ) → Asks blocks every rest → o ≡ Some n
    → MatchOption o (All (IsPassed blocks) rest → ⊥) (λ taken. All (IsPassed blocks) (take taken rest)) → back ≡ drop n rest → Asks blocks every back
asks_next blocks every rest back o n h is passed e =
    let now = subst (λ (p : Option ℕ). MatchOption p (All (IsPassed blocks) rest → ⊥) (λ taken. All (IsPassed blocks) (take taken rest))) is passed in
    subst (λ (xs : List Far). Asks blocks every xs) (sym e) (asks_on blocks every rest n h now)
