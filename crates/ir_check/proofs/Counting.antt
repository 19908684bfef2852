-- Entries of a phi, counted for each block.
use Rattle.std.proofs.Common.{◌≡◌, ◌≢◌, ℕ, zero, suc, ◌+◌, ◌<◌, ◌≤◌, inl, inr, Bool, true, false, cond, List, [], ◌∷◌, length, get_or, take, drop, refl, sym, ap, ◌∙◌, arith}
use Rattle.std.specs.Prelude.{◌==◌, count_by, Decides, All, Contains}
use Rattle.std.proofs.lemmas.Bool.{false≢true}
use Rattle.std.proofs.lemmas.List.{take-append-drop}
use Rattle.std.proofs.lemmas.List.Sums.{sum_by-append, count_by_more_yes}
use Rattle.std.proofs.lemmas.List.Elements.{All-contains, All-from_get_or}
use Rattle.ir_syntax.specs.declared.constant.Operand.{Operand}
use Rattle.ir_check.specs.Incoming.{times}
use Rattle.ir_check.specs.Suited.{entries_for, HasEdges}
use Rattle.ir_check.proofs.Edging.{same_test, other_test, split_same, count_by-cons}

abbrev Entry : Type 0
Entry = Operand × ℕ

pub count_by-take : {X : Type 0} (p : X → Bool) (n : ℕ) (xs : List X) → count_by p (take n xs) ≤ count_by p xs
count_by-take p n xs = omega (arith, sum_by-append (λ y. cond (p y) 1 0) (take n xs) (drop n xs), ap (count_by p) (take-append-drop n xs))

-- A block that has no more to take is for more entries than it was counted.
pub runs_out : (entries : List Entry) (i : ℕ) (entry : Entry) (counts old : List ℕ) → i < length entries → entry ≡ get_or entries i entry → get_or counts entry.1 0 ≡ 0 → ((from : ℕ) → get_or counts from 0 + entries_for from (take i entries) ≡ get_or old from 0) → (x : ℕ) × (get_or old x 0 < entries_for x entries)
runs_out entries i entry counts old within is none so_far =
    let test : (get_or entries i entry).1 == entry.1 ≡ true = same_test (get_or entries i entry).1 entry.1 (sym (ap (λ e. e.1) is)) in
    let more = count_by_more_yes (λ e. e.1 == entry.1) entries i entry within test in
    (entry.1, omega (arith, more, so_far entry.1, count_by-take (λ e. e.1 == entry.1) (i + 1) entries))

-- A block that is counted stands there.
pub stands_in : (from : ℕ) (blocks : List ℕ) → 0 < times from blocks → Contains blocks from
stands_in from [] some = absurd (omega arith)
stands_in from (block ∷ blocks) some = elim (split_same block from) [ inl e ↦ (0, omega arith, e) | inr e ↦ later (stands_in from blocks (rest e)) ]
  where
    rest : block ≢ from → 0 < times from blocks
    rest e =
        let step = count_by-cons (λ pred. pred == from) block blocks in
        let here : cond {A = ℕ} (block == from) 1 0 ≡ 0 = ap (λ b. cond {A = ℕ} b 1 0) (other_test block from e) in
        omega arith

    later : Contains blocks from → Contains (block ∷ blocks) from
    later at = (suc at.0, omega (arith, at.1), at.2)

-- Where no block is left, the entries name just the blocks that were counted.
fits_at : (blocks : List ℕ) (entries : List Entry) (new : List ℕ) → ((from : ℕ) → get_or new from 0 + entries_for from entries ≡ times from blocks) → All (λ block. get_or new block 0 ≡ 0) blocks → (from : ℕ) → get_or new from 0 ≡ 0
fits_at blocks entries new taken all from = by_times (times from blocks) refl
  where
    by_times : (n : ℕ) → times from blocks ≡ n → get_or new from 0 ≡ 0
    by_times zero e = omega (arith, taken from, e)
    by_times (suc n) e = All-contains (λ block. get_or new block 0 ≡ 0) blocks from all (stands_in from blocks (omega (arith, e)))

pub has_edges_fits : (blocks : List ℕ) (entries : List Entry) (old new : List ℕ) (r : Bool) → ((from : ℕ) → get_or new from 0 + entries_for from entries ≡ get_or old from 0) → ((from : ℕ) → get_or old from 0 ≡ times from blocks) → Decides r (All (λ block. get_or new block 0 ≡ 0) blocks) → Decides r (HasEdges blocks entries)
has_edges_fits blocks entries old new r taken counted decided = (
  λ e from. omega (arith, taken from, counted from, fits_at blocks entries new (λ f. taken f ∙ counted f) (decided.0 e) from),
  λ h. decided.1 (λ k d within. omega (arith, taken (get_or blocks k d), counted (get_or blocks k d), h (get_or blocks k d))),
)

pub has_edges_none : (blocks : List ℕ) (entries : List Entry) (old new : List ℕ) (r : Bool) → ((from : ℕ) → get_or new from 0 + entries_for from entries ≡ get_or old from 0) → ((from : ℕ) → get_or old from 0 ≡ times from blocks) → Decides r (All (λ block. get_or new block 0 ≡ 0) blocks) → r ≡ true → All (λ n. n ≡ 0) new
has_edges_none blocks entries old new r taken counted decided e =
    All-from_get_or (λ n. n ≡ 0) new 0 (λ i within. fits_at blocks entries new (λ f. taken f ∙ counted f) (decided.0 e) i)

pub has_edges_exceeds : (blocks : List ℕ) (entries : List Entry) (old : List ℕ) → ((from : ℕ) → get_or old from 0 ≡ times from blocks) → (x : ℕ) × (get_or old x 0 < entries_for x entries) → Decides false (HasEdges blocks entries)
has_edges_exceeds blocks entries old counted more = (λ e. absurd (false≢true e), λ h. absurd (omega (arith, more.1, counted more.0, h more.0)))

-- Entries that name just these blocks are for blocks that are there.
pub entries_there : (blocks : List ℕ) (entries : List Entry) (n : ℕ) → HasEdges blocks entries → All (λ block. block < n) blocks → All (λ entry. entry.1 < n) entries
entries_there blocks entries n fits there k d within =
    let test = same_test (get_or entries k d).1 (get_or entries k d).1 refl in
    let more = count_by_more_yes (λ e. e.1 == (get_or entries k d).1) entries k d within test in
    All-contains (λ block. block < n) blocks (get_or entries k d).1 there
    (stands_in (get_or entries k d).1 blocks (omega (arith, more, fits (get_or entries k d).1, count_by-take (λ e. e.1 == (get_or entries k d).1) (k + 1) entries)))
