-- What the names of a written function stand for.
use Rattle.std.proofs.Common.{◌≡◌, ◌∙◌, ℕ, zero, suc, ◌+◌, ◌<◌, ◌^◌, true, false, bytes_eq, List, [], ◌++◌, Some, refl, sym, ap, arith}
use Rattle.std.specs.Fmt.{decimal}
use Rattle.std.proofs.lemmas.List.{append-nil}
use Rattle.std.proofs.lemmas.Slice.Eq.{bytes_eq-Decides}
use Rattle.std.proofs.lemmas.Fmt.{decimal_injective}
use Rattle.std.proofs.lemmas.Bool.{cond-true, cond-false, false_from_ne_true}
use Rattle.ir_locals.specs.declared.local.Local.TheVariants.{Param, Reg, Block}
use Rattle.ir_locals.specs.Locals.{Local, local_name, numbered, local_among}
use Rattle.ir_writer.specs.Instructions.{param_text, result_text, block_text}
use Rattle.round_trip.proofs.Locals.Texts.{lettered, lettered_from, written_results, written_blocks, written_locals, param_name, reg_name, block_name}

-- ---- one name and another

same_bytes : (xs ys : List ℕ) → xs ≡ ys → bytes_eq xs ys ≡ true
same_bytes xs ys e = (bytes_eq-Decides xs ys).1 e

-- a letter with two numbers
pub numbers_apart : (letter k j : ℕ) → k < 2 ^ 64 → j < 2 ^ 64 → (k ≡ j → ⊥) → bytes_eq (lettered letter k) (lettered letter j) ≡ false
numbers_apart letter k j small below differ = false_from_ne_true _ (λ t.
    let same : lettered letter k ≡ lettered letter j = (bytes_eq-Decides (lettered letter k) (lettered letter j)).0 t in
    let digits : decimal k ≡ decimal j = cc in
    differ (decimal_injective k j small below digits))

-- Two letters begin no name alike.
abbrev pub AreApart : ℕ → ℕ → Type 0
AreApart letter other = (k j : ℕ) → bytes_eq (lettered letter k) (lettered other j) ≡ false

-- ---- look-ups

found_here : (stands : ℕ → Local) (letter k n j : ℕ) (more : List (List ℕ × Local)) → j < n → k + n < 2 ^ 64 →
    local_among (numbered stands k (lettered_from letter k n) ++ more) (lettered letter (k + j)) ≡ Some (stands (k + j))
found_here stands letter k zero j more within small = absurd (omega arith)
found_here stands letter k (suc n) zero more within small =
    let e : k + 0 ≡ k = omega arith in
    cond-true (bytes_eq (lettered letter (k + 0)) (lettered letter k)) (Some (stands k)) _ (same_bytes _ _ (ap (lettered letter) e)) ∙ sym (ap (λ i. Some (stands i)) e)
found_here stands letter k (suc n) (suc j) more within small =
    let e : k + suc j ≡ suc k + j = omega arith in
    cond-false (bytes_eq (lettered letter (k + suc j)) (lettered letter k)) (Some (stands k)) _ (numbers_apart letter (k + suc j) k (omega arith) (omega arith) (λ same. absurd (omega (arith, same))))
    ∙ ap (local_among (numbered stands (suc k) (lettered_from letter (suc k) n) ++ more)) (ap (lettered letter) e)
    ∙ found_here stands letter (suc k) n j more (omega arith) (omega (arith, small))
    ∙ sym (ap (λ i. Some (stands i)) e)

found_behind : (stands : ℕ → Local) (letter other k n j : ℕ) (more : List (List ℕ × Local)) → AreApart letter other →
    local_among (numbered stands k (lettered_from other k n) ++ more) (lettered letter j) ≡ local_among more (lettered letter j)
found_behind stands letter other k zero j more apart = refl
found_behind stands letter other k (suc n) j more apart =
    cond-false (bytes_eq (lettered letter j) (lettered other k)) (Some (stands k)) _ (apart j k) ∙ found_behind stands letter other (suc k) n j more apart

module _ (n r b : ℕ) where
  abbrev results_and_blocks : List (List ℕ × Local)
  results_and_blocks = numbered Reg 0 (written_results r) ++ numbered Block 0 (written_blocks b)

  pub param_found : (k : ℕ) → k < n → n < 2 ^ 64 → local_among (written_locals n r b) (local_name (param_text k)) ≡ Some (Param k)
  param_found k within small =
      let e : 0 + k ≡ k = omega arith in
      ap (local_among (written_locals n r b)) (param_name k ∙ ap (lettered 97) (sym e))
      ∙ found_here Param 97 0 n k results_and_blocks within (omega arith) ∙ ap (λ i. Some (Param i)) e

  pub result_found : (k : ℕ) → k < r → r < 2 ^ 64 → local_among (written_locals n r b) (local_name (result_text k)) ≡ Some (Reg k)
  result_found k within small =
      let e : 0 + k ≡ k = omega arith in
      ap (local_among (written_locals n r b)) (reg_name k ∙ ap (lettered 118) (sym e))
      ∙ found_behind Param 118 97 0 n (0 + k) results_and_blocks (λ i j. refl)
      ∙ found_here Reg 118 0 r k (numbered Block 0 (written_blocks b)) within (omega arith) ∙ ap (λ i. Some (Reg i)) e

  pub block_found : (k : ℕ) → k < b → b < 2 ^ 64 → local_among (written_locals n r b) (local_name (block_text k)) ≡ Some (Block k)
  block_found k within small =
      let e : 0 + k ≡ k = omega arith in
      ap (local_among (written_locals n r b)) (block_name k ∙ ap (lettered 98) (sym e))
      ∙ found_behind Param 98 97 0 n (0 + k) results_and_blocks (λ i j. refl)
      ∙ found_behind Reg 98 118 0 r (0 + k) (numbered Block 0 (written_blocks b)) (λ i j. refl)
      ∙ ap (λ ls. local_among ls (lettered 98 (0 + k))) (sym (append-nil (numbered Block 0 (written_blocks b))))
      ∙ found_here Block 98 0 b k [] within (omega arith) ∙ ap (λ i. Some (Block i)) e
