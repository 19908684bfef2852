-- The names of a written function are well: each has bytes enough and not too many, and no two are one.
use Rattle.std.proofs.Common.{◌≡◌, ◌∙◌, ℕ, zero, suc, ◌+◌, ◌<◌, ◌≤◌, ◌^◌, ◌%◌, Bool, true, false, not, eqb, bytes_eq, List, [], ◌∷◌, ◌++◌, length, map, refl, sym, ap, arith}
use Rattle.std.specs.List.{list_all}
use Rattle.std.specs.Fmt.{decimal}
use Rattle.std.proofs.lemmas.List.{append-nil, map-append}
use Rattle.std.proofs.lemmas.List.Folds.{list_all-append}
use Rattle.std.proofs.lemmas.Fmt.{decimal_by_steps, length-decimal-le}
use Rattle.std.proofs.lemmas.Bool.{and_from, cond-false, not_from_false, ne_eqb, lt-ltb, le-leb}
use Rattle.name_table.specs.Places.{is_among, are_distinct}
use Rattle.ir_locals.specs.declared.local.Local.TheVariants.{Param, Reg, Block}
use Rattle.ir_locals.specs.Locals.{Local, is_name, numbered, are_locals}
use Rattle.round_trip.proofs.Locals.Texts.{lettered, lettered_from, written_params, written_results, written_blocks, written_locals}
use Rattle.round_trip.proofs.Locals.Found.{AreApart, numbers_apart}

-- ---- names

-- no byte is zero
abbrev no_zeros : List ℕ → Bool
no_zeros bytes = list_all (λ byte. not (eqb byte 0)) bytes

digit_is_some : (d : ℕ) → no_zeros ((48 + d) ∷ []) ≡ true
digit_is_some d = and_from (not (eqb (48 + d) 0)) true (not_from_false (eqb (48 + d) 0) (ne_eqb (48 + d) 0 (λ e. absurd (omega (arith, e))))) refl

no_zeros_in : (n : ℕ) → n < 2 ^ 64 → no_zeros (decimal n) ≡ true
no_zeros_in = decimal_by_steps (λ n ds. no_zeros ds ≡ true)
    (λ n small. digit_is_some n)
    (λ n ds large front. list_all-append (λ byte. not (eqb byte 0)) ds ((48 + n % 10) ∷ []) ∙ and_from (no_zeros ds) (no_zeros ((48 + n % 10) ∷ [])) front (digit_is_some (n % 10)))

lettered_is_name : (letter k : ℕ) → eqb letter 0 ≡ false → k < 2 ^ 64 → is_name (lettered letter k) ≡ true
lettered_is_name letter k some small =
    let short : length (decimal k) ≤ 20 = length-decimal-le 20 k (omega arith) (omega arith) small in
    and_from _ _
    (and_from _ _ (lt-ltb 0 (length (lettered letter k)) (omega arith)) (le-leb (length (lettered letter k)) 4096 (omega arith)))
    (and_from (not (eqb letter 0)) _ (not_from_false _ some) (no_zeros_in k small))

abbrev are_names : List (List ℕ × Local) → Bool
are_names locals = list_all (λ (l : List ℕ × Local). is_name l.0) locals

numbered_are_names : (stands : ℕ → Local) (letter k n : ℕ) → eqb letter 0 ≡ false → k + n < 2 ^ 64 → are_names (numbered stands k (lettered_from letter k n)) ≡ true
numbered_are_names stands letter k zero some small = refl
numbered_are_names stands letter k (suc n) some small =
    and_from (is_name (lettered letter k)) (are_names (numbered stands (suc k) (lettered_from letter (suc k) n))) (lettered_is_name letter k some (omega arith)) (numbered_are_names stands letter (suc k) n some (omega (arith, small)))

-- ---- distinct names

names_of_numbered : (stands : ℕ → Local) (k : ℕ) (names : List (List ℕ)) → map (λ (l : List ℕ × Local). l.0) (numbered stands k names) ≡ names
names_of_numbered stands k [] = refl
names_of_numbered stands k (name ∷ names) = ap (λ ns. name ∷ ns) (names_of_numbered stands (suc k) names)

-- a name before names of higher numbers
absent_higher : (letter k j n : ℕ) (more : List (List ℕ)) → k < j → j + n < 2 ^ 64 → is_among (lettered letter k) more ≡ false → is_among (lettered letter k) (lettered_from letter j n ++ more) ≡ false
absent_higher letter k j zero more less small out = out
absent_higher letter k j (suc n) more less small out =
    cond-false (bytes_eq (lettered letter k) (lettered letter j)) true _ (numbers_apart letter k j (omega arith) (omega arith) (λ e. absurd (omega (arith, e))))
    ∙ absent_higher letter k (suc j) n more (omega arith) (omega (arith, small)) out

absent_letter : (letter other k j n : ℕ) (more : List (List ℕ)) → AreApart letter other → is_among (lettered letter k) more ≡ false → is_among (lettered letter k) (lettered_from other j n ++ more) ≡ false
absent_letter letter other k j zero more apart out = out
absent_letter letter other k j (suc n) more apart out =
    cond-false (bytes_eq (lettered letter k) (lettered other j)) true _ (apart k j) ∙ absent_letter letter other k (suc j) n more apart out

distinct_before : (letter k n : ℕ) (more : List (List ℕ)) → k + n < 2 ^ 64 → ((j : ℕ) → is_among (lettered letter j) more ≡ false) → are_distinct more ≡ true → are_distinct (lettered_from letter k n ++ more) ≡ true
distinct_before letter k zero more small out distinct = distinct
distinct_before letter k (suc n) more small out distinct =
    and_from (not (is_among (lettered letter k) (lettered_from letter (suc k) n ++ more))) (are_distinct (lettered_from letter (suc k) n ++ more))
    (not_from_false _ (absent_higher letter k (suc k) n more (omega arith) (omega (arith, small)) (out k)))
    (distinct_before letter (suc k) n more (omega (arith, small)) out distinct)

module _ (n r b : ℕ) (few_params : n < 2 ^ 64) (few_results : r < 2 ^ 64) (few_blocks : b < 2 ^ 64) where
  all_names : map (λ (l : List ℕ × Local). l.0) (written_locals n r b) ≡ written_params n ++ (written_results r ++ written_blocks b)
  all_names =
      map-append (λ (l : List ℕ × Local). l.0) (numbered Param 0 (written_params n)) (numbered Reg 0 (written_results r) ++ numbered Block 0 (written_blocks b))
      ∙ ap (λ ns. map (λ (l : List ℕ × Local). l.0) (numbered Param 0 (written_params n)) ++ ns) (map-append (λ (l : List ℕ × Local). l.0) (numbered Reg 0 (written_results r)) (numbered Block 0 (written_blocks b)))
      ∙ (λ j. names_of_numbered Param 0 (written_params n) j ++ (names_of_numbered Reg 0 (written_results r) j ++ names_of_numbered Block 0 (written_blocks b) j))

  blocks_distinct : are_distinct (written_blocks b) ≡ true
  blocks_distinct = ap are_distinct (sym (append-nil (written_blocks b))) ∙ distinct_before 98 0 b [] (omega arith) (λ j. refl) refl

  absent_in_blocks : (letter j : ℕ) → AreApart letter 98 → is_among (lettered letter j) (written_blocks b) ≡ false
  absent_in_blocks letter j apart = ap (is_among (lettered letter j)) (sym (append-nil (written_blocks b))) ∙ absent_letter letter 98 j 0 b [] apart refl

  results_distinct : are_distinct (written_results r ++ written_blocks b) ≡ true
  results_distinct = distinct_before 118 0 r (written_blocks b) (omega arith) (λ j. absent_in_blocks 118 j (λ k i. refl)) blocks_distinct

  all_distinct : are_distinct (written_params n ++ (written_results r ++ written_blocks b)) ≡ true
  all_distinct =
      distinct_before 97 0 n (written_results r ++ written_blocks b) (omega arith)
      (λ j. absent_letter 97 118 j 0 r (written_blocks b) (λ k i. refl) (absent_in_blocks 97 j (λ k i. refl))) results_distinct

  pub locals_are : are_locals (written_locals n r b) ≡ true
  locals_are =
      and_from (are_names (written_locals n r b)) (are_distinct (map (λ (l : List ℕ × Local). l.0) (written_locals n r b)))
      (list_all-append (λ (l : List ℕ × Local). is_name l.0) (numbered Param 0 (written_params n)) (numbered Reg 0 (written_results r) ++ numbered Block 0 (written_blocks b))
      ∙ and_from _ _ (numbered_are_names Param 97 0 n refl (omega arith))
      (list_all-append (λ (l : List ℕ × Local). is_name l.0) (numbered Reg 0 (written_results r)) (numbered Block 0 (written_blocks b))
      ∙ and_from _ _ (numbered_are_names Reg 118 0 r refl (omega arith)) (numbered_are_names Block 98 0 b refl (omega arith))))
      (ap are_distinct all_names ∙ all_distinct)
