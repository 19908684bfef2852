-- Phis and terminators are read again.
use Rattle.std.proofs.Common.{◌≡◌, ◌∙◌, ℕ, ◌<◌, Bool, true, false, not, cond, ◌==◌, nat_lt, codes, List, [], ◌∷◌, ◌++◌, length, map, Some, None, option_map, option_and_then, refl, ap}
use Rattle.std.specs.Prelude.{All, IsTrue}
use Rattle.std.specs.List.{list_all}
use Rattle.std.proofs.lemmas.Bool.{and_parts, cond-true, lt-ltb}
use Rattle.std.proofs.lemmas.List.Elements.{All-nil, All-cons, All-head, All-tail}
use Rattle.ir_types.specs.declared.scalar.Scalar.{Scalar}
use Rattle.ir_types.specs.declared.scalar.Scalar.TheVariants.{I1, I8, I16, I32, I64, Ptr}
use Rattle.ir_syntax.specs.declared.constant.Operand.{Operand}
use Rattle.ir_syntax.specs.declared.body.Phi.{Phi}
use Rattle.ir_syntax.specs.declared.body.Term.{Term}
use Rattle.ir_syntax.specs.declared.body.Term.TheVariants as term
use Rattle.ir_syntax.specs.Suits.{is_number_of}
use Rattle.ir_syntax.specs.FormedBody.{Places, IsOperand, FormedPhi, FormedTerm}
use Rattle.ir_grammar.specs.declared.shape.Shape.TheVariants as is
use Rattle.ir_grammar.specs.declared.shape.Value.TheVariants as val
use Rattle.ir_grammar.specs.Tokens.{Kept}
use Rattle.ir_scope.specs.Runs.{behind, begins_with, runs}
use Rattle.ir_constants.specs.Constants.{is_close_square}
use Rattle.ir_operands.specs.Operands.{Names, operand_at, block_at, then_at}
use Rattle.ir_terms.specs.Terms.{is_open_square, entry_at, made_phi, phi_at, ret_at, made_branch, br_at, case_at, cases_at, made_switch, switch_at}
use Rattle.ir_writer.specs.Ranges.{is_operand_in_range, is_phi_in_range}
use Rattle.round_trip.proofs.Grammar.Kept.{Lexemes, joined, scalar_kept, integer_kept, operand_kept, typed_kept, block_kept_name, entry_kept, case_kept, close_square_kept}
use Rattle.round_trip.proofs.Lines.Words.{one_more, then_back, joined_back, ended_back}
use Rattle.round_trip.proofs.Lines.Aligns.{begins_quietly, no_entry}
use Rattle.round_trip.proofs.Lines.Names.{ReadsBack}
use Rattle.round_trip.proofs.Constants.Runs.{IsReadBack, runs_back}
use Rattle.round_trip.proofs.Lines.Instructions.{value_back}

-- Digits and truths close nothing.
number_begins : (ty : Scalar) (n : ℕ) (ks : Lexemes) → begins_with (λ shape. not (is_close_square shape)) (integer_kept ty n ∷ ks) ≡ true
number_begins I1 n ks = cases (n == 0)
  where
    cases : (b : Bool) → not (is_close_square (cond {A = Kept} b (is.Value val.False, codes "false") (is.Value val.True, codes "true")).0) ≡ true
    cases true = refl
    cases false = refl
number_begins I8 n ks = refl
number_begins I16 n ks = refl
number_begins I32 n ks = refl
number_begins I64 n ks = refl
number_begins Ptr n ks = refl

module _ (names : List (List ℕ)) (N : Names) (places : Places) (r : ReadsBack names N places) where
  -- ---- phis

  abbrev in_range : Operand × ℕ → Bool
  in_range entry = is_operand_in_range entry.0

  -- An entry is read again, whatever follows.
  abbrev IsEntryBack : Scalar → Operand × ℕ → Type 0
  IsEntryBack ty entry = IsReadBack is_open_square (entry_at N ty) entry (entry_kept names ty entry)

  entry_back : (ty : Scalar) (entry : Operand × ℕ) → IsOperand places ty entry.0 → entry.1 < places.blocks → is_operand_in_range entry.0 ≡ true → IsEntryBack ty entry
  entry_back ty entry is_there less has = record {
    starts = refl;
    back = λ rest. one_more entry (length (operand_kept names ty entry.0 ++ block_kept_name entry.1 ∷ [])) _
        (then_back {Z = Operand × ℕ} (λ a l. (a, l)) (operand_at N ty) (block_at N) entry.0 entry.1 (operand_kept names ty entry.0) (block_kept_name entry.1 ∷ []) rest
        (r.operands ty entry.0 is_there has (block_kept_name entry.1 ∷ rest)) (r.blocks entry.1 less rest));
  }

  entries_back : (ty : Scalar) (entries : List (Operand × ℕ)) → All (λ (entry : Operand × ℕ). IsOperand places ty entry.0) entries → All (λ (entry : Operand × ℕ). entry.1 < places.blocks) entries →
      list_all in_range entries ≡ true → All (IsEntryBack ty) entries
  entries_back ty [] are less has = All-nil (IsEntryBack ty)
  entries_back ty (entry ∷ entries) are less has =
      let two = and_parts (in_range entry) (list_all in_range entries) has in
      All-cons (IsEntryBack ty) entry entries
      (entry_back ty entry (All-head (λ (entry : Operand × ℕ). IsOperand places ty entry.0) entry entries are) (All-head (λ (entry : Operand × ℕ). entry.1 < places.blocks) entry entries less) two.0)
      (entries_back ty entries (All-tail (λ (entry : Operand × ℕ). IsOperand places ty entry.0) entry entries are) (All-tail (λ (entry : Operand × ℕ). entry.1 < places.blocks) entry entries less) two.1)

  pub phi_read : (phi : Phi) → FormedPhi places phi → is_phi_in_range phi ≡ true → (rest : Lexemes) → begins_quietly rest ≡ true →
      phi_at N ((scalar_kept phi.ty ∷ joined (map (entry_kept names phi.ty) phi.entries)) ++ rest) ≡ Some (phi, length (scalar_kept phi.ty ∷ joined (map (entry_kept names phi.ty) phi.entries)))
  phi_read phi formed has rest quiet =
      one_more phi (length (joined (map (entry_kept names phi.ty) phi.entries))) _
      (ap (option_and_then (made_phi phi.ty))
      (runs_back is_open_square (entry_at N phi.ty) (entry_kept names phi.ty) phi.entries rest (entries_back phi.ty phi.entries formed.has_operands formed.has_blocks has) (no_entry rest quiet))
      ∙ cond-true (nat_lt 0 (length phi.entries)) _ None (lt-ltb 0 (length phi.entries) formed.has_entry))

  -- ---- terminators

  pub ret_back : (ty : Scalar) (value : Operand) → IsOperand places ty value → is_operand_in_range value ≡ true → (rest : Lexemes) → ret_at N (typed_kept names ty value ++ rest) ≡ Some (term.Ret ty value, length (typed_kept names ty value))
  ret_back ty value is_there has rest = ap (option_map (λ f. (term.Ret f.0.0 f.0.1, f.1))) (value_back names N places r ty value (r.operands ty value is_there has) rest)

  pub br_back : (to : ℕ) → to < places.blocks → (rest : Lexemes) → br_at N (block_kept_name to ∷ rest) ≡ Some (term.Br to, 1)
  br_back to less rest = ap (option_map (λ f. (term.Br f.0, f.1))) (r.blocks to less rest)

  pub branch_back : (cond : Operand) (one other : ℕ) → FormedTerm places (term.CondBr cond one other) → is_operand_in_range cond ≡ true → (rest : Lexemes) →
      br_at N ((typed_kept names I1 cond ++ block_kept_name one ∷ block_kept_name other ∷ []) ++ rest) ≡ Some (term.CondBr cond one other, length (typed_kept names I1 cond ++ block_kept_name one ∷ block_kept_name other ∷ []))
  branch_back cond one other formed has rest =
      one_more (term.CondBr cond one other) (length (operand_kept names I1 cond ++ block_kept_name one ∷ block_kept_name other ∷ [])) _
      (joined_back (λ ks. then_at made_branch ks (block_at N) (then_at (λ cond one. (cond, one)) ks (block_at N) (operand_at N I1 ks))) (term.CondBr cond one other) (operand_kept names I1 cond) (block_kept_name one ∷ []) (block_kept_name other ∷ []) rest
      (then_back {Z = Term} made_branch (λ ks. then_at (λ cond one. (cond, one)) ks (block_at N) (operand_at N I1 ks)) (block_at N) (cond, one) other (operand_kept names I1 cond ++ block_kept_name one ∷ []) (block_kept_name other ∷ []) rest
      (then_back {Z = Operand × ℕ} (λ cond one. (cond, one)) (operand_at N I1) (block_at N) cond one (operand_kept names I1 cond) (block_kept_name one ∷ []) (block_kept_name other ∷ rest)
      (r.operands I1 cond formed.0 has (block_kept_name one ∷ block_kept_name other ∷ rest)) (r.blocks one formed.1 (block_kept_name other ∷ rest)))
      (r.blocks other formed.2 rest)))

  abbrev IsCase : Scalar → ℕ × ℕ → Type 0
  IsCase ty case = IsTrue (is_number_of ty case.0) × (case.1 < places.blocks)

  -- A case is read again, whatever follows.
  abbrev IsCaseBack : Scalar → ℕ × ℕ → Type 0
  IsCaseBack ty case = IsReadBack (λ shape. not (is_close_square shape)) (case_at N ty) case (case_kept ty case)

  case_back : (ty : Scalar) (case : ℕ × ℕ) → IsCase ty case → IsCaseBack ty case
  case_back ty case is_there = record {
    starts = number_begins ty case.0 (block_kept_name case.1 ∷ []);
    back = λ rest.
        ap (option_and_then (λ n. behind 1 (option_map (λ f. ((n, f.0), f.1)) (block_at N (block_kept_name case.1 ∷ rest))))) (r.numbers ty case.0 is_there.0)
        ∙ one_more case 1 _ (ap (option_map (λ f. ((case.0, f.0), f.1))) (r.blocks case.1 is_there.1 rest));
  }

  cases_back : (ty : Scalar) (cases : List (ℕ × ℕ)) → All (IsCase ty) cases → All (IsCaseBack ty) cases
  cases_back ty [] are = All-nil (IsCaseBack ty)
  cases_back ty (case ∷ cases) are =
      All-cons (IsCaseBack ty) case cases
      (case_back ty case (All-head (IsCase ty) case cases are)) (cases_back ty cases (All-tail (IsCase ty) case cases are))

  pub switch_back : (ty : Scalar) (value : Operand) (default : ℕ) (cases : List (ℕ × ℕ)) → FormedTerm places (term.Switch ty value default cases) → is_operand_in_range value ≡ true → (rest : Lexemes) →
      switch_at N ((typed_kept names ty value ++ block_kept_name default ∷ (joined (map (case_kept ty) cases) ++ close_square_kept ∷ [])) ++ rest)
      ≡ Some (term.Switch ty value default cases, length (typed_kept names ty value ++ block_kept_name default ∷ (joined (map (case_kept ty) cases) ++ close_square_kept ∷ [])))
  switch_back ty value default cases formed has rest =
      one_more (term.Switch ty value default cases) (length (operand_kept names ty value ++ block_kept_name default ∷ written)) _
      (joined_back (λ ks. then_at (made_switch ty) ks (cases_at N ty) (then_at (λ value default. (value, default)) ks (block_at N) (operand_at N ty ks))) (term.Switch ty value default cases)
      (operand_kept names ty value) (block_kept_name default ∷ []) written rest
      (then_back {Z = Term} (made_switch ty) (λ ks. then_at (λ value default. (value, default)) ks (block_at N) (operand_at N ty ks)) (cases_at N ty) (value, default) cases (operand_kept names ty value ++ block_kept_name default ∷ []) written rest
      (then_back {Z = Operand × ℕ} (λ value default. (value, default)) (operand_at N ty) (block_at N) value default (operand_kept names ty value) (block_kept_name default ∷ []) (written ++ rest)
      (r.operands ty value formed.0 has (block_kept_name default ∷ (written ++ rest))) (r.blocks default formed.1 (written ++ rest)))
      (ended_back is_close_square (runs (λ shape. not (is_close_square shape)) (case_at N ty)) cases (joined (map (case_kept ty) cases)) close_square_kept rest
      (runs_back (λ shape. not (is_close_square shape)) (case_at N ty) (case_kept ty) cases (close_square_kept ∷ rest) (cases_back ty cases formed.2) refl) refl)))
    where
      written : Lexemes
      written = joined (map (case_kept ty) cases) ++ close_square_kept ∷ []
