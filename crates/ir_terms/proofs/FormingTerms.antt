-- A phi or a terminator that is read is one that a text can write.
use Rattle.std.proofs.Common.{ℕ, ◌<◌, not, nat_lt, List, [], ◌∷◌, length, Option, Some, None, option_map, option_and_then}
use Rattle.std.specs.Prelude.{All, IfSome, IsTrue}
use Rattle.std.proofs.lemmas.Bool.{ltb-true}
use Rattle.std.proofs.lemmas.List.Elements.{All-weaker}
use Rattle.ir_types.specs.declared.scalar.Scalar.{Scalar}
use Rattle.ir_types.specs.declared.scalar.Scalar.TheVariants.{I1}
use Rattle.ir_syntax.specs.declared.constant.Operand.{Operand}
use Rattle.ir_syntax.specs.declared.body.Term.TheVariants as term
use Rattle.ir_syntax.specs.Suits.{is_number_of}
use Rattle.ir_syntax.specs.FormedBody.{Places, IsOperand, FormedPhi, FormedTerm}
use Rattle.ir_grammar.specs.declared.shape.Shape.TheVariants as is
use Rattle.ir_grammar.specs.Tokens.{Kept}
use Rattle.ir_scope.specs.Runs.{behind, runs}
use Rattle.ir_scope.specs.Integers.{number}
use Rattle.ir_constants.specs.Constants.{is_close_square}
use Rattle.ir_operands.specs.Operands.{Names, operand_at, block_at, typed}
use Rattle.ir_terms.specs.Terms.{is_open_square, entry_at, made_phi, phi_at, ret_at, made_branch, br_at, case_at, cases_at, made_switch, switch_at}
use Rattle.ir_operands.proofs.FormingReadings.{IsRead, read-behind, read-map, read-next, read-where, read-then, read-typed, read-run, read-closed}
use Rattle.ir_operands.proofs.FormingTypes.{number-suits}
use Rattle.ir_operands.proofs.FormingOperands.{Resolves}

-- a scalar, and what is read at it
abbrev IsTyped : Places → Scalar × Operand → Type 0
IsTyped places f = IsOperand places f.0 f.1

module _ (names : Names) (places : Places) (r : Resolves names places) where
  one-read : (ks : List Kept) → IsRead (IsTyped places) (typed (operand_at names) ks)
  one-read ks = read-typed (IsOperand places) (operand_at names) ks r.operands

  -- ---- phis

  abbrev IsEntry : Scalar → Operand × ℕ → Type 0
  IsEntry ty entry = IsOperand places ty entry.0 × (entry.1 < places.blocks)

  pub entry-read : (ty : Scalar) (ks : List Kept) → IsRead (IsEntry ty) (entry_at names ty ks)
  entry-read ty [] = tt
  entry-read ty ((is.OpenSquare, text) ∷ ks) =
      read-behind (IsEntry ty) 1 _ (read-then (IsOperand places ty) (λ place. place < places.blocks) (IsEntry ty) (λ a l. (a, l)) ks (block_at names) (operand_at names ty ks) (r.operands ty ks) r.blocks (λ a l p q. (p, q)))
  entry-read ty (k ∷ ks) = tt

  made-phi : (ty : Scalar) (f : List (Operand × ℕ) × ℕ) → All (IsEntry ty) f.0 → IsRead (FormedPhi places) (made_phi ty f)
  made-phi ty f are =
      read-where (FormedPhi places) (nat_lt 0 (length f.0)) (Some (record { ty = ty; entries = f.0 }, f.1))
      (λ e. record {
        has_entry = ltb-true 0 (length f.0) e;
        has_operands = All-weaker (IsEntry ty) (λ (entry : Operand × ℕ). IsOperand places ty entry.0) (λ entry p. p.0) f.0 are;
        has_blocks = All-weaker (IsEntry ty) (λ (entry : Operand × ℕ). entry.1 < places.blocks) (λ entry p. p.1) f.0 are;
      })

  pub phi-read : (ks : List Kept) → IsRead (FormedPhi places) (phi_at names ks)
  phi-read [] = tt
  phi-read ((is.Scalar ty, text) ∷ ks) =
      read-behind (FormedPhi places) 1 _
      (read-next (All (IsEntry ty)) (FormedPhi places) (made_phi ty) (runs is_open_square (entry_at names ty) ks)
      (read-run (IsEntry ty) is_open_square (entry_at names ty) 0 ks (λ k rest begins. entry-read ty (k ∷ rest))) (made-phi ty))
  phi-read (k ∷ ks) = tt

  -- ---- terminators

  pub value-read : (ks : List Kept) → IsRead (FormedTerm places) (option_map (λ f. (term.Ret f.0.0 f.0.1, f.1)) (typed (operand_at names) ks))
  value-read ks = read-map (IsTyped places) (FormedTerm places) _ (typed (operand_at names) ks) (one-read ks) (λ f p. p)

  pub ret-read : (ks : List Kept) → IsRead (FormedTerm places) (ret_at names ks)
  ret-read [] = value-read []
  ret-read ((is.Void, text) ∷ ks) = tt
  ret-read (k ∷ ks) = value-read (k ∷ ks)

  pub jump-read : (ks : List Kept) → IsRead (FormedTerm places) (option_map (λ f. (term.Br f.0, f.1)) (block_at names ks))
  jump-read ks = read-map (λ place. place < places.blocks) (FormedTerm places) _ (block_at names ks) (r.blocks ks) (λ f p. p)

  pub br-read : (ks : List Kept) → IsRead (FormedTerm places) (br_at names ks)
  br-read [] = jump-read []
  br-read ((is.Scalar I1, text) ∷ ks) =
      read-behind (FormedTerm places) 1 _
      (read-then (IsEntry I1) (λ place. place < places.blocks) (FormedTerm places) made_branch ks (block_at names) _
      (read-then (IsOperand places I1) (λ place. place < places.blocks) (IsEntry I1) (λ cond one. (cond, one)) ks (block_at names) (operand_at names I1 ks) (r.operands I1 ks) r.blocks (λ cond one p q. (p, q)))
      r.blocks (λ f other p q. (p.0, p.1, q)))
  br-read (k ∷ ks) = jump-read (k ∷ ks)

  abbrev IsCase : Scalar → ℕ × ℕ → Type 0
  IsCase ty case = IsTrue (is_number_of ty case.0) × (case.1 < places.blocks)

  pub case-read : (ty : Scalar) (ks : List Kept) → IsRead (IsCase ty) (case_at names ty ks)
  case-read ty [] = tt
  case-read ty (k ∷ ks) = cases (number ty k) (number-suits ty k)
    where
      cases : (found : Option ℕ) → IfSome found (λ n. IsTrue (is_number_of ty n)) → IsRead (IsCase ty) (option_and_then (λ n. behind 1 (option_map (λ f. ((n, f.0), f.1)) (block_at names ks))) found)
      cases None h = tt
      cases (Some n) h = read-behind (IsCase ty) 1 _ (read-map (λ place. place < places.blocks) (IsCase ty) _ (block_at names ks) (r.blocks ks) (λ f p. (h, p)))

  pub cases-read : (ty : Scalar) (ks : List Kept) → IsRead (All (IsCase ty)) (cases_at names ty ks)
  cases-read ty ks =
      read-closed (All (IsCase ty)) is_close_square ks _ (read-run (IsCase ty) (λ shape. not (is_close_square shape)) (case_at names ty) 0 ks (λ k rest begins. case-read ty (k ∷ rest)))

  pub switch-read : (ks : List Kept) → IsRead (FormedTerm places) (switch_at names ks)
  switch-read [] = tt
  switch-read ((is.Scalar ty, text) ∷ ks) =
      read-behind (FormedTerm places) 1 _
      (read-then (IsEntry ty) (All (IsCase ty)) (FormedTerm places) (made_switch ty) ks (cases_at names ty) _
      (read-then (IsOperand places ty) (λ place. place < places.blocks) (IsEntry ty) (λ value default. (value, default)) ks (block_at names) (operand_at names ty ks) (r.operands ty ks) r.blocks (λ value default p q. (p, q)))
      (cases-read ty) (λ f cases p q. (p.0, p.1, q)))
  switch-read (k ∷ ks) = tt
