-- The grammar takes the tokens of phis and terminators.
use Rattle.std.proofs.Common.{◌≡◌, ℕ, ◌<◌, true, false, List, [], ◌∷◌, ◌++◌, length, map, refl, arith}
use Rattle.std.specs.Prelude.{All, flat_map}
use Rattle.std.proofs.lemmas.List.Elements.{All-head, All-tail}
use Rattle.ir_types.specs.declared.scalar.Scalar.{Scalar}
use Rattle.ir_types.specs.declared.scalar.Scalar.TheVariants.{I1, I8, I16, I32, I64, Ptr}
use Rattle.ir_syntax.specs.declared.constant.Operand.{Operand}
use Rattle.ir_syntax.specs.declared.body.Phi.{Phi}
use Rattle.ir_syntax.specs.declared.body.Term.{Term}
use Rattle.ir_syntax.specs.declared.body.Term.TheVariants as term
use Rattle.ir_syntax.specs.FormedBody.{Places, IsOperand, FormedPhi, FormedTerm}
use Rattle.ir_grammar.specs.declared.shape.Shape.TheVariants as is
use Rattle.ir_grammar.specs.declared.grammar.Keep.TheVariants as keep
use Rattle.ir_grammar.specs.declared.grammar.Item.TheVariants as item
use Rattle.ir_grammar.specs.declared.grammar.Name.TheVariants as the
use Rattle.ir_grammar.specs.declared.grammar.Terminal.TheVariants as a
use Rattle.ir_grammar.specs.Items as grammar
use Rattle.ir_grammar.specs.Mirrors.Walk.{Taken, settle}
use Rattle.ir_writer.specs.Words.{close_square, listed, more}
use Rattle.ir_writer.specs.Instructions.{entry_parts, phi_parts, case_parts, term_parts}
use Rattle.round_trip.proofs.Grammar.Kept.{joined, close_square_kept, entry_kept, phi_kept, case_kept, term_kept}
use Rattle.round_trip.proofs.Grammar.Parts.{Through, nothing, spaced, keeps, drops, passes, then_on, Said}
use Rattle.round_trip.proofs.Grammar.Words.{scalar_shape}
use Rattle.round_trip.proofs.Grammar.Singles.{count_through}
use Rattle.round_trip.proofs.Grammar.Quiet.{past_attachments, past_entries}
use Rattle.round_trip.proofs.Grammar.Operands.{AreNames, operand_through}
use Rattle.round_trip.proofs.Grammar.Walking.{Items, end_square}

-- the type of a switch
switch_taken : (ty : Scalar) (next : Items) →
    settle (is.Scalar ty) (item.One the.SwitchType ∷ next)
    ≡ Taken keep.Keeps (item.One the.Operand ∷ grammar.comma ∷ grammar.label ∷ grammar.a_local ∷ grammar.open_square ∷ item.Many (the.Case ty) ∷ end_square ∷ next)
switch_taken I1 next = refl
switch_taken I8 next = refl
switch_taken I16 next = refl
switch_taken I32 next = refl
switch_taken I64 next = refl
switch_taken Ptr next = refl

-- the type of a case of it
case_taken : (ty : Scalar) (next : Items) → settle (is.Scalar ty) (item.Many (the.Case ty) ∷ end_square ∷ next) ≡ Taken keep.Drops (item.One the.Number ∷ grammar.comma ∷ grammar.label ∷ grammar.a_local ∷ item.Many (the.Case ty) ∷ end_square ∷ next)
case_taken I1 next = refl
case_taken I8 next = refl
case_taken I16 next = refl
case_taken I32 next = refl
case_taken I64 next = refl
case_taken Ptr next = refl

cases_through : (ty : Scalar) (cases : List (ℕ × ℕ)) (next : Items) →
    Through (item.Many (the.Case ty) ∷ end_square ∷ next) (flat_map (case_parts ty) cases ++ close_square ∷ []) (joined (map (case_kept ty) cases) ++ close_square_kept ∷ []) next
cases_through ty [] next = keeps refl refl refl (nothing next)
cases_through ty (case ∷ cases) next =
    drops (scalar_shape ty) refl (case_taken ty next)
    (spaced (then_on (count_through ty case.0 (grammar.comma ∷ grammar.label ∷ grammar.a_local ∷ item.Many (the.Case ty) ∷ end_square ∷ next))
    (drops refl refl refl (spaced (drops refl refl refl (spaced (keeps refl refl refl (spaced (cases_through ty cases next)))))))))

module _ (names : List (List ℕ)) (are : AreNames names) (places : Places) where
  -- ---- phis

  abbrev entry_items : Items → Items
  entry_items next = grammar.kept (a.Only is.OpenSquare) ∷ item.One the.Operand ∷ grammar.comma ∷ grammar.a_local ∷ grammar.close_square ∷ next

  entry_through : (ty : Scalar) (entry : Operand × ℕ) → IsOperand places ty entry.0 → (next : Items) →
      Through (entry_items next) (entry_parts names ty entry) (entry_kept names ty entry) next
  entry_through ty entry formed next =
      keeps refl refl refl
      (spaced (then_on (operand_through names are places ty entry.0 formed (grammar.comma ∷ grammar.a_local ∷ grammar.close_square ∷ next))
      (drops refl refl refl (spaced (keeps refl refl refl (spaced (drops refl refl refl (nothing next))))))))

  entries_through : (ty : Scalar) (entries : List (Operand × ℕ)) → All (λ (entry : Operand × ℕ). IsOperand places ty entry.0) entries → (next : Items) →
      Through (item.May the.EntryPart ∷ next) (more (map (entry_parts names ty) entries)) (joined (map (entry_kept names ty) entries)) (item.May the.EntryPart ∷ next)
  entries_through ty [] formed next = nothing (item.May the.EntryPart ∷ next)
  entries_through ty (entry ∷ entries) formed next =
      drops refl refl refl
      (spaced (then_on (passes refl refl (entry_through ty entry (All-head (λ (entry : Operand × ℕ). IsOperand places ty entry.0) entry entries formed) (item.May the.EntryPart ∷ next)))
      (entries_through ty entries (All-tail (λ (entry : Operand × ℕ). IsOperand places ty entry.0) entry entries formed) next)))

  listed_through : (ty : Scalar) (entries : List (Operand × ℕ)) → 0 < length entries → All (λ (entry : Operand × ℕ). IsOperand places ty entry.0) entries → (next : Items) →
      Through (entry_items (item.May the.EntryPart ∷ next)) (listed (map (entry_parts names ty) entries)) (joined (map (entry_kept names ty) entries)) (item.May the.EntryPart ∷ next)
  listed_through ty [] some formed next = absurd (omega arith)
  listed_through ty (entry ∷ entries) some formed next =
      then_on (entry_through ty entry (All-head (λ (entry : Operand × ℕ). IsOperand places ty entry.0) entry entries formed) (item.May the.EntryPart ∷ next))
      (entries_through ty entries (All-tail (λ (entry : Operand × ℕ). IsOperand places ty entry.0) entry entries formed) next)

  pub phi_said : (phi : Phi) → FormedPhi places phi → (next : Items) → Said (item.One (the.NamedLine true) ∷ next) (phi_parts names phi) (phi_kept names phi) (item.One (the.Lines true) ∷ next)
  phi_said phi formed next = record {
    left = item.May the.EntryPart ∷ item.One (the.Lines true) ∷ next;
    through = keeps refl refl refl (spaced (keeps (scalar_shape phi.ty) refl refl (spaced (listed_through phi.ty phi.entries formed.has_entry formed.has_operands (item.One (the.Lines true) ∷ next)))));
    quiet = past_entries (item.One (the.Lines true) ∷ next);
  }

  -- ---- terminators

  term_through : (t : Term) → FormedTerm places t → (next : Items) → Through (item.One (the.Lines false) ∷ next) (term_parts names t) (term_kept names t) (item.Many the.CommaAttachment ∷ next)
  term_through term.RetVoid formed next = keeps refl refl refl (spaced (keeps refl refl refl (nothing (item.Many the.CommaAttachment ∷ next))))
  term_through (term.Ret ty value) formed next =
      keeps refl refl refl (spaced (keeps (scalar_shape ty) refl refl (spaced (operand_through names are places ty value formed (item.Many the.CommaAttachment ∷ next)))))
  term_through (term.Br to) formed next = keeps refl refl refl (spaced (drops refl refl refl (spaced (keeps refl refl refl (nothing (item.Many the.CommaAttachment ∷ next))))))
  term_through (term.CondBr cond one other) formed next =
      keeps refl refl refl
      (spaced (keeps refl refl refl
      (spaced (then_on (operand_through names are places I1 cond formed.0 (grammar.comma ∷ grammar.label ∷ grammar.a_local ∷ grammar.comma ∷ grammar.label ∷ grammar.a_local ∷ item.Many the.CommaAttachment ∷ next))
      (drops refl refl refl
      (spaced (drops refl refl refl
      (spaced (keeps refl refl refl
      (drops refl refl refl (spaced (drops refl refl refl (spaced (keeps refl refl refl (nothing (item.Many the.CommaAttachment ∷ next))))))))))))))))
  term_through (term.Switch ty value default cases) formed next =
      keeps refl refl refl
      (spaced (keeps (scalar_shape ty) refl (switch_taken ty (item.Many the.CommaAttachment ∷ next))
      (spaced (then_on (operand_through names are places ty value formed.0 (grammar.comma ∷ grammar.label ∷ grammar.a_local ∷ grammar.open_square ∷ item.Many (the.Case ty) ∷ end_square ∷ item.Many the.CommaAttachment ∷ next))
      (drops refl refl refl (spaced (drops refl refl refl (spaced (keeps refl refl refl (spaced (drops refl refl refl (spaced (cases_through ty cases (item.Many the.CommaAttachment ∷ next))))))))))))))
  term_through term.Unreachable formed next = keeps refl refl refl (nothing (item.Many the.CommaAttachment ∷ next))

  pub term_said : (t : Term) → FormedTerm places t → (next : Items) → Said (item.One (the.Lines false) ∷ next) (term_parts names t) (term_kept names t) next
  term_said t formed next = record { left = item.Many the.CommaAttachment ∷ next; through = term_through t formed next; quiet = past_attachments next }
