-- The grammar takes the tokens of each instruction, phi and terminator.
use Rattle.std.proofs.Common.{◌≡◌, ◌^◌, ℕ, Bool, true, false, ◌&&◌, List, [], ◌∷◌, ltb, refl}
use Rattle.std.specs.Prelude.{is_some}
use Rattle.std.specs.List.{list_all}
use Rattle.std.proofs.lemmas.Bool.{and_parts}
use Rattle.ir_lexer.specs.Written.{spellings_of}
use Rattle.ir_types.specs.declared.scalar.Scalar.{Scalar}
use Rattle.ir_syntax.specs.declared.constant.Operand.{Operand}
use Rattle.ir_syntax.specs.declared.body.Phi.{Phi}
use Rattle.ir_syntax.specs.declared.body.Inst.{Inst}
use Rattle.ir_syntax.specs.declared.body.Inst.TheVariants as inst
use Rattle.ir_syntax.specs.declared.body.Term.{Term}
use Rattle.ir_syntax.specs.FormedBody.{Places, FormedInst, FormedPhi, FormedTerm}
use Rattle.ir_syntax.specs.Results.{result_type}
use Rattle.ir_grammar.specs.declared.grammar.Item.TheVariants as item
use Rattle.ir_grammar.specs.declared.grammar.Name.TheVariants as the
use Rattle.ir_writer.specs.Instructions.{inst_parts, phi_parts, term_parts}
use Rattle.ir_writer.specs.Ranges.{is_type_in_range, is_operand_in_range, is_inst_in_range}
use Rattle.round_trip.proofs.Grammar.Kept.{inst_kept, phi_kept, term_kept}
use Rattle.round_trip.proofs.Grammar.Walking.{Takes, Items}
use Rattle.round_trip.proofs.Grammar.Goes.{no_records}
use Rattle.round_trip.proofs.Grammar.Parts.{Said, said_takes}
use Rattle.round_trip.proofs.Grammar.Quiet.{past_attachments}
use Rattle.round_trip.proofs.Grammar.Operands.{AreNames}
use Rattle.round_trip.proofs.Grammar.Values.{bin_said, icmp_said, select_said, cast_through, alloca_said, load_said, gep_said}
use Rattle.round_trip.proofs.Grammar.Calls.{call_said}
use Rattle.round_trip.proofs.Grammar.Void.{store_said, void_call_said}
use Rattle.round_trip.proofs.Grammar.Terminators.{phi_said, term_said}

module _ (names : List (List ℕ)) (are : AreNames names) (places : Places) where
  -- ---- instructions that have a result

  named_said : (i : Inst) → FormedInst places i → is_inst_in_range i ≡ true → is_some (result_type i) ≡ true → (next : Items) → Said (item.One (the.NamedLine false) ∷ next) (inst_parts names i) (inst_kept names i) (item.One (the.Lines false) ∷ next)
  named_said (inst.Bin op flags ty a b) formed range some next = bin_said names are places op flags ty a b formed next
  named_said (inst.Icmp pred ty a b) formed range some next = icmp_said names are places pred ty a b formed next
  named_said (inst.Select ty cond a b) formed range some next = select_said names are places ty cond a b formed next
  named_said (inst.Cast op nneg from to a) formed range some next =
      record { left = item.Many the.CommaAttachment ∷ item.One (the.Lines false) ∷ next; through = cast_through names are places op nneg from to a formed next; quiet = past_attachments (item.One (the.Lines false) ∷ next) }
  named_said (inst.Alloca ty count align) formed range some next = alloca_said names are places ty count align (and_parts (is_type_in_range ty) (ltb count (2 ^ 64)) range).0 formed.1 next
  named_said (inst.Load ty at align) formed range some next = load_said names are places ty at align formed next
  named_said (inst.Store ty value at align) formed range some next = cc
  named_said (inst.Gep inbounds ty base indices) formed range some next =
      let both = and_parts (is_type_in_range ty && is_operand_in_range base) (list_all (λ (index : Scalar × Operand). is_operand_in_range index.1) indices) range in
      gep_said names are places inbounds ty base indices (and_parts (is_type_in_range ty) (is_operand_in_range base) both.0).0 formed next
  named_said (inst.Call fn_ty ret_ext callee args) formed range some next = call_said names are places fn_ty ret_ext callee args some formed next

  pub inst_takes : (i : Inst) → FormedInst places i → is_inst_in_range i ≡ true → is_some (result_type i) ≡ true → (next : Items) → Takes (item.One (the.NamedLine false) ∷ next) (spellings_of (inst_parts names i)) (inst_kept names i) (item.One (the.Lines false) ∷ next)
  inst_takes i formed range some next = said_takes (named_said i formed range some next)

  -- ---- instructions that have none

  bare_said : (phis : Bool) (i : Inst) → FormedInst places i → is_some (result_type i) ≡ false → (next : Items) → Said (item.One (the.Lines phis) ∷ next) (inst_parts names i) (inst_kept names i) (item.One (the.Lines false) ∷ next)
  bare_said phis (inst.Store ty value at align) formed none next = store_said names are places phis ty value at align formed next
  bare_said phis (inst.Call fn_ty ret_ext callee args) formed none next = void_call_said names are places phis next fn_ty ret_ext callee args none formed
  bare_said phis _ formed none next = cc

  pub bare_takes : (phis : Bool) (i : Inst) → FormedInst places i → is_some (result_type i) ≡ false → (next : Items) → Takes (item.One (the.Lines phis) ∷ next) (spellings_of (inst_parts names i)) (inst_kept names i) (item.One (the.Lines false) ∷ next)
  bare_takes phis i formed none next = said_takes (bare_said phis i formed none next)

  -- no token of an instruction begins a debug record
  pub inst_clean : (i : Inst) → FormedInst places i → is_inst_in_range i ≡ true → no_records (spellings_of (inst_parts names i)) ≡ true
  inst_clean i formed range = by_result (is_some (result_type i)) refl
    where
      by_result : (b : Bool) → is_some (result_type i) ≡ b → no_records (spellings_of (inst_parts names i)) ≡ true
      by_result true e = let h = named_said i formed range e [] in h.through.clean
      by_result false e = let h = bare_said false i formed e [] in h.through.clean

  -- ---- phis and terminators

  pub phi_takes : (phi : Phi) → FormedPhi places phi → (next : Items) → Takes (item.One (the.NamedLine true) ∷ next) (spellings_of (phi_parts names phi)) (phi_kept names phi) (item.One (the.Lines true) ∷ next)
  phi_takes phi formed next = said_takes (phi_said names are places phi formed next)

  pub phi_clean : (phi : Phi) → FormedPhi places phi → no_records (spellings_of (phi_parts names phi)) ≡ true
  phi_clean phi formed = let h = phi_said names are places phi formed [] in h.through.clean

  pub term_takes : (t : Term) → FormedTerm places t → (next : Items) → Takes (item.One (the.Lines false) ∷ next) (spellings_of (term_parts names t)) (term_kept names t) next
  term_takes t formed next = said_takes (term_said names are places t formed next)

  pub term_clean : (t : Term) → FormedTerm places t → no_records (spellings_of (term_parts names t)) ≡ true
  term_clean t formed = let h = term_said names are places t formed [] in h.through.clean
