-- A line that is read is one that a text can write.
use Rattle.std.proofs.Common.{ℕ, List, [], ◌∷◌, Option, Some, None, option_map}
use Rattle.std.specs.Prelude.{IfSome}
use Rattle.ir_syntax.specs.declared.body.Inst.{Inst}
use Rattle.ir_syntax.specs.declared.body.Term.{Term}
use Rattle.ir_syntax.specs.declared.body.Phi.{Phi}
use Rattle.ir_syntax.specs.FormedBody.{Places, FormedInst, FormedPhi, FormedTerm}
use Rattle.ir_grammar.specs.declared.shape.Shape.{Shape}
use Rattle.ir_grammar.specs.declared.shape.Shape.TheVariants as is
use Rattle.ir_grammar.specs.Tokens.{Kept}
use Rattle.ir_operands.specs.Operands.{Names}
use Rattle.ir_calls.specs.Calls.{call_at}
use Rattle.ir_body.specs.Lines.{Line, Labelled, OfPhi, OfInst, Dropped, Ends, dropped_or, inst_line, term_line, verb_at, line_at}
use Rattle.ir_insts.specs.Insts.{bin_at, icmp_at, select_at, cast_at, alloca_at, load_at, store_at, gep_at}
use Rattle.ir_terms.specs.Terms.{phi_at, ret_at, br_at, switch_at}
use Rattle.ir_operands.proofs.FormingReadings.{IsRead, read-behind}
use Rattle.ir_operands.proofs.FormingOperands.{Resolves}
use Rattle.ir_calls.proofs.FormingCalls.{call-read}
use Rattle.ir_insts.proofs.FormingInsts.{bin-read, icmp-read, select-read, cast-read, alloca-read, load-read, store-read, gep-read}
use Rattle.ir_terms.proofs.FormingTerms.{phi-read, ret-read, br-read, switch-read}

-- what a line stands for is one that a text can write
abbrev pub IsLine : Places → Line → Type 0
IsLine places Labelled = Unit {0}
IsLine places (OfPhi phi) = FormedPhi places phi
IsLine places (OfInst i) = FormedInst places i
IsLine places Dropped = Unit {0}
IsLine places (Ends t) = FormedTerm places t

module _ (names : Names) (places : Places) (r : Resolves names places) where
  inst-line : (found : Option (Inst × ℕ)) → IsRead (FormedInst places) found → IsRead (IsLine places) (inst_line found)
  inst-line None h = tt
  inst-line (Some f) h = h

  term-line : (found : Option (Term × ℕ)) → IsRead (FormedTerm places) found → IsRead (IsLine places) (term_line found)
  term-line None h = tt
  term-line (Some f) h = h

  phi-line : (found : Option (Phi × ℕ)) → IsRead (FormedPhi places) found → IsRead (IsLine places) (option_map (λ f. (OfPhi f.0, f.1)) found)
  phi-line None h = tt
  phi-line (Some f) h = h

  call-line : (found : Option (Option Inst × ℕ)) → IsRead (λ i. IfSome i (FormedInst places)) found → IsRead (IsLine places) (option_map (λ f. (dropped_or f.0, f.1)) found)
  call-line None h = tt
  call-line (Some (None, n)) h = tt
  call-line (Some (Some i, n)) h = h

  verb-read : (shape : Shape) (ks : List Kept) → IsRead (IsLine places) (verb_at names shape ks)
  verb-read (is.Bin op) ks = inst-line (bin_at names op ks) (bin-read names places r op ks)
  verb-read is.Icmp ks = inst-line (icmp_at names ks) (icmp-read names places r ks)
  verb-read is.Select ks = inst-line (select_at names ks) (select-read names places r ks)
  verb-read (is.Cast op) ks = inst-line (cast_at names op ks) (cast-read names places r op ks)
  verb-read is.Alloca ks = inst-line (alloca_at names ks) (alloca-read names places r ks)
  verb-read is.Load ks = inst-line (load_at names ks) (load-read names places r ks)
  verb-read is.Store ks = inst-line (store_at names ks) (store-read names places r ks)
  verb-read is.Gep ks = inst-line (gep_at names ks) (gep-read names places r ks)
  verb-read is.Call ks = call-line (call_at names ks) (call-read names places r ks)
  verb-read is.Phi ks = phi-line (phi_at names ks) (phi-read names places r ks)
  verb-read is.Ret ks = term-line (ret_at names ks) (ret-read names places r ks)
  verb-read is.Br ks = term-line (br_at names ks) (br-read names places r ks)
  verb-read is.Switch ks = term-line (switch_at names ks) (switch-read names places r ks)
  verb-read is.Unreachable ks = tt
  verb-read shape ks = tt

  pub line-read : (ks : List Kept) → IsRead (IsLine places) (line_at names ks)
  line-read [] = tt
  line-read ((is.Label, text) ∷ ks) = tt
  line-read ((is.Result, text) ∷ []) = tt
  line-read ((is.Result, text) ∷ k ∷ ks) = read-behind (IsLine places) 2 (verb_at names k.0 ks) (verb-read k.0 ks)
  line-read (k ∷ ks) = read-behind (IsLine places) 1 (verb_at names k.0 ks) (verb-read k.0 ks)
