-- The lines of a body: labels, phis, instructions and terminators.
use Rattle.std.specs.Prelude.{ℕ, ◌∷◌, [], Option, Some, None, option_map}
use Rattle.ir_syntax.specs.declared.body.Inst.{Inst}
use Rattle.ir_syntax.specs.declared.body.Term.{Term}
use Rattle.ir_syntax.specs.declared.body.Term.TheVariants as term
use Rattle.ir_syntax.specs.declared.body.Phi.{Phi}
use Rattle.ir_grammar.specs.declared.shape.Shape.{Shape}
use Rattle.ir_grammar.specs.declared.shape.Shape.TheVariants as is
use Rattle.ir_scope.specs.Runs.{Reading, behind}
use Rattle.ir_operands.specs.Operands.{Names}
use Rattle.ir_calls.specs.Calls.{call_at}
pub use Rattle.ir_insts.specs.Insts.{bin_at, icmp_at, select_at, cast_at, count_at, made_alloca, alloca_at, made_load, load_at, made_store, store_at, is_integer, made_gep, gep_at}
pub use Rattle.ir_terms.specs.Terms.{is_open_square, entry_at, made_phi, phi_at, ret_at, made_branch, br_at, case_at, cases_at, made_switch, switch_at}

-- A line: the label of a block, a phi, an instruction, one that is dropped, or a terminator, which ends its block.
pub data Line : Type 0 where
  Labelled : Line
  OfPhi : (phi : Phi) → Line
  OfInst : (inst : Inst) → Line
  Dropped : Line
  Ends : (term : Term) → Line

abbrev pub dropped_or : Option Inst → Line
dropped_or None = Dropped
dropped_or (Some i) = OfInst i

abbrev pub inst_line : Option (Inst × ℕ) → Option (Line × ℕ)
inst_line found = option_map (λ f. (OfInst f.0, f.1)) found

abbrev pub term_line : Option (Term × ℕ) → Option (Line × ℕ)
term_line found = option_map (λ f. (Ends f.0, f.1)) found

-- what follows a word
abbrev pub verb_at : Names → Shape → Reading Line
verb_at names (is.Bin op) ks = inst_line (bin_at names op ks)
verb_at names is.Icmp ks = inst_line (icmp_at names ks)
verb_at names is.Select ks = inst_line (select_at names ks)
verb_at names (is.Cast op) ks = inst_line (cast_at names op ks)
verb_at names is.Alloca ks = inst_line (alloca_at names ks)
verb_at names is.Load ks = inst_line (load_at names ks)
verb_at names is.Store ks = inst_line (store_at names ks)
verb_at names is.Gep ks = inst_line (gep_at names ks)
verb_at names is.Call ks = option_map (λ f. (dropped_or f.0, f.1)) (call_at names ks)
verb_at names is.Phi ks = option_map (λ f. (OfPhi f.0, f.1)) (phi_at names ks)
verb_at names is.Ret ks = term_line (ret_at names ks)
verb_at names is.Br ks = term_line (br_at names ks)
verb_at names is.Switch ks = term_line (switch_at names ks)
verb_at names is.Unreachable ks = Some (Ends term.Unreachable, 0)
verb_at names _ ks = None

-- a label, or a line with or without the name of its result
abbrev pub line_at : Names → Reading Line
line_at names [] = None
line_at names ((is.Label, text) ∷ ks) = Some (Labelled, 1)
line_at names ((is.Result, text) ∷ []) = None
line_at names ((is.Result, text) ∷ k ∷ ks) = behind 2 (verb_at names k.0 ks)
line_at names (k ∷ ks) = behind 1 (verb_at names k.0 ks)
