-- Phis and blocks suit the blocks that edges come from where each of their parts does.
use Rattle.std.proofs.Common.{◌≡◌, ℕ, Bool, false, List, Option, sym, ◌∙◌, subst}
use Rattle.std.specs.Prelude.{Decides, All}
use Rattle.std.proofs.lemmas.Bool.{false≢true}
use Rattle.ir_syntax.specs.declared.constant.Operand.{Operand}
use Rattle.ir_syntax.specs.declared.body.Phi.{Phi}
use Rattle.ir_types.specs.declared.scalar.Scalar.{Scalar}
use Rattle.ir_syntax.specs.declared.body.Inst.{Inst}
use Rattle.ir_syntax.specs.declared.body.Block.{Block}
use Rattle.ir_syntax.specs.Typed.{Types, HasType, TypedInst, TypedTerm}
use Rattle.ir_check.specs.Suited.{HasEdges, SuitsPhi, SuitsBlock}
use Rattle.ir_check.proofs.Agreeing.{Agree}

abbrev Entry : Type 0
Entry = Operand × ℕ

pub phi_without_edges : (types : Types) (blocks : List ℕ) (phi : Phi) (entries : List Entry) → entries ≡ phi.entries → Decides false (HasEdges blocks entries) → Decides false (SuitsPhi types blocks phi)
phi_without_edges types blocks phi entries same decided = (λ e. absurd (false≢true e), λ suits. decided.1 (subst (HasEdges blocks) (sym same) suits.edges))

pub phi_without_agreement : (types : Types) (blocks : List ℕ) (phi : Phi) (entries : List Entry) (r : Bool) → r ≡ false → entries ≡ phi.entries → Decides r (Agree entries) → Decides r (SuitsPhi types blocks phi)
phi_without_agreement types blocks phi entries r is_not same decided = (λ e. absurd (false≢true (sym is_not ∙ e)), λ suits. decided.1 (subst Agree (sym same) suits.agree))

pub phi_with_types : (types : Types) (blocks : List ℕ) (phi : Phi) (entries : List Entry) (r : Bool) → entries ≡ phi.entries → HasEdges blocks entries → Agree entries → Decides r (All (λ entry. HasType types phi.ty entry.0) entries) → Decides r (SuitsPhi types blocks phi)
phi_with_types types blocks phi entries r same edges agree decided = (
  λ e. record { edges = subst (HasEdges blocks) same edges; agree = subst Agree same agree; has_types = subst AreTyped same (decided.0 e) },
  λ suits. decided.1 (subst AreTyped (sym same) suits.has_types),
)
  where
    AreTyped : List Entry → Type 0
    AreTyped = All (λ entry. HasType types phi.ty entry.0)

pub block_without_phis : (types : Types) (returns : Option Scalar) (preds : List ℕ) (block : Block) (phis : List Phi) → phis ≡ block.phis → Decides false (All (SuitsPhi types preds) phis) → Decides false (SuitsBlock types returns preds block)
block_without_phis types returns preds block phis same decided = (λ e. absurd (false≢true e), λ suits. decided.1 (subst (All (SuitsPhi types preds)) (sym same) suits.phis))

pub block_with_insts : (types : Types) (returns : Option Scalar) (preds : List ℕ) (block : Block) (phis : List Phi) (insts : List Inst) (r : Bool) → phis ≡ block.phis → insts ≡ block.insts → All (SuitsPhi types preds) phis → TypedTerm types returns block.term → Decides r (All (TypedInst types) insts) → Decides r (SuitsBlock types returns preds block)
block_with_insts types returns preds block phis insts r same_phis same_insts suit term decided = (
  λ e. record { phis = subst (All (SuitsPhi types preds)) same_phis suit; insts = subst (All (TypedInst types)) same_insts (decided.0 e); term = term },
  λ suits. decided.1 (subst (All (TypedInst types)) (sym same_insts) suits.insts),
)
