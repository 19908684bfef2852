-- The results of what is left: of each block, and of all, those that stay, in their order.
use Rattle.std.proofs.Common.{◌≡◌, ◌∙◌, ℕ, suc, ◌+◌, ◌<◌, ◌≤◌, Bool, true, false, List, [], ◌∷◌, ◌++◌, Option, None, Some, length, map, drop, refl, ap, sym, arith}
use Rattle.std.specs.Prelude.{if◌then◌else◌}
use Rattle.std.proofs.lemmas.List.{length-map}
use Rattle.ir_types.specs.declared.scalar.Scalar.{Scalar}
use Rattle.ir_syntax.specs.declared.body.Inst.{Inst}
use Rattle.ir_syntax.specs.declared.body.Phi.{Phi}
use Rattle.ir_syntax.specs.declared.body.Block.{Block}
use Rattle.ir_syntax.specs.Definite.{has_result}
use Rattle.ir_syntax.specs.Mapped.{map_operands}
use Rattle.ir_syntax.specs.Results.{result_type, block_results}
use Rattle.ir_syntax.proofs.MappedLemmas.{result-map}
use Rattle.fold_facts.specs.OfFunction.{results_in}
use Rattle.fold_facts.proofs.Numbers.{types, types_some, types_none}
use Rattle.interface.specs.Masks.{chosen, is_chosen}
use Rattle.specialise.specs.Leaving.{Leaving}
use Rattle.specialise.specs.Residual.{left_operand, left_phis, left_entries, stays, left_insts, left_term, left_blocks}
use Rattle.residual_laws.proofs.Ranks.{chosen_none, chosen_step, chosen_append, chosen_out}

-- ---- phis

pub phis_types : (w : Leaving) (place n : ℕ) (phis : List Phi) → map (λ phi. phi.ty) (left_phis w place n phis) ≡ chosen (drop n w.kept) (map (λ phi. phi.ty) phis)
phis_types w place n [] = sym (chosen_none (drop n w.kept))
phis_types w place n (phi ∷ more) = by (is_chosen w.kept n) (phis_types w place (suc n) more) ∙ sym (chosen_step w.kept n phi.ty (map (λ p. p.ty) more))
  where
    by : (b : Bool) → map (λ (p : Phi). p.ty) (left_phis w place (suc n) more) ≡ chosen (drop (suc n) w.kept) (map (λ (p : Phi). p.ty) more)
        → map (λ (p : Phi). p.ty) ((if b then record { ty = phi.ty; entries = left_entries w place [] phi.entries } ∷ [] else []) ++ left_phis w place (suc n) more)
        ≡ (if b then phi.ty ∷ [] else []) ++ chosen (drop (suc n) w.kept) (map (λ (p : Phi). p.ty) more)
    by true h = ap (λ l. phi.ty ∷ l) h
    by false h = h

-- ---- other instructions

pub insts_types : (w : Leaving) (n : ℕ) (insts : List Inst) → types (left_insts w n insts) ≡ chosen (drop n w.kept) (types insts)
insts_types w n [] = sym (chosen_none (drop n w.kept))
insts_types w n (inst ∷ more) = by (result_type inst) refl (λ m. insts_types w m more)
  where
    made : Inst
    made = map_operands (left_operand w) inst

    one : (b : Bool) (ty : Scalar) → result_type inst ≡ Some ty → types (left_insts w (n + 1) more) ≡ chosen (drop (n + 1) w.kept) (types more)
        → types ((if b then made ∷ [] else []) ++ left_insts w (n + 1) more) ≡ (if b then ty ∷ [] else []) ++ chosen (drop (suc n) w.kept) (types more)
    one true ty e h = types_some made ty (left_insts w (n + 1) more) (result-map (left_operand w) inst ∙ e) ∙ ap (λ l. ty ∷ l) (h ∙ ap (λ m. chosen (drop m w.kept) (types more)) (next n))
      where
        next : (m : ℕ) → m + 1 ≡ suc m
        next m = omega arith
    one false ty e h = h ∙ ap (λ m. chosen (drop m w.kept) (types more)) (next n)
      where
        next : (m : ℕ) → m + 1 ≡ suc m
        next m = omega arith

    by : (o : Option Scalar) → result_type inst ≡ o → ((m : ℕ) → types (left_insts w m more) ≡ chosen (drop m w.kept) (types more))
        → types ((if stays w n o then made ∷ [] else []) ++ left_insts w (n + has_result o) more) ≡ chosen (drop n w.kept) (types (inst ∷ more))
    by None e h =
        let same : n + 0 ≡ n = omega arith in
        types_none made (left_insts w (n + 0) more) (result-map (left_operand w) inst ∙ e) ∙ h (n + 0) ∙ ap (λ m. chosen (drop m w.kept) (types more)) same
        ∙ sym (ap (chosen (drop n w.kept)) (types_none inst more e))
    by (Some ty) e h =
        one (is_chosen w.kept n) ty e (h (n + 1)) ∙ sym (chosen_step w.kept n ty (types more)) ∙ sym (ap (chosen (drop n w.kept)) (types_some inst ty more e))

-- ---- blocks

-- what is left of a block that is reached
abbrev pub made : Leaving → ℕ → ℕ → Block → Block
made w place first block = record { phis = left_phis w place first block.phis; insts = left_insts w (first + length block.phis) block.insts; term = left_term w block.term }

pub block_types : (w : Leaving) (place first : ℕ) (block : Block) → block_results (made w place first block) ≡ chosen (drop first w.kept) (block_results block)
block_types w place first block =
    ap (λ l. l ++ types (left_insts w (first + length block.phis) block.insts)) (phis_types w place first block.phis)
    ∙ ap (λ l. chosen (drop first w.kept) (map (λ (p : Phi). p.ty) block.phis) ++ l) (insts_types w (first + length block.phis) block.insts)
    ∙ ap (λ n. chosen (drop first w.kept) (map (λ (p : Phi). p.ty) block.phis) ++ chosen (drop (first + n) w.kept) (types block.insts)) (sym (length-map block.phis (λ (p : Phi). p.ty)))
    ∙ sym (chosen_append w.kept first (map (λ (p : Phi). p.ty) block.phis) (types block.insts))

-- Of blocks that aren't reached no result stays.
abbrev pub AreOut : Leaving → ℕ → ℕ → List Block → Type 0
AreOut w place first [] = Unit {0}
AreOut w place first (block ∷ more) =
    (is_chosen w.reached place ≡ false → (r : ℕ) → first ≤ r → r < first + length (block_results block) → is_chosen w.kept r ≡ false) × AreOut w (suc place) (first + length (block_results block)) more

pub blocks_types : (w : Leaving) (place first : ℕ) (blocks : List Block) → AreOut w place first blocks → results_in (left_blocks w place first blocks) ≡ chosen (drop first w.kept) (results_in blocks)
blocks_types w place first [] out = sym (chosen_none (drop first w.kept))
blocks_types w place first (block ∷ more) out = by (is_chosen w.reached place) refl (blocks_types w (suc place) (first + length (block_results block)) more out.1) ∙ sym (chosen_append w.kept first (block_results block) (results_in more))
  where
    rest : List Block
    rest = left_blocks w (suc place) (first + length (block_results block)) more

    by : (b : Bool) → is_chosen w.reached place ≡ b → results_in rest ≡ chosen (drop (first + length (block_results block)) w.kept) (results_in more) → results_in ((if b then made w place first block ∷ [] else []) ++ rest)
        ≡ chosen (drop first w.kept) (block_results block) ++ chosen (drop (first + length (block_results block)) w.kept) (results_in more)
    by true e after = ap (λ l. block_results (made w place first block) ++ l) after
        ∙ ap (λ l. l ++ chosen (drop (first + length (block_results block)) w.kept) (results_in more)) (block_types w place first block)
    by false e after = after ∙ sym (ap (λ l. l ++ chosen (drop (first + length (block_results block)) w.kept) (results_in more)) (chosen_out w.kept first (block_results block) (out.0 e)))
