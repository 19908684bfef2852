-- The law on formed bodies.
use Rattle.std.proofs.Common.{◌≡◌, ℕ, zero, suc, ◌+◌, ◌≤◌, Bool, true, false, List, [], ◌∷◌, ◌++◌, Option, None, Some, length, map, sum, refl, ap, sym, subst, arith}
use Rattle.std.specs.Prelude.{slice_get, IsSome, if◌then◌else◌}
use Rattle.std.proofs.lemmas.List.Sums.{sum_by-cons}
use Rattle.ir_types.specs.declared.scalar.Scalar.{Scalar}
use Rattle.ir_types.specs.declared.scalar.Known.{Known}
use Rattle.ir_types.proofs.ListSteps.{All-at}
use Rattle.ir_syntax.specs.declared.body.Inst.{Inst}
use Rattle.ir_syntax.specs.declared.body.Phi.{Phi}
use Rattle.ir_syntax.specs.declared.body.Block.{Block}
use Rattle.ir_syntax.specs.declared.body.Body.{Body}
use Rattle.ir_syntax.specs.declared.item.Func.{Func}
use Rattle.ir_syntax.specs.declared.item.Item.{Item}
use Rattle.ir_syntax.specs.declared.item.Param.{Param}
use Rattle.ir_syntax.specs.FormedBody.{FormedInst, FormedPhi, FormedBlock, FormedBody, places_of}
use Rattle.ir_syntax.specs.Mapped.{map_operands}
use Rattle.ir_syntax.specs.Operands.{operands}
use Rattle.ir_syntax.specs.Results.{result_type, block_results, block_count, count}
use Rattle.ir_syntax.specs.Definite.{first_result, has_result}
use Rattle.ir_syntax.specs.Typed.{TypedInst}
use Rattle.fold_facts.specs.Assigned.{Assigned}
use Rattle.fold_facts.specs.Places.{blocks_in}
use Rattle.interface.specs.Masks.{rank, is_chosen}
use Rattle.interface.specs.Summaries.{reached}
use Rattle.specialise.specs.Leaving.{Leaving, leaving}
use Rattle.specialise.specs.Residual.{left_operand, left_phis, stays, left_insts, left_blocks, residual}
use Rattle.residual_laws.specs.Left.{IsLeft}
use Rattle.residual_laws.proofs.Every.{Every, all_of_every, every_at, every_by, every_to}
use Rattle.residual_laws.proofs.Flags.{reached_flag}
use Rattle.residual_laws.proofs.Held.{Held, held}
use Rattle.residual_laws.proofs.Insts.{InstFits, inst_fits}
use Rattle.residual_laws.proofs.Left.{left_of, left_is, chosen_reached, formed_block}
use Rattle.residual_laws.proofs.Numbering.{made}
use Rattle.residual_laws.proofs.Operands.{types_of, left_body}
use Rattle.residual_laws.proofs.Phis.{made_phi, phi_formed}
use Rattle.residual_laws.proofs.Staying.{OperandStays, block_stays}
use Rattle.residual_laws.proofs.Terms.{left_count, place_within, typed_block, term_fits}

-- ---- what is left is no more

pub rank_within : (mask : List Bool) (k : ℕ) → rank mask k ≤ k
rank_within [] k = omega arith
rank_within (flag ∷ mask) zero = omega arith
rank_within (true ∷ mask) (suc k) = omega (arith, rank_within mask k)
rank_within (false ∷ mask) (suc k) = omega (arith, rank_within mask k)

phis_fewer : (w : Leaving) (place n : ℕ) (phis : List Phi) → length (left_phis w place n phis) ≤ length phis
phis_fewer w place n [] = omega arith
phis_fewer w place n (phi ∷ more) = by (is_chosen w.kept n) (phis_fewer w place (suc n) more)
  where
    by : (b : Bool) → length (left_phis w place (suc n) more) ≤ length more → length ((if b then made_phi w place phi ∷ [] else []) ++ left_phis w place (suc n) more) ≤ suc (length more)
    by true h = omega (arith, h)
    by false h = omega (arith, h)

insts_fewer : (w : Leaving) (n : ℕ) (insts : List Inst) → length (left_insts w n insts) ≤ length insts
insts_fewer w n [] = omega arith
insts_fewer w n (inst ∷ more) = by (stays w n (result_type inst)) (insts_fewer w (n + has_result (result_type inst)) more)
  where
    by : (b : Bool) → length (left_insts w (n + has_result (result_type inst)) more) ≤ length more
        → length ((if b then map_operands (left_operand w) inst ∷ [] else []) ++ left_insts w (n + has_result (result_type inst)) more) ≤ suc (length more)
    by true h = omega (arith, h)
    by false h = omega (arith, h)

blocks_fewer : (w : Leaving) (place first : ℕ) (blocks : List Block) → count (record { blocks = left_blocks w place first blocks }) ≤ count (record { blocks = blocks })
blocks_fewer w place first [] = omega arith
blocks_fewer w place first (block ∷ more) = by (is_chosen w.reached place) (blocks_fewer w (suc place) (first + length (block_results block)) more)
  where
    rest : List Block
    rest = left_blocks w (suc place) (first + length (block_results block)) more

    whole : sum (map block_count (block ∷ more)) ≡ block_count block + sum (map block_count more)
    whole = sum_by-cons (λ n. n) (block_count block) (map block_count more)

    by : (b : Bool) → sum (map block_count rest) ≤ sum (map block_count more) → sum (map block_count ((if b then made w place first block ∷ [] else []) ++ rest)) ≤ sum (map block_count (block ∷ more))
    by true h =
        let own : sum (map block_count (made w place first block ∷ rest)) ≡ block_count (made w place first block) + sum (map block_count rest) = sum_by-cons (λ n. n) (block_count (made w place first block)) (map block_count rest) in
        omega (arith, h, own, whole, phis_fewer w place first block.phis, insts_fewer w (first + length block.phis) block.insts)
    by false h = omega (arith, h, whole)

-- ---- each of what is left

pub phis_each : (P : Phi → Type 0) (w : Leaving) (place n : ℕ) (phis : List Phi) → Every (λ phi. P (made_phi w place phi)) phis → Every P (left_phis w place n phis)
phis_each P w place n [] h = tt
phis_each P w place n (phi ∷ more) h = by (is_chosen w.kept n) (phis_each P w place (suc n) more h.1)
  where
    by : (b : Bool) → Every P (left_phis w place (suc n) more) → Every P ((if b then made_phi w place phi ∷ [] else []) ++ left_phis w place (suc n) more)
    by true g = (h.0, g)
    by false g = g

pub insts_each : (P : Inst → Type 0) (w : Leaving) (n : ℕ) (insts : List Inst) → Every (λ inst. P (map_operands (left_operand w) inst)) insts → Every P (left_insts w n insts)
insts_each P w n [] h = tt
insts_each P w n (inst ∷ more) h = by (stays w n (result_type inst)) (insts_each P w (n + has_result (result_type inst)) more h.1)
  where
    by : (b : Bool) → Every P (left_insts w (n + has_result (result_type inst)) more) → Every P ((if b then map_operands (left_operand w) inst ∷ [] else []) ++ left_insts w (n + has_result (result_type inst)) more)
    by true g = (h.0, g)
    by false g = g

-- ---- blocks

pub insts_fit : (items : List Item) (params : List Scalar) (returns : Option Scalar) (known : List Known) (body : Body) (a : Assigned) (at : ℕ) (block : Block) → Held items params returns known body a → slice_get body.blocks at ≡ Some block
    → is_chosen (reached a body.blocks) at ≡ true → Every (λ inst. InstFits items params (left_body known body a) (map_operands (left_operand (leaving known body.blocks a)) inst)) block.insts
insts_fit items params returns known body a at block h here set =
    every_by (λ inst. InstFits items params (left_body known body a) (map_operands (left_operand (leaving known body.blocks a)) inst)) block.insts (λ k inst is.
    let formed = All-at (FormedInst (places_of items (length params) body)) block.insts k inst (formed_block items params returns known body a at block h here).insts is in
    let typed = All-at (TypedInst (types_of items params body)) block.insts k inst (typed_block items params returns known body a at block h here).insts is in
    let stays_all = (block_stays items params returns known body a at block h here (chosen_reached a body.blocks at set)).insts in
    inst_fits items params returns known body a inst h (record { formed = formed; typed = typed }) (every_at (λ (i : Inst). Every (OperandStays body.blocks a) (operands i)) block.insts k inst stays_all is))

block_formed : (items : List Item) (params : List Scalar) (returns : Option Scalar) (known : List Known) (body : Body) (a : Assigned) (at : ℕ) (block : Block) → Held items params returns known body a → slice_get body.blocks at ≡ Some block
    → is_chosen (reached a body.blocks) at ≡ true → FormedBlock (places_of items (length params) (left_body known body a)) (made (leaving known body.blocks a) at (first_result body.blocks at) block)
block_formed items params returns known body a at block h here set =
    let w = leaving known body.blocks a in
    let first = first_result body.blocks at in
    let places = places_of items (length params) (left_body known body a) in
    record {
      phis = all_of_every (FormedPhi places) (left_phis w at first block.phis) (phis_each (FormedPhi places) w at first block.phis
          (every_by (λ phi. FormedPhi places (made_phi w at phi)) block.phis (λ k phi is. phi_formed items params returns known body a at k block phi (record { holds = h; here = here; set = set; is = is }))));
      insts = all_of_every (FormedInst places) (left_insts w (first + length block.phis) block.insts) (insts_each (FormedInst places) w (first + length block.phis) block.insts
          (every_to (λ inst. InstFits items params (left_body known body a) (map_operands (left_operand w) inst)) (λ inst. FormedInst places (map_operands (left_operand w) inst)) block.insts (λ inst f. f.formed) (insts_fit items params returns known body a at block h here set)));
      term = (term_fits items params returns known body a at block h here set).formed;
    }

-- ---- bodies

body_formed : (items : List Item) (params : List Scalar) (returns : Option Scalar) (known : List Known) (body : Body) (a : Assigned) → Held items params returns known body a → FormedBody items (length params) (left_body known body a)
body_formed items params returns known body a h =
    let w = leaving known body.blocks a in
    let first = place_within known body a 0 (reached_flag a body.blocks 0 h.formed.has_block) in
    let long = left_count known body a in
    record {
      has_block = omega (arith, first);
      few_blocks = omega (arith, long, rank_within (reached a body.blocks) (length body.blocks), h.formed.few_blocks);
      few_insts = omega (arith, blocks_fewer w 0 0 body.blocks, h.formed.few_insts);
      has_blocks = all_of_every (FormedBlock (places_of items (length params) (left_body known body a))) (left_of known body a) (every_by (FormedBlock (places_of items (length params) (left_body known body a))) (left_of known body a) (λ k b is.
          let l = left_is known body a k b is in
          subst (FormedBlock (places_of items (length params) (left_body known body a))) (sym l.is) (block_formed items params returns known body a l.at l.block h l.here l.set)));
    }

-- What is left of a function is formed.
pub left_formed : (items : List Item) (known : List Known) (func : Func) (a : Assigned) → IsLeft items known func a → FormedBody items (length func.params) (residual known func a)
left_formed items known func a h = by func.body refl h.defined
  where
    by : (o : Option Body) → func.body ≡ o → IsSome func.body → FormedBody items (length func.params) (residual known func a)
    by None e some = absurd (none (subst IsSome e some))
      where
        none : IsSome {T = Body} None → ⊥
        none s = cc
    by (Some body) e some =
        subst (λ (o : Option Body). FormedBody items (length func.params) (record { blocks = left_blocks (leaving known (blocks_in o) a) 0 0 (blocks_in o) })) (sym e)
        (subst (λ n. FormedBody items n (left_body known body a)) (params_long func.params) (body_formed items (map (λ param. param.ty) func.params) func.returns known body a (held items known func a body h e)))
      where
        params_long : (params : List Param) → length (map (λ (param : Param). param.ty) params) ≡ length params
        params_long [] = refl
        params_long (p ∷ ps) = ap suc (params_long ps)
