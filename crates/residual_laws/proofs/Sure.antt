-- Uses stand before the end of their blocks.
use Rattle.std.proofs.Common.{◌≡◌, ◌∙◌, ℕ, zero, suc, ◌+◌, ◌≤◌, List, [], ◌∷◌, Option, None, Some, All, length, refl, ap, subst, arith}
use Rattle.std.specs.Prelude.{slice_get, flat_map}
use Rattle.ir_types.specs.declared.scalar.Scalar.{Scalar}
use Rattle.ir_syntax.specs.declared.constant.Operand.{Operand}
use Rattle.ir_syntax.specs.declared.constant.Operand.TheVariants as operand
use Rattle.ir_syntax.specs.declared.body.Inst.{Inst}
use Rattle.ir_syntax.specs.declared.body.Term.{Term}
use Rattle.ir_syntax.specs.declared.body.Phi.{Phi}
use Rattle.ir_syntax.specs.declared.body.Block.{Block}
use Rattle.ir_syntax.specs.Operands.{operands, term_operands}
use Rattle.ir_syntax.specs.Results.{result_type, block_results}
use Rattle.ir_syntax.specs.Definite.{first_result, has_result, Use, operand_uses, phi_uses, insts_uses, block_uses, uses_from, uses, IsSurelyDefined}
use Rattle.fold_facts.proofs.Numbers.{types, types_some, types_none, phis_first, first_next}
use Rattle.std.proofs.lemmas.Option.{none-some}
use Rattle.fold_facts.proofs.Lists.{some_is}
use Rattle.residual_laws.proofs.Every.{Every, every_of_all, every_first, every_rest, every_append, flat_every, every_by}

pub types_cons : (x : Inst) (rest : List Inst) → length (types (x ∷ rest)) ≡ has_result (result_type x) + length (types rest)
types_cons x rest = by (result_type x) refl
  where
    by : (o : Option Scalar) → result_type x ≡ o → length (types (x ∷ rest)) ≡ has_result o + length (types rest)
    by None e = omega (arith, ap length (types_none x rest e))
    by (Some ty) e = omega (arith, ap length (types_some x ty rest e))

-- ---- the ends of blocks

abbrev pub IsWithin : List Block → Use → Type 0
IsWithin blocks u = u.until ≤ first_result blocks (suc u.place)

operand_within : (blocks : List Block) (place until : ℕ) (o : Operand) → until ≤ first_result blocks (suc place) → Every (IsWithin blocks) (operand_uses place until o)
operand_within blocks place until (operand.Param k) le = tt
operand_within blocks place until (operand.Reg k) le = (le, tt)
operand_within blocks place until (operand.Const constant) le = tt

operands_within : (blocks : List Block) (place until : ℕ) (os : List Operand) → until ≤ first_result blocks (suc place) → Every (IsWithin blocks) (flat_map (operand_uses place until) os)
operands_within blocks place until os le = flat_every (IsWithin blocks) (operand_uses place until) os (every_by (λ o. Every (IsWithin blocks) (operand_uses place until o)) os (λ k o is. operand_within blocks place until o le))

insts_within : (blocks : List Block) (place until : ℕ) (insts : List Inst) (term : Term) → until + length (types insts) ≤ first_result blocks (suc place) → Every (IsWithin blocks) (insts_uses place until insts term)
insts_within blocks place until [] term le = operands_within blocks place until (term_operands term) (omega (arith, le))
insts_within blocks place until (i ∷ is) term le =
    every_append (IsWithin blocks) (flat_map (operand_uses place until) (operands i)) (insts_uses place (until + has_result (result_type i)) is term)
    (operands_within blocks place until (operands i) (omega (arith, le)))
    (insts_within blocks place (until + has_result (result_type i)) is term (omega (arith, le, types_cons i is)))

le_same : (n : ℕ) → n ≤ n
le_same n = omega arith

phi_within : (blocks : List Block) (phi : Phi) → Every (IsWithin blocks) (phi_uses blocks phi)
phi_within blocks phi =
    flat_every (IsWithin blocks) (λ entry. operand_uses entry.1 (first_result blocks (suc entry.1)) entry.0) phi.entries
    (every_by (λ entry. Every (IsWithin blocks) (operand_uses entry.1 (first_result blocks (suc entry.1)) entry.0)) phi.entries
    (λ k entry is. operand_within blocks entry.1 (first_result blocks (suc entry.1)) entry.0 (le_same (first_result blocks (suc entry.1)))))

block_within : (blocks : List Block) (place : ℕ) (block : Block) → slice_get blocks place ≡ Some block → Every (IsWithin blocks) (block_uses blocks place block)
block_within blocks place block here =
    let next : first_result blocks (suc place) ≡ first_result blocks place + length (block_results block) = ap (first_result blocks) (one_more place) ∙ first_next blocks place block here in
    every_append (IsWithin blocks) (flat_map (phi_uses blocks) block.phis) (insts_uses place (first_result blocks place + length block.phis) block.insts block.term)
    (flat_every (IsWithin blocks) (phi_uses blocks) block.phis (every_by (λ phi. Every (IsWithin blocks) (phi_uses blocks phi)) block.phis (λ k phi is. phi_within blocks phi)))
    (insts_within blocks place (first_result blocks place + length block.phis) block.insts block.term (omega (arith, next, phis_first block)))
  where
    one_more : (k : ℕ) → suc k ≡ k + 1
    one_more k = omega arith

-- ---- uses by blocks

uses_on : (P : Use → Type 0) (blocks : List Block) (block : Block) (at : ℕ) (rest : List Block) → Every P (uses_from blocks at rest) → (k : ℕ) → slice_get rest k ≡ Some block → Every P (block_uses blocks (at + k) block)
uses_on P blocks block at [] g k is = absurd (none-some block is)
uses_on P blocks block at (b ∷ bs) g zero is =
    let none_on : at ≡ at + 0 = omega arith in
    subst (λ n. Every P (block_uses blocks n block)) none_on (subst (λ c. Every P (block_uses blocks at c)) (some_is is) (every_first P (block_uses blocks at b) (uses_from blocks (suc at) bs) g))
uses_on P blocks block at (b ∷ bs) g (suc k) is =
    let one_on : suc at + k ≡ at + suc k = omega arith in
    subst (λ n. Every P (block_uses blocks n block)) one_on (uses_on P blocks block (suc at) bs (every_rest P (block_uses blocks at b) (uses_from blocks (suc at) bs) g) k is)

-- The uses of a block, in a body whose uses are all such.
pub uses_at : (P : Use → Type 0) (blocks : List Block) → Every P (uses blocks) → (place : ℕ) (block : Block) → slice_get blocks place ≡ Some block → Every P (block_uses blocks place block)
uses_at P blocks h place block here =
    let zero_on : 0 + place ≡ place = omega arith in
    subst (λ n. Every P (block_uses blocks n block)) zero_on (uses_on P blocks block 0 blocks h place here)

-- A use that is surely defined, before the end of its block.
abbrev pub Sure : List Block → Use → Type 0
Sure blocks u = IsSurelyDefined blocks u × IsWithin blocks u

both : (blocks : List Block) (us : List Use) → Every (IsSurelyDefined blocks) us → Every (IsWithin blocks) us → Every (Sure blocks) us
both blocks [] h g = tt
both blocks (u ∷ us) h g = ((h.0, g.0), both blocks us h.1 g.1)

-- the uses of a block of a definite body
pub sure_uses : (blocks : List Block) (place : ℕ) (block : Block) → All (IsSurelyDefined blocks) (uses blocks) → slice_get blocks place ≡ Some block → Every (Sure blocks) (block_uses blocks place block)
sure_uses blocks place block definite here =
    both blocks (block_uses blocks place block) (uses_at (IsSurelyDefined blocks) blocks (every_of_all (IsSurelyDefined blocks) (uses blocks) definite) place block here) (block_within blocks place block here)
