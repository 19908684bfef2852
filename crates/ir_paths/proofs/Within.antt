-- Far uses name blocks that are there.
use Rattle.std.proofs.Common.{◌≡◌, ℕ, suc, ◌+◌, ◌<◌, ◌≤◌, Bool, true, false, cond, ◌&&◌, eqb, nat_lt, List, [], ◌∷◌, length, All, Option, None, Some, slice_get, refl, arith}
use Rattle.std.proofs.lemmas.Bool.Decides.{nat_tests}
use Rattle.std.proofs.lemmas.List.Elements.{All-nil, All-cons, All-append}
use Rattle.std.specs.List.{flat_map}
use Rattle.ir_syntax.specs.declared.constant.Operand.{Operand}
use Rattle.ir_syntax.specs.declared.constant.Operand.TheVariants as operand
use Rattle.ir_syntax.specs.declared.body.Inst.{Inst}
use Rattle.ir_syntax.specs.declared.body.Term.{Term}
use Rattle.ir_syntax.specs.declared.body.Phi.{Phi}
use Rattle.ir_syntax.specs.declared.body.Block.{Block}
use Rattle.ir_syntax.specs.Results.{result_type, block_results}
use Rattle.ir_syntax.specs.Definite.{has_result, operands, term_operands}
use Rattle.ir_paths.specs.declared.far.Far.{Far}
use Rattle.ir_paths.specs.Bypass.{IsWithin}
use Rattle.ir_paths.specs.FarUses.{definers_from, far_of, far_use, operand_far, end_far, entry_far, phi_far, insts_far, block_far, far_from, far_uses}
use Rattle.ir_paths.proofs.Defining.{definer_within}

abbrev AreWithin : ℕ → List Far → Type 0
AreWithin count far = All (IsWithin count) far

-- Each definer is one of so many blocks.
abbrev AreBlocks : ℕ → List ℕ → Type 0
AreBlocks count definers = (register definer : ℕ) → slice_get definers register ≡ Some definer → definer < count

within_each : {X : Type 0} (count : ℕ) (f : X → List Far) → ((x : X) → AreWithin count (f x)) → (xs : List X) → AreWithin count (flat_map f xs)
within_each count f each [] = All-nil (IsWithin count)
within_each count f each (x ∷ xs) = All-append (IsWithin count) (f x) (flat_map f xs) (each x) (within_each count f each xs)

within_when : (count place definer : ℕ) (t : Bool) → place < count → definer < count → AreWithin count (cond t [] (record { definer = definer; place = place } ∷ []))
within_when count place definer true l m = All-nil (IsWithin count)
within_when count place definer false l m = All-cons (IsWithin count) (record { definer = definer; place = place }) [] (m, l) (All-nil (IsWithin count))

within_of : (count place : ℕ) (before : Bool) (o : Option ℕ) → place < count → ((d : ℕ) → o ≡ Some d → d < count) → AreWithin count (far_of place before o)
within_of count place before None l m = All-nil (IsWithin count)
within_of count place before (Some definer) l m = within_when count place definer (before && eqb definer place) l (m definer refl)

use_within : (count : ℕ) (definers : List ℕ) → AreBlocks count definers → (place : ℕ) (before : Bool) (register : ℕ) → place < count → AreWithin count (far_use definers place before register)
use_within count definers ok place before register l = within_of count place before (slice_get definers register) l (λ d e. ok register d e)

operand_within : (count : ℕ) (definers : List ℕ) → AreBlocks count definers → (place until : ℕ) → place < count → (o : Operand) → AreWithin count (operand_far definers place until o)
operand_within count definers ok place until l (operand.Param k) = All-nil (IsWithin count)
operand_within count definers ok place until l (operand.Reg k) = use_within count definers ok place (nat_lt k until) k l
operand_within count definers ok place until l (operand.Const constant) = All-nil (IsWithin count)

end_within : (count : ℕ) (definers : List ℕ) → AreBlocks count definers → (place : ℕ) → place < count → (o : Operand) → AreWithin count (end_far definers place o)
end_within count definers ok place l (operand.Param k) = All-nil (IsWithin count)
end_within count definers ok place l (operand.Reg k) = use_within count definers ok place true k l
end_within count definers ok place l (operand.Const constant) = All-nil (IsWithin count)

entry_when : (count : ℕ) (definers : List ℕ) → AreBlocks count definers → (entry : Operand × ℕ) (t : Bool) → nat_lt entry.1 count ≡ t → AreWithin count (cond t (end_far definers entry.1 entry.0) [])
entry_when count definers ok entry true e = let l : entry.1 < count = grind (arith, nat_tests, e) in end_within count definers ok entry.1 l entry.0
entry_when count definers ok entry false e = All-nil (IsWithin count)

phi_within : (count : ℕ) (definers : List ℕ) → AreBlocks count definers → (phi : Phi) → AreWithin count (phi_far definers count phi)
phi_within count definers ok phi = within_each count (entry_far definers count) (λ entry. entry_when count definers ok entry (nat_lt entry.1 count) refl) phi.entries

insts_within : (count : ℕ) (definers : List ℕ) → AreBlocks count definers → (place until : ℕ) → place < count → (insts : List Inst) (term : Term) → AreWithin count (insts_far definers place until insts term)
insts_within count definers ok place until l [] term = within_each count (operand_far definers place until) (λ o. operand_within count definers ok place until l o) (term_operands term)
insts_within count definers ok place until l (i ∷ is) term =
    All-append (IsWithin count) (flat_map (operand_far definers place until) (operands i)) (insts_far definers place (until + has_result (result_type i)) is term)
    (within_each count (operand_far definers place until) (λ o. operand_within count definers ok place until l o) (operands i))
    (insts_within count definers ok place (until + has_result (result_type i)) l is term)

blocks_within : (count : ℕ) (definers : List ℕ) → AreBlocks count definers → (place first : ℕ) (blocks : List Block) → place + length blocks ≤ count → AreWithin count (far_from definers count place first blocks)
blocks_within count definers ok place first [] l = All-nil (IsWithin count)
blocks_within count definers ok place first (b ∷ more) l =
    let here : place < count = omega (arith, l) in
    All-append (IsWithin count) (block_far definers count place first b) (far_from definers count (suc place) (first + length (block_results b)) more)
    (All-append (IsWithin count) (flat_map (phi_far definers count) b.phis) (insts_far definers place (first + length b.phis) b.insts b.term)
    (within_each count (phi_far definers count) (λ phi. phi_within count definers ok phi) b.phis)
    (insts_within count definers ok place (first + length b.phis) here b.insts b.term))
    (blocks_within count definers ok (suc place) (first + length (block_results b)) more (omega (arith, l)))

pub far_within : (blocks : List Block) → All (IsWithin (length blocks)) (far_uses blocks)
far_within blocks =
    blocks_within (length blocks) (definers_from 0 blocks) (λ r d e. omega (arith, definer_within 0 blocks r d e)) 0 0 blocks (omega arith)
