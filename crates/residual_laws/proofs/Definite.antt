-- The law on definite definition.
use Rattle.std.proofs.Common.{◌≡◌, ◌∙◌, ℕ, suc, ◌+◌, ◌<◌, true, List, [], ◌∷◌, Option, None, Some, length, map, drop, refl, ap, sym, subst, arith}
use Rattle.std.specs.Prelude.{slice_get, flat_map, IsSome}
use Rattle.std.proofs.lemmas.List.{length-map}
use Rattle.ir_types.specs.declared.scalar.Known.{Known}
use Rattle.ir_types.specs.declared.scalar.Scalar.{Scalar}
use Rattle.ir_types.proofs.ListSteps.{All-at}
use Rattle.ir_syntax.specs.declared.constant.Operand.{Operand}
use Rattle.ir_syntax.specs.declared.body.Phi.{Phi}
use Rattle.ir_syntax.specs.declared.body.Block.{Block}
use Rattle.ir_syntax.specs.declared.body.Body.{Body}
use Rattle.ir_syntax.specs.declared.item.Func.{Func}
use Rattle.ir_syntax.specs.declared.item.Item.{Item}
use Rattle.ir_syntax.specs.FormedBody.{FormedPhi, places_of}
use Rattle.ir_syntax.specs.Definite.{first_result, Use, phi_uses, insts_uses, block_uses, uses_from, uses, DefiniteBody, IsSurelyDefined}
use Rattle.fold_facts.specs.Assigned.{Assigned, is_reached}
use Rattle.fold_facts.specs.Places.{blocks_in}
use Rattle.interface.specs.Masks.{rank, chosen, is_chosen}
use Rattle.interface.specs.Summaries.{reached}
use Rattle.specialise.specs.Leaving.{Leaving, leaving}
use Rattle.specialise.specs.Residual.{left_phis, left_insts, left_term, left_blocks, residual}
use Rattle.residual_laws.specs.Left.{IsLeft}
use Rattle.residual_laws.proofs.Every.{Every, all_of_every, every_of_all, every_to, every_by, every_first, every_rest, every_append, every_flat}
use Rattle.residual_laws.proofs.Held.{Held, held}
use Rattle.residual_laws.proofs.Left.{left_of, left_is, chosen_reached, chosen_within, first_at, formed_block}
use Rattle.residual_laws.proofs.Moving.{IsLeftSure, insts_move, phis_move}
use Rattle.residual_laws.proofs.Numbering.{made, phis_types}
use Rattle.residual_laws.proofs.Ranks.{chosen_long}
use Rattle.residual_laws.proofs.Staying.{OperandStays, block_stays}
use Rattle.residual_laws.proofs.Sure.{Sure, sure_uses}

-- ---- blocks

-- the phis that are left are so many
phis_count : (w : Leaving) (place first : ℕ) (phis : List Phi) → rank w.kept first + length (left_phis w place first phis) ≡ rank w.kept (first + length phis)
phis_count w place first phis =
    let one : length (map (λ phi. phi.ty) (left_phis w place first phis)) ≡ length (left_phis w place first phis) = length-map (left_phis w place first phis) (λ (phi : Phi). phi.ty) in
    let two : length (map (λ (phi : Phi). phi.ty) phis) ≡ length phis = length-map phis (λ (phi : Phi). phi.ty) in
    let three : length (map (λ (phi : Phi). phi.ty) (left_phis w place first phis)) ≡ length (chosen (drop first w.kept) (map (λ (phi : Phi). phi.ty) phis)) = ap length (phis_types w place first phis) in
    let four : length (chosen (drop first w.kept) (map (λ (phi : Phi). phi.ty) phis)) + rank w.kept first ≡ rank w.kept (first + length (map (λ (phi : Phi). phi.ty) phis)) = chosen_long w.kept first (map (λ (phi : Phi). phi.ty) phis) in
    let five : rank w.kept (first + length (map (λ (phi : Phi). phi.ty) phis)) ≡ rank w.kept (first + length phis) = ap (λ n. rank w.kept (first + n)) two in
    omega (arith, one, three, four, five)

block_moves : (items : List Item) (params : List Scalar) (returns : Option Scalar) (known : List Known) (body : Body) (a : Assigned) (at : ℕ) (block : Block) → Held items params returns known body a → slice_get body.blocks at ≡ Some block
    → is_chosen (reached a body.blocks) at ≡ true
    → Every (IsLeftSure known body a) (block_uses (left_of known body a) (rank (reached a body.blocks) at) (made (leaving known body.blocks a) at (first_result body.blocks at) block))
block_moves items params returns known body a at block h here set =
    let sure : Every (Sure body.blocks) (block_uses body.blocks at block) = sure_uses body.blocks at block h.definite here in
    let stays = block_stays items params returns known body a at block h here (chosen_reached a body.blocks at set) in
    let formed = formed_block items params returns known body a at block h here in
    every_append (IsLeftSure known body a) (flat_map (phi_uses (left_of known body a)) (left_phis w at first block.phis))
    (insts_uses (rank w.reached at) (first_result (left_of known body a) (rank w.reached at) + length (left_phis w at first block.phis)) (left_insts w (first + length block.phis) block.insts) (left_term w block.term))
    (phis_move items params returns known body a at first block.phis h (every_flat (Sure body.blocks) (phi_uses body.blocks) block.phis (every_first (Sure body.blocks) (flat_map (phi_uses body.blocks) block.phis) rest_uses sure))
    (every_to (λ (phi : Phi). Every (λ entry. is_reached a entry.1 ≡ true → OperandStays body.blocks a entry.0) phi.entries) (λ (phi : Phi). Every (λ entry. is_chosen (reached a body.blocks) entry.1 ≡ true → OperandStays body.blocks a entry.0) phi.entries) block.phis
    (λ phi g. every_to (λ (entry : Operand × ℕ). is_reached a entry.1 ≡ true → OperandStays body.blocks a entry.0) (λ (entry : Operand × ℕ). is_chosen (reached a body.blocks) entry.1 ≡ true → OperandStays body.blocks a entry.0) phi.entries
    (λ entry s c. s (chosen_reached a body.blocks entry.1 c)) g) stays.phis)
    (every_by (λ (phi : Phi). Every (λ entry. entry.1 < length body.blocks) phi.entries) block.phis
    (λ k phi is. every_of_all (λ (entry : Operand × ℕ). entry.1 < length body.blocks) phi.entries (All-at (FormedPhi (places_of items (length params) body)) block.phis k phi formed.phis is).has_blocks)))
    (subst (λ n. Every (IsLeftSure known body a) (insts_uses (rank w.reached at) n (left_insts w (first + length block.phis) block.insts) (left_term w block.term))) (sym count)
    (insts_move items params returns known body a at (first + length block.phis) block.insts block.term h set (every_rest (Sure body.blocks) (flat_map (phi_uses body.blocks) block.phis) rest_uses sure) stays.insts stays.term))
  where
    w : Leaving
    w = leaving known body.blocks a

    first : ℕ
    first = first_result body.blocks at

    rest_uses : List Use
    rest_uses = insts_uses at (first + length block.phis) block.insts block.term

    count : first_result (left_of known body a) (rank w.reached at) + length (left_phis w at first block.phis) ≡ rank w.kept (first + length block.phis)
    count =
        let within : at < length body.blocks = chosen_within a body.blocks at set in
        ap (λ n. n + length (left_phis w at first block.phis)) (first_at known body a items params returns at h (omega (arith, within))) ∙ phis_count w at first block.phis

-- ---- bodies

all_uses : (P : Use → Type 0) (blocks : List Block) (at : ℕ) (rest : List Block) → ((k : ℕ) (b : Block) → slice_get rest k ≡ Some b → Every P (block_uses blocks (at + k) b)) → Every P (uses_from blocks at rest)
all_uses P blocks at [] each = tt
all_uses P blocks at (b ∷ bs) each =
    every_append P (block_uses blocks at b) (uses_from blocks (suc at) bs) (subst (λ n. Every P (block_uses blocks n b)) (none_on at) (each 0 b refl))
    (all_uses P blocks (suc at) bs (λ k c is. subst (λ n. Every P (block_uses blocks n c)) (one_on at k) (each (suc k) c is)))
  where
    none_on : (m : ℕ) → m + 0 ≡ m
    none_on m = omega arith

    one_on : (m k : ℕ) → m + suc k ≡ suc m + k
    one_on m k = omega arith

body_moves : (items : List Item) (params : List Scalar) (returns : Option Scalar) (known : List Known) (body : Body) (a : Assigned) → Held items params returns known body a → DefiniteBody (record { blocks = left_of known body a })
body_moves items params returns known body a h =
    all_of_every (IsSurelyDefined (left_of known body a)) (uses (left_of known body a)) (all_uses (IsSurelyDefined (left_of known body a)) (left_of known body a) 0 (left_of known body a) (λ k b is. one k b is))
  where
    one : (k : ℕ) (b : Block) → slice_get (left_of known body a) k ≡ Some b → Every (IsSurelyDefined (left_of known body a)) (block_uses (left_of known body a) (0 + k) b)
    one k b is =
        let l = left_is known body a k b is in
        let at : rank (reached a body.blocks) l.at ≡ 0 + k = l.stands ∙ zero_on k in
        subst (λ n. Every (IsSurelyDefined (left_of known body a)) (block_uses (left_of known body a) n b)) at
        (subst (λ c. Every (IsSurelyDefined (left_of known body a)) (block_uses (left_of known body a) (rank (reached a body.blocks) l.at) c)) (sym l.is) (block_moves items params returns known body a l.at l.block h l.here l.set))
      where
        zero_on : (m : ℕ) → m ≡ 0 + m
        zero_on m = omega arith

-- What is left of a function is definite.
pub left_definite : (items : List Item) (known : List Known) (func : Func) (a : Assigned) → IsLeft items known func a → DefiniteBody (residual known func a)
left_definite items known func a h = by func.body refl h.defined
  where
    by : (o : Option Body) → func.body ≡ o → IsSome func.body → DefiniteBody (residual known func a)
    by None e some = absurd (none (subst IsSome e some))
      where
        none : IsSome {T = Body} None → ⊥
        none s = cc
    by (Some body) e some = subst (λ (o : Option Body). DefiniteBody (record { blocks = left_blocks (leaving known (blocks_in o) a) 0 0 (blocks_in o) })) (sym e) (body_moves items (map (λ param. param.ty) func.params) func.returns known body a (held items known func a body h e))
