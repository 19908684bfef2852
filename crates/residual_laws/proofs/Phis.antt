-- Phis, as they are left, are formed.
use Rattle.std.proofs.Common.{◌≡◌, ◌∙◌, inl, inr, ℕ, ◌+◌, ◌<◌, true, List, [], Option, Some, length, ap, sym, subst, arith}
use Rattle.std.specs.Prelude.{◌==◌, slice_get, count_by}
use Rattle.ir_types.specs.declared.scalar.Scalar.{Scalar}
use Rattle.ir_types.specs.declared.scalar.Known.{Known}
use Rattle.ir_types.proofs.ListSteps.{All-at, slice_get-within}
use Rattle.ir_syntax.specs.declared.constant.Operand.{Operand}
use Rattle.ir_syntax.specs.declared.body.Phi.{Phi}
use Rattle.ir_syntax.specs.declared.body.Block.{Block}
use Rattle.ir_syntax.specs.declared.body.Body.{Body}
use Rattle.ir_syntax.specs.declared.item.Item.{Item}
use Rattle.ir_syntax.specs.Edges.{successors_of, edges}
use Rattle.ir_syntax.specs.FormedBody.{IsOperand, FormedPhi, places_of}
use Rattle.ir_syntax.specs.Typed.{HasType, TypedPhi}
use Rattle.fold_facts.specs.Assigned.{Assigned, is_reached, edges_from}
use Rattle.fold_facts.proofs.Lists.{there}
use Rattle.fold_facts.proofs.Reaching.{reached_by}
use Rattle.fold_facts.proofs.Visits.{edges_are}
use Rattle.fold_facts.proofs.Arriving.{counts}
use Rattle.interface.specs.Masks.{rank, is_chosen}
use Rattle.interface.specs.Summaries.{reached}
use Rattle.specialise.specs.Leaving.{Leaving, leaving, edges_to}
use Rattle.specialise.specs.Residual.{left_entries}
use Rattle.residual_laws.proofs.Entries.{IsEntryOf, entries_from, for_block, entries_count, chosen_less, flags_long, flag_of}
use Rattle.residual_laws.proofs.Every.{Every, every_of_all, all_of_every, every_at, every_to}
use Rattle.residual_laws.proofs.Flags.{reached_flag}
use Rattle.residual_laws.proofs.Held.{Held, walked, typed_phi, edge_of, start_reached}
use Rattle.residual_laws.proofs.Left.{left_of, chosen_reached, chosen_within, formed_block}
use Rattle.residual_laws.proofs.Operands.{FitsIn, types_of, left_body, left_fits}
use Rattle.residual_laws.proofs.Ranks.{rank_zero, rank_less}
use Rattle.residual_laws.proofs.Staying.{OperandStays, block_stays}
use Rattle.residual_laws.proofs.Terms.{place_within}

-- what is left of a phi that stays
abbrev pub made_phi : Leaving → ℕ → Phi → Phi
made_phi w place phi = record { ty = phi.ty; entries = left_entries w place [] phi.entries }

-- a phi of a reached block
pub record PhiAt (items : List Item) (params : List Scalar) (returns : Option Scalar) (known : List Known) (body : Body) (a : Assigned) (at k : ℕ) (block : Block) (phi : Phi) : Type 0 where
  pub holds : Held items params returns known body a
  pub here : slice_get body.blocks at ≡ Some block
  pub set : is_chosen (reached a body.blocks) at ≡ true
  pub is : slice_get block.phis k ≡ Some phi

pub was_formed : (items : List Item) (params : List Scalar) (returns : Option Scalar) (known : List Known) (body : Body) (a : Assigned) (at k : ℕ) (block : Block) (phi : Phi) → PhiAt items params returns known body a at k block phi
    → FormedPhi (places_of items (length params) body) phi
was_formed items params returns known body a at k block phi p = All-at (FormedPhi (places_of items (length params) body)) block.phis k phi (formed_block items params returns known body a at block p.holds p.here).phis p.is

pub was_typed : (items : List Item) (params : List Scalar) (returns : Option Scalar) (known : List Known) (body : Body) (a : Assigned) (at k : ℕ) (block : Block) (phi : Phi) → PhiAt items params returns known body a at k block phi
    → TypedPhi (types_of items params body) body.blocks at phi
was_typed items params returns known body a at k block phi p = typed_phi (types_of items params body) returns body.blocks at k block phi p.holds.typed p.here p.is

-- ---- entries

pub entries_left : (items : List Item) (params : List Scalar) (returns : Option Scalar) (known : List Known) (body : Body) (a : Assigned) (at k : ℕ) (block : Block) (phi : Phi) → PhiAt items params returns known body a at k block phi
    → Every (IsEntryOf (leaving known body.blocks a) phi.entries) (left_entries (leaving known body.blocks a) at [] phi.entries)
entries_left items params returns known body a at k block phi p =
    entries_from items params returns known body a at [] phi.entries p.holds (every_of_all (λ (entry : Operand × ℕ). entry.1 < length body.blocks) phi.entries (was_formed items params returns known body a at k block phi p).has_blocks)

entry_fits : (items : List Item) (params : List Scalar) (returns : Option Scalar) (known : List Known) (body : Body) (a : Assigned) (at k : ℕ) (block : Block) (phi : Phi) (x : Operand × ℕ) → PhiAt items params returns known body a at k block phi
    → IsEntryOf (leaving known body.blocks a) phi.entries x → FitsIn items params (left_body known body a) phi.ty x.0 × (x.1 < length (left_of known body a))
entry_fits items params returns known body a at k block phi x p e =
    let w = leaving known body.blocks a in
    let stays = block_stays items params returns known body a at block p.holds p.here (chosen_reached a body.blocks at p.set) in
    let of_phi : Every (λ (entry : Operand × ℕ). is_reached a entry.1 ≡ true → OperandStays body.blocks a entry.0) phi.entries =
    every_at (λ (q : Phi). Every (λ (entry : Operand × ℕ). is_reached a entry.1 ≡ true → OperandStays body.blocks a entry.0) q.entries) block.phis k phi stays.phis p.is in
    let stays_one : OperandStays body.blocks a e.entry.0 = every_at (λ (entry : Operand × ℕ). is_reached a entry.1 ≡ true → OperandStays body.blocks a entry.0) phi.entries e.at e.entry of_phi e.here (chosen_reached a body.blocks e.entry.1 e.set) in
    let formed : IsOperand (places_of items (length params) body) phi.ty e.entry.0 =
    All-at (λ (entry : Operand × ℕ). IsOperand (places_of items (length params) body) phi.ty entry.0) phi.entries e.at e.entry (was_formed items params returns known body a at k block phi p).has_operands e.here in
    let typed : HasType (types_of items params body) phi.ty e.entry.0 = All-at (λ (entry : Operand × ℕ). HasType (types_of items params body) phi.ty entry.0) phi.entries e.at e.entry (was_typed items params returns known body a at k block phi p).has_types e.here in
    let one = left_fits items params returns known body a phi.ty e.entry.0 p.holds (record { formed = formed; typed = typed }) stays_one in
    (subst (λ (y : Operand × ℕ). FitsIn items params (left_body known body a) phi.ty y.0) (sym e.is) one, subst (λ (y : Operand × ℕ). y.1 < length (left_of known body a)) (sym e.is) (place_within known body a e.entry.1 e.set))

pub entries_fit : (items : List Item) (params : List Scalar) (returns : Option Scalar) (known : List Known) (body : Body) (a : Assigned) (at k : ℕ) (block : Block) (phi : Phi) → PhiAt items params returns known body a at k block phi
    → Every (λ (x : Operand × ℕ). FitsIn items params (left_body known body a) phi.ty x.0 × (x.1 < length (left_of known body a))) (left_entries (leaving known body.blocks a) at [] phi.entries)
entries_fit items params returns known body a at k block phi p =
    every_to (IsEntryOf (leaving known body.blocks a) phi.entries) (λ (x : Operand × ℕ). FitsIn items params (left_body known body a) phi.ty x.0 × (x.1 < length (left_of known body a))) (left_entries (leaving known body.blocks a) at [] phi.entries)
    (λ x e. entry_fits items params returns known body a at k block phi x p e) (entries_left items params returns known body a at k block phi p)

-- ---- their number

-- For a reached block as many entries are left as its edges to the phi's block are reached.
pub entries_for : (items : List Item) (params : List Scalar) (returns : Option Scalar) (known : List Known) (body : Body) (a : Assigned) (at k from : ℕ) (block : Block) (phi : Phi) → PhiAt items params returns known body a at k block phi
    → is_chosen (reached a body.blocks) from ≡ true
    → count_by (for_block (rank (reached a body.blocks) from)) (left_entries (leaving known body.blocks a) at [] phi.entries) ≡ rank (edges_to a from at) (length (edges_to a from at))
entries_for items params returns known body a at k from block phi p set =
    let mask = edges_to a from at in
    let within = every_of_all (λ (entry : Operand × ℕ). entry.1 < length body.blocks) phi.entries (was_formed items params returns known body a at k block phi p).has_blocks in
    let count : count_by (for_block (rank (reached a body.blocks) from)) (left_entries (leaving known body.blocks a) at [] phi.entries) + rank mask 0 ≡ rank mask (0 + count_by (for_block from) phi.entries) =
    entries_count items params returns known body a at from [] phi.entries p.holds set within in
    let found = there body.blocks from (chosen_within a body.blocks from set) in
    let same : edges body.blocks from at ≡ length mask =
    ap (λ (o : Option Block). count_by (λ place. place == at) (successors_of o)) found.1 ∙ ap (count_by (λ place. place == at)) (sym (edges_are body.blocks a from found.0 p.holds.of found.1)) ∙ sym (flags_long (edges_from a from) at) in
    let many : count_by (for_block from) phi.entries ≡ edges body.blocks from at = (was_typed items params returns known body a at k block phi p).edges from in
    let long : rank mask (0 + count_by (for_block from) phi.entries) ≡ rank mask (length mask) = ap (rank mask) (omega (arith, same, many)) in
    omega (arith, count, long, rank_zero mask)

-- some entry is left
some_entry : (items : List Item) (params : List Scalar) (returns : Option Scalar) (known : List Known) (body : Body) (a : Assigned) (at k : ℕ) (block : Block) (phi : Phi) → PhiAt items params returns known body a at k block phi
    → 0 < length (left_entries (leaving known body.blocks a) at [] phi.entries)
some_entry items params returns known body a at k block phi p = elim (reached_by a at (chosen_reached a body.blocks at p.set)) [
  | inl first ↦ absurd ((walked items params returns known body a p.holds).first k block phi (subst (λ n. slice_get body.blocks n ≡ Some block) first p.here) p.is)
  | inr (from, edge, e) ↦
      let one = edge_of body.blocks a from edge at p.holds.of e in
      let set : is_chosen (reached a body.blocks) from ≡ true = reached_flag a body.blocks from (slice_get-within body.blocks from one.block one.here) ∙ start_reached a p.holds.led from edge at e in
      let flag = flag_of (edges_from a from) at edge e in
      let mask = edges_to a from at in
      let some : rank mask flag.0 < rank mask (length mask) = rank_less mask flag.0 (length mask) flag.1 (chosen_less mask flag.0 flag.1) in
      let count = entries_for items params returns known body a at k from block phi p set in
      let found = counts (for_block (rank (reached a body.blocks) from)) (left_entries (leaving known body.blocks a) at [] phi.entries) (omega (arith, some, count)) in
      let within = slice_get-within (left_entries (leaving known body.blocks a) at [] phi.entries) found.0 found.1 found.2 in
      omega (arith, within)
]

pub phi_formed : (items : List Item) (params : List Scalar) (returns : Option Scalar) (known : List Known) (body : Body) (a : Assigned) (at k : ℕ) (block : Block) (phi : Phi) → PhiAt items params returns known body a at k block phi
    → FormedPhi (places_of items (length params) (left_body known body a)) (made_phi (leaving known body.blocks a) at phi)
phi_formed items params returns known body a at k block phi p =
    let w = leaving known body.blocks a in
    let fit = entries_fit items params returns known body a at k block phi p in
    record {
      has_entry = some_entry items params returns known body a at k block phi p;
      has_operands = all_of_every (λ (x : Operand × ℕ). IsOperand (places_of items (length params) (left_body known body a)) phi.ty x.0) (left_entries w at [] phi.entries)
          (every_to (λ (x : Operand × ℕ). FitsIn items params (left_body known body a) phi.ty x.0 × (x.1 < length (left_of known body a))) (λ (x : Operand × ℕ). IsOperand (places_of items (length params) (left_body known body a)) phi.ty x.0) (left_entries w at [] phi.entries) (λ x f. f.0.formed) fit);
      has_blocks = all_of_every (λ (x : Operand × ℕ). x.1 < length (left_of known body a)) (left_entries w at [] phi.entries)
          (every_to (λ (x : Operand × ℕ). FitsIn items params (left_body known body a) phi.ty x.0 × (x.1 < length (left_of known body a))) (λ (x : Operand × ℕ). x.1 < length (left_of known body a)) (left_entries w at [] phi.entries) (λ x f. f.1) fit);
    }
