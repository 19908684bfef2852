-- A body as it is written is formed and typed.
use Rattle.std.proofs.Common.{◌≡◌, ◌∙◌, ℕ, zero, suc, ◌+◌, List, [], ◌∷◌, Option, None, Some, length, map, sum, refl, ap, subst, arith}
use Rattle.std.specs.Prelude.{◌==◌, slice_get, IfSome, count_by}
use Rattle.std.proofs.lemmas.List.{length-map}
use Rattle.std.proofs.lemmas.List.Sums.{sum_by-cons}
use Rattle.ir_types.specs.declared.scalar.Scalar.{Scalar}
use Rattle.ir_types.proofs.ListSteps.{All-at}
use Rattle.ir_syntax.specs.declared.body.Inst.{Inst}
use Rattle.ir_syntax.specs.declared.body.Phi.{Phi}
use Rattle.ir_syntax.specs.declared.body.Block.{Block}
use Rattle.ir_syntax.specs.declared.body.Body.{Body}
use Rattle.ir_syntax.specs.declared.item.Param.{Param}
use Rattle.ir_syntax.specs.declared.item.Item.{Item}
use Rattle.ir_syntax.specs.Edges.{successors_of, edges}
use Rattle.ir_syntax.specs.FormedBody.{Places, FormedInst, FormedPhi, FormedTerm, FormedBlock, FormedBody}
use Rattle.ir_syntax.specs.Mapped.{map_phi}
use Rattle.ir_syntax.specs.Operands.{phi_operands, term_operands}
use Rattle.ir_syntax.specs.Results.{block_count}
use Rattle.ir_syntax.specs.Typed.{Types, TypedInst, TypedPhi, TypedTerm, TypedBlock, TypedBody}
use Rattle.ir_syntax.proofs.MappedLemmas.{successors-map}
use Rattle.fold_facts.proofs.Lists.{of_map}
use Rattle.interface.specs.Masks.{chosen}
use Rattle.residual_laws.proofs.Every.{Every, all_of_every, every_at, every_by, every_map}
use Rattle.residual_laws.proofs.Mapping.{phi_mapped, term_mapped}
use Rattle.winnowed_form.specs.declared.named.Named.{Named}
use Rattle.winnowed_form.specs.Bodies.{Writing, written_operand, written_inst, written_block, written_body}
use Rattle.linking_again.proofs.Insts as at
use Rattle.linking_again.proofs.Insts.{InstKept, inst_fits, all_kept, phi_alike, term_alike}
use Rattle.linking_again.proofs.Kept.{Suit, kept_operand, IsKept, keeps}

-- Each part of the block has its place in the written body.
pub record BlockKept (items others : List Item) (w : Writing) (named : List Named) (block : Block) : Type 0 where
  pub phis : Every (λ phi. Every (IsKept w named) (phi_operands phi)) block.phis
  pub insts : Every (InstKept items others w named) block.insts
  pub term : Every (IsKept w named) (term_operands block.term)

goes_same : (w : Writing) (blocks : List Block) (k : ℕ) → successors_of (slice_get (map (written_block w) blocks) k) ≡ successors_of (slice_get blocks k)
goes_same w [] k = refl
goes_same w (b ∷ bs) zero = successors-map (written_operand w) b.term
goes_same w (b ∷ bs) (suc k) = goes_same w bs k

edges_same : (w : Writing) (blocks : List Block) (from to : ℕ) → edges (map (written_block w) blocks) from to ≡ edges blocks from to
edges_same w blocks from to = ap (count_by (λ place. place == to)) (goes_same w blocks from)

pub count_same : (w : Writing) (blocks : List Block) → sum (map block_count (map (written_block w) blocks)) ≡ sum (map block_count blocks)
count_same w [] = refl
count_same w (b ∷ bs) =
    let one : sum (map block_count (map (written_block w) (b ∷ bs))) ≡ block_count (written_block w b) + sum (map block_count (map (written_block w) bs)) = sum_by-cons (λ n. n) (block_count (written_block w b)) (map block_count (map (written_block w) bs)) in
    let other : sum (map block_count (b ∷ bs)) ≡ block_count b + sum (map block_count bs) = sum_by-cons (λ n. n) (block_count b) (map block_count bs) in
    let phis : length (map (map_phi (written_operand w)) b.phis) ≡ length b.phis = length-map b.phis (map_phi (written_operand w)) in
    let insts : length (map (written_inst w) b.insts) ≡ length b.insts = length-map b.insts (written_inst w) in
    omega (arith, one, other, phis, insts, count_same w bs)

module _ (items others : List Item) (params : List Param) (w : Writing) (named : List Named) (body : Body) (suit : Suit items others w.place named) (long : length w.stays ≡ length params) where
  abbrev pub places : Places
  places = at.places items others params w named body suit long

  abbrev pub later : Places
  later = at.later items others params w named body suit long

  abbrev pub types : Types
  types = at.types items others params w named body suit long

  abbrev pub typed : Types
  typed = at.typed items others params w named body suit long

  abbrev pub written : List Block
  written = map (written_block w) body.blocks

  -- what a block of the body becomes
  record BlockFits (returns : Option Scalar) (place : ℕ) (block : Block) : Type 0 where
    formed : FormedBlock later block
    typed_so : TypedBlock typed returns written place block

  phi_fits : (place : ℕ) (phi : Phi) → Every (IsKept w named) (phi_operands phi) → FormedPhi places phi → TypedPhi types body.blocks place phi → FormedPhi later (map_phi (written_operand w) phi) × TypedPhi typed written place (map_phi (written_operand w) phi)
  phi_fits place phi h formed is_typed =
      subst (λ (x : Phi). FormedPhi later x × TypedPhi typed written place x) (phi_alike (kept_operand w named) (written_operand w) phi (all_kept w named (phi_operands phi) h))
      (phi_mapped places types later typed (kept_operand w named) body.blocks written place phi (keeps items others params w named body suit long) (λ from. edges_same w body.blocks from place) formed is_typed)

  block_fits : (returns : Option Scalar) (place : ℕ) (block : Block) → BlockKept items others w named block → FormedBlock places block → TypedBlock types returns body.blocks place block → BlockFits returns place (written_block w block)
  block_fits returns place block kept h t =
      let phi = λ (j : ℕ) (phi : Phi) (is : slice_get block.phis j ≡ Some phi).
      phi_fits place phi (every_at (λ phi. Every (IsKept w named) (phi_operands phi)) block.phis j phi kept.phis is) (All-at (FormedPhi places) block.phis j phi h.phis is) (All-at (TypedPhi types body.blocks place) block.phis j phi t.phis is) in
      let inst = λ (j : ℕ) (inst : Inst) (is : slice_get block.insts j ≡ Some inst).
      inst_fits items others params w named body suit long inst (every_at (InstKept items others w named) block.insts j inst kept.insts is) (All-at (FormedInst places) block.insts j inst h.insts is) (All-at (TypedInst types) block.insts j inst t.insts is) in
      let end = subst (λ x. FormedTerm later x × TypedTerm typed returns x) (term_alike (kept_operand w named) (written_operand w) block.term (all_kept w named (term_operands block.term) kept.term))
      (term_mapped places types later typed (kept_operand w named) returns block.term (keeps items others params w named body suit long) h.term t.term) in
      record {
        formed = record {
          phis = all_of_every (FormedPhi later) (map (map_phi (written_operand w)) block.phis) (every_map (FormedPhi later) (map_phi (written_operand w)) block.phis (every_by (λ phi. FormedPhi later (map_phi (written_operand w) phi)) block.phis (λ j p is. (phi j p is).0)));
          insts = all_of_every (FormedInst later) (map (written_inst w) block.insts) (every_map (FormedInst later) (written_inst w) block.insts (every_by (λ inst. FormedInst later (written_inst w inst)) block.insts (λ j x is. (inst j x is).0)));
          term = end.0;
        };
        typed_so = record {
          phis = all_of_every (TypedPhi typed written place) (map (map_phi (written_operand w)) block.phis)
              (every_map (TypedPhi typed written place) (map_phi (written_operand w)) block.phis (every_by (λ phi. TypedPhi typed written place (map_phi (written_operand w) phi)) block.phis (λ j p is. (phi j p is).1)));
          insts = all_of_every (TypedInst typed) (map (written_inst w) block.insts) (every_map (TypedInst typed) (written_inst w) block.insts (every_by (λ inst. TypedInst typed (written_inst w inst)) block.insts (λ j x is. (inst j x is).1)));
          term = end.1;
        };
      }

  -- A body whose parts have their places is formed and typed as it is written.
  pub body_fits : (returns : Option Scalar) → Every (BlockKept items others w named) body.blocks → FormedBody items (length params) body → TypedBody types returns body.blocks
      → FormedBody others (length (chosen w.stays params)) (written_body w body) × TypedBody typed returns (written_body w body).blocks
  body_fits returns kept h t = (
    record {
      has_block = omega (arith, count, h.has_block);
      few_blocks = omega (arith, count, h.few_blocks);
      few_insts = omega (arith, count_same w body.blocks, h.few_insts);
      has_blocks = all_of_every (FormedBlock later) written (every_by (FormedBlock later) written (λ place b is. (fits place b is).formed));
    },
    record { not_entered = λ from. edges_same w body.blocks from 0 ∙ t.not_entered from; each = λ place. by place (slice_get written place) refl },
  )
    where
      count : length written ≡ length body.blocks
      count = length-map body.blocks (written_block w)

      fits : (place : ℕ) (b : Block) → slice_get written place ≡ Some b → BlockFits returns place b
      fits place b is =
          let was = of_map (written_block w) body.blocks place b is in
          subst (BlockFits returns place) was.2
          (block_fits returns place was.0 (every_at (BlockKept items others w named) body.blocks place was.0 kept was.1) (All-at (FormedBlock places) body.blocks place was.0 h.has_blocks was.1)
          (subst (λ (o : Option Block). IfSome o (TypedBlock types returns body.blocks place)) was.1 (t.each place)))

      by : (place : ℕ) (o : Option Block) → slice_get written place ≡ o → IfSome o (TypedBlock typed returns written place)
      by place None e = tt
      by place (Some b) e = (fits place b e).typed_so
