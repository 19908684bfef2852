-- A body that is written with other operands and instructions is formed and typed.
use Rattle.std.proofs.Common.{◌≡◌, ◌∙◌, ℕ, zero, suc, ◌+◌, List, [], ◌∷◌, Option, None, Some, length, map, sum, refl, ap, subst, arith}
use Rattle.std.specs.Prelude.{◌==◌, slice_get, IfSome, count_by}
use Rattle.std.proofs.lemmas.List.{length-map}
use Rattle.std.proofs.lemmas.List.Sums.{sum_by-cons}
use Rattle.ir_types.specs.declared.scalar.Scalar.{Scalar}
use Rattle.ir_types.proofs.ListSteps.{All-at}
use Rattle.ir_syntax.specs.declared.constant.Operand.{Operand}
use Rattle.ir_syntax.specs.declared.body.Inst.{Inst}
use Rattle.ir_syntax.specs.declared.body.Phi.{Phi}
use Rattle.ir_syntax.specs.declared.body.Block.{Block}
use Rattle.ir_syntax.specs.declared.body.Body.{Body}
use Rattle.ir_syntax.specs.declared.item.Item.{Item}
use Rattle.ir_syntax.specs.Edges.{successors_of, edges}
use Rattle.ir_syntax.specs.FormedBody.{Places, FormedInst, FormedPhi, FormedBlock, FormedBody, places_of}
use Rattle.ir_syntax.specs.Mapped.{map_phi}
use Rattle.ir_syntax.specs.Results.{block_count}
use Rattle.ir_syntax.specs.Typed.{Types, TypedInst, TypedPhi, TypedBlock, TypedBody}
use Rattle.ir_syntax.proofs.MappedLemmas.{successors-map}
use Rattle.fold_facts.proofs.Lists.{of_map}
use Rattle.residual_laws.specs.Mapping.{Keeps, IsKeptBy, written_block, written_body}
use Rattle.residual_laws.proofs.Every.{all_of_every, every_by, every_map}
use Rattle.residual_laws.proofs.Mapping.{phi_mapped, term_mapped}

goes_same : (f : Operand → Operand) (g : Inst → Inst) (blocks : List Block) (k : ℕ) → successors_of (slice_get (map (written_block f g) blocks) k) ≡ successors_of (slice_get blocks k)
goes_same f g [] k = refl
goes_same f g (b ∷ bs) zero = successors-map f b.term
goes_same f g (b ∷ bs) (suc k) = goes_same f g bs k

edges_same : (f : Operand → Operand) (g : Inst → Inst) (blocks : List Block) (from to : ℕ) → edges (map (written_block f g) blocks) from to ≡ edges blocks from to
edges_same f g blocks from to = ap (count_by (λ place. place == to)) (goes_same f g blocks from)

count_same : (f : Operand → Operand) (g : Inst → Inst) (blocks : List Block) → sum (map block_count (map (written_block f g) blocks)) ≡ sum (map block_count blocks)
count_same f g [] = refl
count_same f g (b ∷ bs) =
    let one : sum (map block_count (map (written_block f g) (b ∷ bs))) ≡ block_count (written_block f g b) + sum (map block_count (map (written_block f g) bs)) = sum_by-cons (λ n. n) (block_count (written_block f g b)) (map block_count (map (written_block f g) bs)) in
    let other : sum (map block_count (b ∷ bs)) ≡ block_count b + sum (map block_count bs) = sum_by-cons (λ n. n) (block_count b) (map block_count bs) in
    let phis : length (map (map_phi f) b.phis) ≡ length b.phis = length-map b.phis (map_phi f) in
    let insts : length (map g b.insts) ≡ length b.insts = length-map b.insts g in
    omega (arith, one, other, phis, insts, count_same f g bs)

-- what a block of the body becomes
record BlockFits (later : Places) (typed : Types) (returns : Option Scalar) (others : List Block) (place : ℕ) (block : Block) : Type 0 where
  formed : FormedBlock later block
  typed_so : TypedBlock typed returns others place block

block_fits : (places later : Places) (types typed : Types) (f : Operand → Operand) (g : Inst → Inst) (returns : Option Scalar) (blocks : List Block) (place : ℕ) (block : Block) → Keeps places types later typed f → IsKeptBy places types later typed g
    → FormedBlock places block → TypedBlock types returns blocks place block → BlockFits later typed returns (map (written_block f g) blocks) place (written_block f g block)
block_fits places later types typed f g returns blocks place block k keeps h t =
    let others = map (written_block f g) blocks in
    let phi_fits = λ (j : ℕ) (phi : Phi) (is : slice_get block.phis j ≡ Some phi).
    phi_mapped places types later typed f blocks others place phi k (λ from. edges_same f g blocks from place) (All-at (FormedPhi places) block.phis j phi h.phis is) (All-at (TypedPhi types blocks place) block.phis j phi t.phis is) in
    let inst_fits = λ (j : ℕ) (inst : Inst) (is : slice_get block.insts j ≡ Some inst). keeps inst (All-at (FormedInst places) block.insts j inst h.insts is) (All-at (TypedInst types) block.insts j inst t.insts is) in
    let end = term_mapped places types later typed f returns block.term k h.term t.term in
    record {
      formed = record {
        phis = all_of_every (FormedPhi later) (map (map_phi f) block.phis) (every_map (FormedPhi later) (map_phi f) block.phis (every_by (λ phi. FormedPhi later (map_phi f phi)) block.phis (λ j phi is. (phi_fits j phi is).0)));
        insts = all_of_every (FormedInst later) (map g block.insts) (every_map (FormedInst later) g block.insts (every_by (λ inst. FormedInst later (g inst)) block.insts (λ j inst is. (inst_fits j inst is).0)));
        term = end.0;
      };
      typed_so = record {
        phis = all_of_every (TypedPhi typed others place) (map (map_phi f) block.phis)
            (every_map (TypedPhi typed others place) (map_phi f) block.phis (every_by (λ phi. TypedPhi typed others place (map_phi f phi)) block.phis (λ j phi is. (phi_fits j phi is).1)));
        insts = all_of_every (TypedInst typed) (map g block.insts) (every_map (TypedInst typed) g block.insts (every_by (λ inst. TypedInst typed (g inst)) block.insts (λ j inst is. (inst_fits j inst is).1)));
        term = end.1;
      };
    }

pub body_fits : (items others : List Item) (params fewer : ℕ) (types typed : Types) (f : Operand → Operand) (g : Inst → Inst) (returns : Option Scalar) (body : Body)
    → Keeps (places_of items params body) types (places_of others fewer (written_body f g body)) typed f → IsKeptBy (places_of items params body) types (places_of others fewer (written_body f g body)) typed g
    → FormedBody items params body → TypedBody types returns body.blocks → FormedBody others fewer (written_body f g body) × TypedBody typed returns (written_body f g body).blocks
body_fits items others params fewer types typed f g returns body k keeps h t = (
  record {
    has_block = omega (arith, long, h.has_block);
    few_blocks = omega (arith, long, h.few_blocks);
    few_insts = omega (arith, count_same f g body.blocks, h.few_insts);
    has_blocks = all_of_every (FormedBlock later) (map (written_block f g) body.blocks) (every_by (FormedBlock later) (map (written_block f g) body.blocks) (λ place b is. (fits place b is).formed));
  },
  record { not_entered = λ from. edges_same f g body.blocks from 0 ∙ t.not_entered from; each = λ place. by place (slice_get (map (written_block f g) body.blocks) place) refl },
)
  where
    places : Places
    places = places_of items params body

    later : Places
    later = places_of others fewer (written_body f g body)

    long : length (map (written_block f g) body.blocks) ≡ length body.blocks
    long = length-map body.blocks (written_block f g)

    fits : (place : ℕ) (b : Block) → slice_get (map (written_block f g) body.blocks) place ≡ Some b → BlockFits later typed returns (map (written_block f g) body.blocks) place b
    fits place b is =
        let was = of_map (written_block f g) body.blocks place b is in
        subst (BlockFits later typed returns (map (written_block f g) body.blocks) place) was.2
        (block_fits places later types typed f g returns body.blocks place was.0 k keeps (All-at (FormedBlock places) body.blocks place was.0 h.has_blocks was.1)
        (subst (λ (o : Option Block). IfSome o (TypedBlock types returns body.blocks place)) was.1 (t.each place)))

    by : (place : ℕ) (o : Option Block) → slice_get (map (written_block f g) body.blocks) place ≡ o → IfSome o (TypedBlock typed returns (map (written_block f g) body.blocks) place)
    by place None e = tt
    by place (Some b) e = (fits place b e).typed_so
