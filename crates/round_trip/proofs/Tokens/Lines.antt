-- Lines and blocks that are written can be read.
use Rattle.std.proofs.Common.{ℕ, suc, ◌+◌, Bool, true, false, cond, List, [], ◌∷◌, ◌++◌, length}
use Rattle.std.specs.Prelude.{is_some}
use Rattle.ir_syntax.specs.declared.body.Phi.{Phi}
use Rattle.ir_syntax.specs.declared.body.Inst.{Inst}
use Rattle.ir_syntax.specs.declared.body.Block.{Block}
use Rattle.ir_syntax.specs.Results.{result_type, block_results}
use Rattle.ir_writer.specs.Words.{Parts, line_end}
use Rattle.ir_writer.specs.Instructions.{inst_parts, phi_parts, term_parts, line, named, phi_lines, inst_lines, block_parts, blocks_parts}
use Rattle.round_trip.proofs.Tokens.Parts.{Reads, no_parts, joined, closed, spaced, line_ended}
use Rattle.round_trip.proofs.Tokens.Words.{equals_read, result_reads, label_reads}
use Rattle.round_trip.proofs.Tokens.Instructions.{inst_reads, phi_reads, term_reads}

line_reads : (parts : Parts) → Reads true parts → Reads false (line parts)
line_reads parts reads = (spaced (spaced (joined parts (line_end ∷ []) reads (line_ended no_parts))).reads).reads

named_reads : (k : ℕ) (parts : Parts) → Reads true parts → Reads true (named k parts)
named_reads k parts reads = result_reads k (spaced (equals_read (spaced reads).reads))

module _ (names : List (List ℕ)) where
  phi_lines_read : (k : ℕ) (phis : List Phi) → Reads false (phi_lines names k phis)
  phi_lines_read k [] = no_parts
  phi_lines_read k (phi ∷ phis) =
      closed (line (named k (phi_parts names phi))) (phi_lines names (suc k) phis) (line_reads (named k (phi_parts names phi)) (named_reads k (phi_parts names phi) (phi_reads names phi))) (phi_lines_read (suc k) phis)

  inst_lines_read : (k : ℕ) (insts : List Inst) → Reads false (inst_lines names k insts)
  inst_lines_read k [] = no_parts
  inst_lines_read k (i ∷ insts) = cases (is_some (result_type i)) (inst_lines_read (suc k) insts) (inst_lines_read k insts)
    where
      cases : (b : Bool) → Reads false (inst_lines names (suc k) insts) → Reads false (inst_lines names k insts) →
          Reads false (cond b (line (named k (inst_parts names i)) ++ inst_lines names (suc k) insts) (line (inst_parts names i) ++ inst_lines names k insts))
      cases true next same = closed (line (named k (inst_parts names i))) (inst_lines names (suc k) insts) (line_reads (named k (inst_parts names i)) (named_reads k (inst_parts names i) (inst_reads names i))) next
      cases false next same = closed (line (inst_parts names i)) (inst_lines names k insts) (line_reads (inst_parts names i) (inst_reads names i)) same

  block_reads : (place k : ℕ) (block : Block) → Reads false (block_parts names place k block)
  block_reads place k block =
      let end = line_reads (term_parts names block.term) (term_reads names block.term) in
      let lines = closed (inst_lines names (k + length block.phis) block.insts) (line (term_parts names block.term)) (inst_lines_read (k + length block.phis) block.insts) end in
      label_reads place (line_ended (closed (phi_lines names k block.phis) _ (phi_lines_read k block.phis) lines))

  pub blocks_read : (place k : ℕ) (blocks : List Block) → Reads false (blocks_parts names place k blocks)
  blocks_read place k [] = no_parts
  blocks_read place k (block ∷ blocks) =
      closed (block_parts names place k block) (blocks_parts names (suc place) (k + length (block_results block)) blocks) (block_reads place k block) (blocks_read (suc place) (k + length (block_results block)) blocks)
