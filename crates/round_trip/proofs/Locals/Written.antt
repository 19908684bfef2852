-- The names that the lexemes of a written function have.
use Rattle.std.proofs.Common.{◌≡◌, ◌∙◌, ℕ, zero, suc, ◌+◌, ◌<◌, cond, is_some, List, [], ◌∷◌, ◌++◌, length, map, Option, Some, None, refl, ap, arith, append_assoc, length-append, codes}
use Rattle.std.specs.List.{filter_map, flat_map, cons_option}
use Rattle.std.specs.Fmt.{decimal}
use Rattle.std.proofs.lemmas.List.{length-map}
use Rattle.ir_types.specs.declared.scalar.Scalar.{Scalar}
use Rattle.ir_syntax.specs.declared.body.Phi.{Phi}
use Rattle.ir_syntax.specs.declared.body.Inst.{Inst}
use Rattle.ir_syntax.specs.declared.body.Block.{Block}
use Rattle.ir_syntax.specs.declared.body.Body.{Body}
use Rattle.ir_syntax.specs.Results.{result_type, block_results, results}
use Rattle.ir_grammar.specs.Tokens.{Kept}
use Rattle.ir_locals.specs.declared.local.Local.TheVariants.{Param, Reg, Block as OfBlock}
use Rattle.ir_locals.specs.Locals.{results_from, result_names, label_name, label_names, block_names, local_name, numbered, named, locals_of}
use Rattle.ir_writer.specs.Instructions.{result_text}
use Rattle.round_trip.proofs.Grammar.Kept.{Lexemes, close_brace_kept, inst_kept, phi_kept, term_kept, named_kept, phi_lines_kept, inst_lines_kept, block_kept, blocks_kept}
use Rattle.round_trip.proofs.Locals.Still.{still_results, still_labels}
use Rattle.round_trip.proofs.Locals.Given.{Gives, inst_still, term_still, inst_gives, phi_gives}
use Rattle.round_trip.proofs.Locals.Texts.{lettered, lettered_from, written_params, written_results, written_blocks, written_locals, reg_name, name_of_label}

-- so many results with their names, numbered from k on, and then others
abbrev pub results_then : ℕ → ℕ → List (Option (List ℕ)) → List (Option (List ℕ))
results_then k zero rest = rest
results_then k (suc n) rest = Some (lettered 118 k) ∷ results_then (suc k) n rest

results_then_add : (k m n : ℕ) (rest : List (Option (List ℕ))) → results_then k m (results_then (k + m) n rest) ≡ results_then k (m + n) rest
results_then_add k zero n rest =
    let here : k + 0 ≡ k = omega arith in
    let all : n ≡ 0 + n = omega arith in
    ap (λ i. results_then i n rest) here ∙ ap (λ i. results_then k i rest) all
results_then_add k (suc m) n rest =
    let here : k + suc m ≡ suc k + m = omega arith in
    let all : suc (m + n) ≡ suc m + n = omega arith in
    ap (λ i. Some (lettered 118 k) ∷ results_then (suc k) m (results_then i n rest)) here
    ∙ (ap (λ rs. Some (lettered 118 k) ∷ rs) (results_then_add (suc k) m n rest) ∙ ap (λ i. results_then k i rest) all)

pub length_results_then : (k n : ℕ) (rest : List (Option (List ℕ))) → length (results_then k n rest) ≡ n + length rest
length_results_then k zero rest = omega arith
length_results_then k (suc n) rest = omega (arith, length_results_then (suc k) n rest)

named_results : (k n : ℕ) → named k (results_then k n []) ≡ numbered Reg k (lettered_from 118 k n)
named_results k zero = refl
named_results k (suc n) = ap (λ ls. (lettered 118 k, Reg k) ∷ ls) (named_results (suc k) n)

module _ (names : List (List ℕ)) where
  -- ---- results

  named_gives : (k : ℕ) (ks : List Kept) (rest : List Kept) → Gives ks → results_from None (named_kept k ks ++ rest) ≡ Some (lettered 118 k) ∷ results_from None rest
  named_gives k ks rest g = g.results (Some (local_name (result_text k))) rest ∙ ap (λ name. Some name ∷ results_from None rest) (reg_name k)

  phi_results : (k : ℕ) (phis : List Phi) (rest : List Kept) → results_from None (phi_lines_kept names k phis ++ rest) ≡ results_then k (length phis) (results_from None rest)
  phi_results k [] rest = refl
  phi_results k (phi ∷ phis) rest =
      ap (results_from None) (append_assoc (named_kept k (phi_kept names phi)) (phi_lines_kept names (suc k) phis) rest)
      ∙ (named_gives k (phi_kept names phi) (phi_lines_kept names (suc k) phis ++ rest) (phi_gives names phi)
      ∙ ap (λ rs. Some (lettered 118 k) ∷ rs) (phi_results (suc k) phis rest))

  inst_results : (k : ℕ) (insts : List Inst) (rest : List Kept) → results_from None (inst_lines_kept names k insts ++ rest) ≡ results_then k (length (filter_map result_type insts)) (results_from None rest)
  inst_results k [] rest = refl
  inst_results k (i ∷ insts) rest = cases (result_type i) refl (λ k. inst_results k insts rest)
    where
      cases : (o : Option Scalar) → result_type i ≡ o →
          ((k : ℕ) → results_from None (inst_lines_kept names k insts ++ rest) ≡ results_then k (length (filter_map result_type insts)) (results_from None rest)) →
          results_from None (cond (is_some o) (named_kept k (inst_kept names i) ++ inst_lines_kept names (suc k) insts) (inst_kept names i ++ inst_lines_kept names k insts) ++ rest)
          ≡ results_then k (length (cons_option o (filter_map result_type insts))) (results_from None rest)
      cases None e more =
          ap (results_from None) (append_assoc (inst_kept names i) (inst_lines_kept names k insts) rest)
          ∙ (still_results (inst_kept names i) (inst_lines_kept names k insts ++ rest) None (inst_still names i e) ∙ more k)
      cases (Some ty) e more =
          ap (results_from None) (append_assoc (named_kept k (inst_kept names i)) (inst_lines_kept names (suc k) insts) rest)
          ∙ (named_gives k (inst_kept names i) (inst_lines_kept names (suc k) insts ++ rest) (inst_gives names i ty e)
          ∙ ap (λ rs. Some (lettered 118 k) ∷ rs) (more (suc k)))

  -- the lines of a block, and what stands behind it
  lines_apart : (k : ℕ) (block : Block) (rest : List Kept) →
      (phi_lines_kept names k block.phis ++ (inst_lines_kept names (k + length block.phis) block.insts ++ term_kept names block.term)) ++ rest
      ≡ phi_lines_kept names k block.phis ++ (inst_lines_kept names (k + length block.phis) block.insts ++ (term_kept names block.term ++ rest))
  lines_apart k block rest =
      append_assoc (phi_lines_kept names k block.phis) (inst_lines_kept names (k + length block.phis) block.insts ++ term_kept names block.term) rest
      ∙ ap (λ ks. phi_lines_kept names k block.phis ++ ks) (append_assoc (inst_lines_kept names (k + length block.phis) block.insts) (term_kept names block.term) rest)

  block_gives : (place k : ℕ) (block : Block) (rest : List Kept) → results_from None (block_kept names place k block ++ rest) ≡ results_then k (length (block_results block)) (results_from None rest)
  block_gives place k block rest =
      let phis = length block.phis in
      let insts = length (filter_map result_type block.insts) in
      let many : phis + insts ≡ length (block_results block) = omega (arith, length-append (map (λ (phi : Phi). phi.ty) block.phis) (filter_map result_type block.insts), length-map block.phis (λ (phi : Phi). phi.ty)) in
      ap (results_from None) (lines_apart k block rest)
      ∙ (phi_results k block.phis (inst_lines_kept names (k + phis) block.insts ++ (term_kept names block.term ++ rest))
      ∙ (ap (results_then k phis) (inst_results (k + phis) block.insts (term_kept names block.term ++ rest))
      ∙ (ap (λ rs. results_then k phis (results_then (k + phis) insts rs)) (still_results (term_kept names block.term) rest None (term_still names block.term))
      ∙ (results_then_add k phis insts (results_from None rest)
      ∙ ap (λ n. results_then k n (results_from None rest)) many))))

  pub blocks_give : (place k : ℕ) (blocks : List Block) (rest : List Kept) →
      results_from None (blocks_kept names place k blocks ++ rest) ≡ results_then k (length (flat_map block_results blocks)) (results_from None rest)
  blocks_give place k [] rest = refl
  blocks_give place k (block ∷ blocks) rest =
      let first = length (block_results block) in
      let many : first + length (flat_map block_results blocks) ≡ length (flat_map block_results (block ∷ blocks)) = omega (arith, length-append (block_results block) (flat_map block_results blocks)) in
      ap (results_from None) (append_assoc (block_kept names place k block) (blocks_kept names (suc place) (k + first) blocks) rest)
      ∙ (block_gives place k block (blocks_kept names (suc place) (k + first) blocks ++ rest)
      ∙ (ap (results_then k first) (blocks_give (suc place) (k + first) blocks rest)
      ∙ (results_then_add k first (length (flat_map block_results blocks)) (results_from None rest)
      ∙ ap (λ n. results_then k n (results_from None rest)) many)))

  -- ---- labels

  phi_labels : (k : ℕ) (phis : List Phi) (rest : List Kept) → label_names (phi_lines_kept names k phis ++ rest) ≡ label_names rest
  phi_labels k [] rest = refl
  phi_labels k (phi ∷ phis) rest =
      let g = phi_gives names phi in
      ap label_names (append_assoc (phi_kept names phi) (phi_lines_kept names (suc k) phis) rest)
      ∙ (g.labels (phi_lines_kept names (suc k) phis ++ rest) ∙ phi_labels (suc k) phis rest)

  inst_labels : (k : ℕ) (insts : List Inst) (rest : List Kept) → label_names (inst_lines_kept names k insts ++ rest) ≡ label_names rest
  inst_labels k [] rest = refl
  inst_labels k (i ∷ insts) rest = cases (result_type i) refl (λ k. inst_labels k insts rest)
    where
      cases : (o : Option Scalar) → result_type i ≡ o → ((k : ℕ) → label_names (inst_lines_kept names k insts ++ rest) ≡ label_names rest) →
          label_names (cond (is_some o) (named_kept k (inst_kept names i) ++ inst_lines_kept names (suc k) insts) (inst_kept names i ++ inst_lines_kept names k insts) ++ rest) ≡ label_names rest
      cases None e more =
          ap label_names (append_assoc (inst_kept names i) (inst_lines_kept names k insts) rest)
          ∙ (still_labels (inst_kept names i) (inst_lines_kept names k insts ++ rest) (inst_still names i e) ∙ more k)
      cases (Some ty) e more =
          let g = inst_gives names i ty e in
          ap label_names (append_assoc (inst_kept names i) (inst_lines_kept names (suc k) insts) rest)
          ∙ (g.labels (inst_lines_kept names (suc k) insts ++ rest) ∙ more (suc k))

  block_labels : (place k : ℕ) (block : Block) (rest : List Kept) → label_names (block_kept names place k block ++ rest) ≡ lettered 98 place ∷ label_names rest
  block_labels place k block rest =
      ap (λ ks. label_name ((codes "b" ++ decimal place) ++ 58 ∷ []) ∷ label_names ks) (lines_apart k block rest)
      ∙ (ap (λ name. name ∷ label_names (phi_lines_kept names k block.phis ++ (inst_lines_kept names (k + length block.phis) block.insts ++ (term_kept names block.term ++ rest)))) (name_of_label place)
      ∙ ap (λ ls. lettered 98 place ∷ ls)
      (phi_labels k block.phis (inst_lines_kept names (k + length block.phis) block.insts ++ (term_kept names block.term ++ rest))
      ∙ (inst_labels (k + length block.phis) block.insts (term_kept names block.term ++ rest) ∙ still_labels (term_kept names block.term) rest (term_still names block.term))))

  pub blocks_labels : (place k : ℕ) (blocks : List Block) → label_names (blocks_kept names place k blocks ++ close_brace_kept ∷ []) ≡ lettered_from 98 place (length blocks)
  blocks_labels place k [] = refl
  blocks_labels place k (block ∷ blocks) =
      ap label_names (append_assoc (block_kept names place k block) (blocks_kept names (suc place) (k + length (block_results block)) blocks) (close_brace_kept ∷ []))
      ∙ (block_labels place k block (blocks_kept names (suc place) (k + length (block_results block)) blocks ++ close_brace_kept ∷ [])
      ∙ ap (λ ls. lettered 98 place ∷ ls) (blocks_labels (suc place) (k + length (block_results block)) blocks))

  -- ---- all names

  -- what stands behind the opening brace of a written body
  abbrev pub inside_kept : List Block → Lexemes
  inside_kept blocks = blocks_kept names 0 0 blocks ++ close_brace_kept ∷ []

  pub inside_labels : (params : List (List ℕ)) (blocks : List Block) → 0 < length blocks → block_names params (inside_kept blocks) ≡ written_blocks (length blocks)
  inside_labels params [] some = absurd (omega arith)
  inside_labels params (block ∷ blocks) some = blocks_labels 0 0 (block ∷ blocks)

  pub locals_written : (n : ℕ) (body : Body) → 0 < length body.blocks → locals_of (written_params n) (inside_kept body.blocks) ≡ written_locals n (length (results body)) (length body.blocks)
  locals_written n body some =
      let regs : named 0 (result_names (inside_kept body.blocks)) ≡ numbered Reg 0 (written_results (length (results body))) = ap (named 0) (blocks_give 0 0 body.blocks (close_brace_kept ∷ [])) ∙ named_results 0 (length (results body)) in
      ap (λ ls. numbered Param 0 (written_params n) ++ (ls ++ numbered OfBlock 0 (block_names (written_params n) (inside_kept body.blocks)))) regs
      ∙ ap (λ bs. numbered Param 0 (written_params n) ++ (numbered Reg 0 (written_results (length (results body))) ++ numbered OfBlock 0 bs)) (inside_labels (written_params n) body.blocks some)
