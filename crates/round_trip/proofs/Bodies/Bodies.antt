-- A written body is read back, where each of its lines is.
use Rattle.std.proofs.Common.{◌≡◌, ◌∙◌, ℕ, ◌+◌, ◌<◌, ◌≤◌, ◌^◌, Bool, true, false, ◌&&◌, cond, nat_eq, List, [], ◌∷◌, ◌++◌, length, map, filter, flat_map, sum_by, count_by, Option, Some, None, option_and_then, refl, sym, ap, arith, append_assoc, append-nil, length-append}
use Rattle.std.specs.Prelude.{All}
use Rattle.std.specs.List.{filter_map, cons_option}
use Rattle.std.proofs.lemmas.List.{length-map}
use Rattle.std.proofs.lemmas.List.Sums.{sum_by-cons, sum-map, length-filter}
use Rattle.std.proofs.lemmas.Bool.{and_from, cond-true, lt-ltb, le-leb, eq-eqb}
use Rattle.ir_types.specs.declared.scalar.Scalar.{Scalar}
use Rattle.ir_syntax.specs.declared.body.Phi.{Phi}
use Rattle.ir_syntax.specs.declared.body.Inst.{Inst}
use Rattle.ir_syntax.specs.declared.body.Block.{Block}
use Rattle.ir_syntax.specs.declared.body.Body.{Body}
use Rattle.ir_syntax.specs.declared.item.Item.{Item}
use Rattle.ir_syntax.specs.Results.{result_type, block_results, results, block_count, count}
use Rattle.ir_syntax.specs.FormedBody.{FormedBody}
use Rattle.ir_grammar.specs.Tokens.{Kept}
use Rattle.ir_scope.specs.Scopes.{Env}
use Rattle.ir_locals.specs.Locals.{has_result, result_name, results_from, is_label, label_names, begins_labelled, are_locals}
use Rattle.ir_operands.specs.Operands.{Names}
use Rattle.ir_body.specs.Lines.{Line, OfPhi, OfInst, Ends}
use Rattle.ir_body.specs.Bodies.{blocks_from, body_of, results_in, blocks_in, is_counted, is_body, bounded, lines_at, body_with, body_at}
use Rattle.round_trip.proofs.Grammar.Kept.{close_brace_kept, body_kept}
use Rattle.round_trip.proofs.Locals.Texts.{length_lettered, written_params, written_locals}
use Rattle.round_trip.proofs.Locals.Written.{length_results_then, blocks_give, blocks_labels, inside_kept, locals_written}
use Rattle.round_trip.proofs.Locals.Distinct.{locals_are}
use Rattle.round_trip.proofs.Bodies.Lines.{BlockBack, block_lines, lines_back}

-- ---- blocks from lines

phis_gathered : (phis more : List Phi) (insts : List Inst) (lines : List Line) → blocks_from phis insts (map (λ phi. OfPhi phi) more ++ lines) ≡ blocks_from (phis ++ more) insts lines
phis_gathered phis [] insts lines = ap (λ ps. blocks_from ps insts lines) (sym (append-nil phis))
phis_gathered phis (phi ∷ more) insts lines = phis_gathered (phis ++ phi ∷ []) more insts lines ∙ ap (λ ps. blocks_from ps insts lines) (append_assoc phis (phi ∷ []) more)

insts_gathered : (phis : List Phi) (insts more : List Inst) (lines : List Line) → blocks_from phis insts (map (λ i. OfInst i) more ++ lines) ≡ blocks_from phis (insts ++ more) lines
insts_gathered phis insts [] lines = ap (λ is. blocks_from phis is lines) (sym (append-nil insts))
insts_gathered phis insts (i ∷ more) lines = insts_gathered phis (insts ++ i ∷ []) more lines ∙ ap (λ is. blocks_from phis is lines) (append_assoc insts (i ∷ []) more)

block_made : (block : Block) (lines : List Line) → blocks_from [] [] (block_lines block ++ lines) ≡ block ∷ blocks_from [] [] lines
block_made block lines =
    ap (blocks_from [] []) (append_assoc (map (λ phi. OfPhi phi) block.phis) (map (λ i. OfInst i) block.insts ++ Ends block.term ∷ []) lines)
    ∙ (phis_gathered [] block.phis [] ((map (λ i. OfInst i) block.insts ++ Ends block.term ∷ []) ++ lines)
    ∙ (ap (blocks_from block.phis []) (append_assoc (map (λ i. OfInst i) block.insts) (Ends block.term ∷ []) lines)
    ∙ insts_gathered block.phis [] block.insts (Ends block.term ∷ lines)))

blocks_made : (blocks : List Block) → blocks_from [] [] (flat_map block_lines blocks) ≡ blocks
blocks_made [] = refl
blocks_made (block ∷ blocks) = block_made block (flat_map block_lines blocks) ∙ ap (λ bs. block ∷ bs) (blocks_made blocks)

body_made : (body : Body) → body_of (flat_map block_lines body.blocks) ≡ body
body_made body = λ j. record { blocks = blocks_made body.blocks j }

-- ---- counts

few_typed : (insts : List Inst) → length (filter_map result_type insts) ≤ length insts
few_typed [] = omega arith
few_typed (i ∷ insts) = cases (result_type i) (few_typed insts)
  where
    cases : (o : Option Scalar) → length (filter_map result_type insts) ≤ length insts → length (cons_option o (filter_map result_type insts)) ≤ length (i ∷ insts)
    cases None more = omega arith
    cases (Some ty) more = omega arith

few_in_block : (block : Block) → length (block_results block) ≤ block_count block
few_in_block block = omega (arith, length-append (map (λ (phi : Phi). phi.ty) block.phis) (filter_map result_type block.insts), length-map block.phis (λ (phi : Phi). phi.ty), few_typed block.insts)

few_in_blocks : (blocks : List Block) → length (flat_map block_results blocks) ≤ sum_by block_count blocks
few_in_blocks [] = omega arith
few_in_blocks (block ∷ blocks) =
    omega (arith, length-append (block_results block) (flat_map block_results blocks), few_in_block block, few_in_blocks blocks, sum_by-cons block_count block blocks)

-- a body has no more results than phis and instructions
pub few_results : (body : Body) → length (results body) ≤ count body
few_results body = omega (arith, few_in_blocks body.blocks, sum-map block_count body.blocks)

results_count : (pending : Option (List ℕ)) (ks : List Kept) → length (results_from pending ks) ≡ results_in ks
results_count pending [] = refl
results_count pending (k ∷ ks) = cases (has_result k.0) (results_count None ks) (results_count (result_name k.0 k.1 pending) ks) ∙ sym (sum_by-cons (λ (k : Kept). cond (has_result k.0) 1 0) k ks)
  where
    cases : (b : Bool) → length (results_from None ks) ≡ results_in ks → length (results_from (result_name k.0 k.1 pending) ks) ≡ results_in ks →
        length (cond b (pending ∷ results_from None ks) (results_from (result_name k.0 k.1 pending) ks)) ≡ cond b 1 0 + results_in ks
    cases true more same = omega (arith, more)
    cases false more same = omega (arith, same)

labels_count : (ks : List Kept) → length (label_names ks) ≡ count_by (λ (k : Kept). is_label k.0) ks
labels_count ks = length-map (filter (λ (k : Kept). is_label k.0) ks) _ ∙ length-filter (λ (k : Kept). is_label k.0) ks

module _ (names : List (List ℕ)) where
  results_are : (body : Body) → results_in (inside_kept names body.blocks) ≡ length (results body)
  results_are body =
      sym (results_count None (inside_kept names body.blocks))
      ∙ (ap length (blocks_give names 0 0 body.blocks (close_brace_kept ∷ []))
      ∙ let more : length (results body) + 0 ≡ length (results body) = omega arith in length_results_then 0 (length (results body)) [] ∙ more)

  begun : (blocks : List Block) → 0 < length blocks → begins_labelled (inside_kept names blocks) ≡ true
  begun [] some = absurd (omega arith)
  begun (block ∷ blocks) some = refl

  blocks_are : (blocks : List Block) → 0 < length blocks → blocks_in (inside_kept names blocks) ≡ length blocks
  blocks_are blocks some =
      let labels : count_by (λ (k : Kept). is_label k.0) (inside_kept names blocks) ≡ length blocks =
      sym (labels_count (inside_kept names blocks)) ∙ (ap length (blocks_labels names 0 0 blocks) ∙ length_lettered 98 0 (length blocks)) in
      let same : count_by (λ (k : Kept). is_label k.0) (inside_kept names blocks) + 0 ≡ length blocks = omega (arith, labels) in
      ap (λ b. count_by (λ (k : Kept). is_label k.0) (inside_kept names blocks) + cond b 0 1) (begun blocks some) ∙ same

  counted : (body : Body) → 0 < length body.blocks → is_counted (inside_kept names body.blocks) body ≡ true
  counted body some =
      and_from (nat_eq (results_in (inside_kept names body.blocks)) (length (results body))) (nat_eq (blocks_in (inside_kept names body.blocks)) (length body.blocks))
      (eq-eqb (results_in (inside_kept names body.blocks)) (length (results body)) (results_are body))
      (eq-eqb (blocks_in (inside_kept names body.blocks)) (length body.blocks) (blocks_are body.blocks some))

-- ---- the body

formed_is_body : (items : List Item) (params : ℕ) (body : Body) → FormedBody items params body → is_body body ≡ true
formed_is_body items params body formed =
    and_from _ _
    (and_from _ _ (lt-ltb 0 (length body.blocks) formed.has_block) (le-leb (length body.blocks) 65535 formed.few_blocks))
    (le-leb (count body) 1048576 formed.few_insts)

-- the names of a written body in its module
abbrev pub names_of_written : Env → ℕ → Body → Names
names_of_written env n body = record { env = env; locals = written_locals n (length (results body)) (length body.blocks) }

pub body_back : (env : Env) (names : List (List ℕ)) (items : List Item) (n : ℕ) (body : Body) → n < 2 ^ 64 → FormedBody items n body →
    All (BlockBack (names_of_written env n body) names) body.blocks → body_at env (written_params n) (body_kept names body) ≡ Some body
body_back env names items n body small formed back =
    let inside = inside_kept names body.blocks in
    let locals = written_locals n (length (results body)) (length body.blocks) in
    let lines = flat_map block_lines body.blocks in
    let well : are_locals locals ≡ true = locals_are n (length (results body)) (length body.blocks) small (omega (arith, few_results body, formed.few_insts)) (omega (arith, formed.few_blocks)) in
    let fits : is_body body && is_counted inside body ≡ true = and_from (is_body body) (is_counted inside body) (formed_is_body items n body formed) (counted names body formed.has_block) in
    ap (λ ls. body_with env ls inside) (locals_written names n body formed.has_block)
    ∙ (cond-true (are_locals locals) (option_and_then (λ f. bounded inside (body_of f.0)) (lines_at (names_of_written env n body) inside)) None well
    ∙ (ap (option_and_then (λ f. bounded inside (body_of f.0))) (lines_back (names_of_written env n body) names body.blocks back)
    ∙ (ap (bounded inside) (body_made body)
    ∙ cond-true (is_body body && is_counted inside body) (Some body) None fits)))
