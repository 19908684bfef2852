-- The numbers and types of results, and which uses stand where.
use Rattle.std.proofs.Common.{◌≡◌, ◌∙◌, ℕ, zero, suc, ◌+◌, ◌≤◌, List, [], ◌∷◌, ◌++◌, length, map, take, All, Some, None, slice_get, refl, sym, ap, subst, arith}
use Rattle.std.specs.Prelude.{flat_map}
use Rattle.std.specs.List.{filter_map, cons_option}
use Rattle.std.proofs.lemmas.List.{length-append, length-map}
use Rattle.std.proofs.lemmas.List.Sums.{sum_by-cons}
use Rattle.std.proofs.lemmas.List.Elements.{filter_map-append}
use Rattle.std.proofs.lemmas.Option.{same_Some}
use Rattle.ir_types.specs.declared.scalar.Scalar.{Scalar}
use Rattle.ir_types.proofs.ListSteps.{slice_get-append_first, slice_get-append_rest}
use Rattle.ir_syntax.specs.declared.body.Inst.{Inst}
use Rattle.ir_syntax.specs.declared.body.Term.{Term}
use Rattle.ir_syntax.specs.declared.body.Phi.{Phi}
use Rattle.ir_syntax.specs.declared.body.Block.{Block}
use Rattle.ir_syntax.specs.Operands.{operands}
use Rattle.ir_syntax.specs.Results.{result_type, block_results}
use Rattle.ir_syntax.specs.Definite.{first_result, Use, operand_uses, has_result, insts_uses, block_uses, uses_from, uses}
use Rattle.ir_steps.proofs.NumberingLists.{all_left, all_right}

-- ---- the first result of each block

pub first_zero : (blocks : List Block) → first_result blocks 0 ≡ 0
first_zero [] = refl
first_zero (b ∷ bs) = refl

pub first_cons : (b : Block) (bs : List Block) (k : ℕ) → first_result (b ∷ bs) (suc k) ≡ length (block_results b) + first_result bs k
first_cons b bs k = sum_by-cons (λ n. n) (length (block_results b)) (map (λ block. length (block_results block)) (take k bs))

pub first_next : (blocks : List Block) (k : ℕ) (b : Block) → slice_get blocks k ≡ Some b → first_result blocks (suc k) ≡ first_result blocks k + length (block_results b)
first_next [] k b e = cc
first_next (c ∷ bs) zero b e =
    let same : c ≡ b = same_Some c b e in
    subst (λ d. first_result (c ∷ bs) 1 ≡ first_result (c ∷ bs) 0 + length (block_results d)) same (let n = first_cons c bs 0 in let z = first_zero bs in omega (arith, n, z))
first_next (c ∷ bs) (suc k) b e = omega (arith, first_next bs k b e, first_cons c bs k, first_cons c bs (suc k))

-- The type of a result of a block is that of its register.
pub result_at : (blocks : List Block) (place : ℕ) (b : Block) (j r : ℕ) (ty : Scalar) → slice_get blocks place ≡ Some b → slice_get (block_results b) j ≡ Some ty → r ≡ first_result blocks place + j
    → slice_get (flat_map block_results blocks) r ≡ Some ty
result_at [] place b j r ty at e n = cc
result_at (c ∷ bs) zero b j r ty at e n =
    let same : c ≡ b = same_Some c b at in
    let here : r ≡ j = omega (arith, n, first_zero (c ∷ bs)) in
    slice_get-append_first (block_results c) (flat_map block_results bs) r ty (subst (λ d. slice_get (block_results d) r ≡ Some ty) (sym same) (subst (λ k. slice_get (block_results b) k ≡ Some ty) (sym here) e))
result_at (c ∷ bs) (suc place) b j r ty at e n =
    let k = first_result bs place + j in
    let there : k + length (block_results c) ≡ r = omega (arith, n, first_cons c bs place) in
    slice_get-append_rest (block_results c) (flat_map block_results bs) k r there ∙ result_at bs place b j k ty at e refl

-- The results of a block are among those of the body.
pub results_within : (blocks : List Block) (place : ℕ) (b : Block) → slice_get blocks place ≡ Some b → first_result blocks place + length (block_results b) ≤ length (flat_map block_results blocks)
results_within [] place b e = cc
results_within (c ∷ bs) zero b e =
    let same : c ≡ b = same_Some c b e in
    let start = first_zero (c ∷ bs) in
    subst (λ d. first_result (c ∷ bs) 0 + length (block_results d) ≤ length (flat_map block_results (c ∷ bs))) same (omega (arith, start, length-append (block_results c) (flat_map block_results bs)))
results_within (c ∷ bs) (suc place) b e =
    let more = results_within bs place b e in
    omega (arith, more, first_cons c bs place, length-append (block_results c) (flat_map block_results bs))

-- ---- results in a block

pub results_more : (i : Inst) (is : List Inst) → length (filter_map result_type (i ∷ is)) ≡ has_result (result_type i) + length (filter_map result_type is)
results_more i is = elim (result_type i) as (λ o. length (cons_option o (filter_map result_type is)) ≡ has_result o + length (filter_map result_type is)) [
  | None ↦ omega arith
  | Some ty ↦ omega arith
]

pub results_after : (done is : List Inst) → length (filter_map result_type (done ++ is)) ≡ length (filter_map result_type done) + length (filter_map result_type is)
results_after done is = simp (filter_map-append, length-append)

-- the type of the next result
pub next_type : (b : Block) (done : List Inst) (i : Inst) (is : List Inst) (ty : Scalar) → b.insts ≡ done ++ i ∷ is → result_type i ≡ Some ty
    → slice_get (block_results b) (length b.phis + length (filter_map result_type done)) ≡ Some ty
next_type b done i is ty split e =
    let count = length (filter_map result_type done) in
    let phis = map (λ (phi : Phi). phi.ty) b.phis in
    let behind = filter_map result_type (done ++ i ∷ is) in
    let many : count + length phis ≡ length b.phis + count = omega (arith, length-map b.phis (λ (phi : Phi). phi.ty)) in
    let head : slice_get (filter_map result_type (i ∷ is)) 0 ≡ Some ty = ap (λ o. slice_get (cons_option o (filter_map result_type is)) 0) e in
    ap (λ insts. slice_get (phis ++ filter_map result_type insts) (length b.phis + count)) split
    ∙ slice_get-append_rest phis behind count (length b.phis + count) many
    ∙ ap (λ (l : List Scalar). slice_get l count) (filter_map-append result_type done (i ∷ is))
    ∙ slice_get-append_rest (filter_map result_type done) (filter_map result_type (i ∷ is)) 0 count (omega arith)
    ∙ head

-- ---- uses

uses_at : (P : Use → Type 0) (blocks bs : List Block) (from place : ℕ) (k : ℕ) (b : Block) → slice_get bs k ≡ Some b → place ≡ from + k → All P (uses_from blocks from bs) → All P (block_uses blocks place b)
uses_at P blocks [] from place k b e n h = cc
uses_at P blocks (c ∷ bs) from place zero b e n h =
    let here : from ≡ place = omega arith in
    let same : c ≡ b = same_Some c b e in
    subst (λ d. All P (block_uses blocks place d)) same (subst (λ p. All P (block_uses blocks p c)) here (all_left P (block_uses blocks from c) (uses_from blocks (suc from) bs) h))
uses_at P blocks (c ∷ bs) from place (suc k) b e n h =
    let there : place ≡ suc from + k = omega arith in
    uses_at P blocks bs (suc from) place k b e there (all_right P (block_uses blocks from c) (uses_from blocks (suc from) bs) h)

-- the uses of a block are among those of the body
pub block_uses_all : (P : Use → Type 0) (blocks : List Block) (place : ℕ) (b : Block) → slice_get blocks place ≡ Some b → All P (uses blocks) → All P (block_uses blocks place b)
block_uses_all P blocks place b e h = let here : place ≡ 0 + place = omega arith in uses_at P blocks blocks 0 place place b e here h

-- the uses behind what is done
pub uses_left : (P : Use → Type 0) (place until j : ℕ) (done is : List Inst) (t : Term) → j ≡ until + length (filter_map result_type done) → All P (insts_uses place until (done ++ is) t) → All P (insts_uses place j is t)
uses_left P place until j [] is t e h = subst (λ n. All P (insts_uses place n is t)) (let same : until ≡ j = omega arith in same) h
uses_left P place until j (d ∷ ds) is t e h =
    let more = results_more d ds in
    let there : j ≡ (until + has_result (result_type d)) + length (filter_map result_type ds) = omega arith in
    uses_left P place (until + has_result (result_type d)) j ds is t there (all_right P (flat_map (operand_uses place until) (operands d)) (insts_uses place (until + has_result (result_type d)) (ds ++ is) t) h)
