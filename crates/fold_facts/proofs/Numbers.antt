-- The numbers of results.
use Rattle.std.proofs.Common.{◌≡◌, ◌∙◌, ℕ, zero, suc, ◌+◌, ◌≤◌, List, [], ◌∷◌, Option, None, Some, length, map, take, refl, sym, ap, subst, arith, length-append}
use Rattle.std.specs.Prelude.{slice_get}
use Rattle.std.specs.List.{filter_map}
use Rattle.std.proofs.lemmas.List.{length-map}
use Rattle.std.proofs.lemmas.List.Sums.{sum_by-cons}
use Rattle.std.proofs.lemmas.Option.{none-some}
use Rattle.ir_types.specs.declared.scalar.Scalar.{Scalar}
use Rattle.ir_types.proofs.ListSteps.{slice_get-append_first, slice_get-append_rest}
use Rattle.ir_syntax.specs.declared.body.Inst.{Inst}
use Rattle.ir_syntax.specs.declared.body.Phi.{Phi}
use Rattle.ir_syntax.specs.declared.body.Block.{Block}
use Rattle.ir_syntax.specs.Results.{result_type, block_results}
use Rattle.ir_syntax.specs.Definite.{first_result, has_result}
use Rattle.fold_facts.specs.OfFunction.{results_in}
use Rattle.fold_facts.proofs.Lists.{some_is, get_map}

-- ---- blocks

pub first_zero : (blocks : List Block) → first_result blocks 0 ≡ 0
first_zero [] = refl
first_zero (b ∷ bs) = refl

pub first_cons : (b : Block) (bs : List Block) (k : ℕ) → first_result (b ∷ bs) (suc k) ≡ length (block_results b) + first_result bs k
first_cons b bs k = sum_by-cons (λ n. n) (length (block_results b)) (map (λ block. length (block_results block)) (take k bs))

-- a result of a block, among those of the body
pub result_in : (blocks : List Block) (place : ℕ) (block : Block) (k : ℕ) (ty : Scalar) → slice_get blocks place ≡ Some block → slice_get (block_results block) k ≡ Some ty → slice_get (results_in blocks) (first_result blocks place + k) ≡ Some ty
result_in [] place block k ty h is = absurd (none-some block h)
result_in (b ∷ bs) zero block k ty h is =
    let e : first_result (b ∷ bs) zero + k ≡ k = omega (arith, first_zero (b ∷ bs)) in
    subst (λ n. slice_get (results_in (b ∷ bs)) n ≡ Some ty) (sym e)
    (slice_get-append_first (block_results b) (results_in bs) k ty (subst (λ c. slice_get (block_results c) k ≡ Some ty) (sym (some_is h)) is))
result_in (b ∷ bs) (suc place) block k ty h is =
    let e : (first_result bs place + k) + length (block_results b) ≡ first_result (b ∷ bs) (suc place) + k = omega (arith, first_cons b bs place) in
    slice_get-append_rest (block_results b) (results_in bs) (first_result bs place + k) (first_result (b ∷ bs) (suc place) + k) e ∙ result_in bs place block k ty h is

pub first_next : (blocks : List Block) (place : ℕ) (block : Block) → slice_get blocks place ≡ Some block → first_result blocks (place + 1) ≡ first_result blocks place + length (block_results block)
first_next [] place block h = absurd (none-some block h)
first_next (b ∷ bs) zero block h =
    let c : first_result (b ∷ bs) (suc zero) ≡ length (block_results b) + first_result bs zero = first_cons b bs zero in
    let z : first_result bs zero ≡ 0 = first_zero bs in
    let y : first_result (b ∷ bs) zero ≡ 0 = first_zero (b ∷ bs) in
    let s : length (block_results b) ≡ length (block_results block) = ap (λ d. length (block_results d)) (some_is h) in
    omega arith
first_next (b ∷ bs) (suc place) block h =
    let s : suc (place + 1) ≡ suc place + 1 = omega arith in
    let c : first_result (b ∷ bs) (suc (place + 1)) ≡ length (block_results b) + first_result bs (place + 1) = first_cons b bs (place + 1) in
    let d : first_result (b ∷ bs) (suc place) ≡ length (block_results b) + first_result bs place = first_cons b bs place in
    let n : first_result bs (place + 1) ≡ first_result bs place + length (block_results block) = first_next bs place block h in
    let m : first_result (b ∷ bs) (suc (place + 1)) ≡ first_result (b ∷ bs) (suc place + 1) = ap (first_result (b ∷ bs)) s in
    omega arith

-- the results of a block stand within those of the body
pub block_within : (blocks : List Block) (place : ℕ) (block : Block) → slice_get blocks place ≡ Some block → first_result blocks place + length (block_results block) ≤ length (results_in blocks)
block_within [] place block h = absurd (none-some block h)
block_within (b ∷ bs) zero block h =
    let s : length (block_results b) ≡ length (block_results block) = ap (λ d. length (block_results d)) (some_is h) in
    omega (arith, first_zero (b ∷ bs), length-append (block_results b) (results_in bs))
block_within (b ∷ bs) (suc place) block h =
    omega (arith, first_cons b bs place, length-append (block_results b) (results_in bs), block_within bs place block h)

-- ---- phis

pub phi_result : (block : Block) (k : ℕ) (phi : Phi) → slice_get block.phis k ≡ Some phi → slice_get (block_results block) k ≡ Some phi.ty
phi_result block k phi h = slice_get-append_first (map (λ p. p.ty) block.phis) (filter_map result_type block.insts) k phi.ty (get_map (λ p. p.ty) block.phis k phi h)

pub phis_first : (block : Block) → length (block_results block) ≡ length block.phis + length (filter_map result_type block.insts)
phis_first block = omega (arith, length-append (map (λ p. p.ty) block.phis) (filter_map result_type block.insts), length-map block.phis (λ p. p.ty))

-- ---- other instructions

abbrev pub types : List Inst → List Scalar
types insts = filter_map result_type insts

pub types_some : (x : Inst) (ty : Scalar) (rest : List Inst) → result_type x ≡ Some ty → types (x ∷ rest) ≡ ty ∷ types rest
types_some x ty rest is = rw is

pub types_none : (x : Inst) (rest : List Inst) → result_type x ≡ None → types (x ∷ rest) ≡ types rest
types_none x rest is = rw is

typed_at : (insts : List Inst) (k : ℕ) (x : Inst) (ty : Scalar) → slice_get insts k ≡ Some x → result_type x ≡ Some ty → slice_get (types insts) (length (types (take k insts))) ≡ Some ty
typed_at [] k x ty h is = absurd (none-some x h)
typed_at (i ∷ more) zero x ty h is = ap (λ l. slice_get l 0) (types_some i ty more (ap result_type (some_is h) ∙ is))
typed_at (i ∷ more) (suc k) x ty h is = by (result_type i) refl (typed_at more k x ty h is)
  where
    by : (o : Option Scalar) → result_type i ≡ o → slice_get (types more) (length (types (take k more))) ≡ Some ty → slice_get (types (i ∷ more)) (length (types (i ∷ take k more))) ≡ Some ty
    by None e rest = ap (λ l. slice_get l (length (types (i ∷ take k more)))) (types_none i more e) ∙ ap (λ l. slice_get (types more) (length l)) (types_none i (take k more) e) ∙ rest
    by (Some t) e rest = ap (λ l. slice_get l (length (types (i ∷ take k more)))) (types_some i t more e) ∙ ap (λ l. slice_get (t ∷ types more) (length l)) (types_some i t (take k more) e) ∙ rest

pub types_next : (insts : List Inst) (k : ℕ) (x : Inst) → slice_get insts k ≡ Some x → length (types (take (k + 1) insts)) ≡ length (types (take k insts)) + has_result (result_type x)
types_next [] k x h = absurd (none-some x h)
types_next (i ∷ more) zero x h = by (result_type i) refl
  where
    by : (o : Option Scalar) → result_type i ≡ o → length (types (take 1 (i ∷ more))) ≡ 0 + has_result (result_type x)
    by None e = ap length (types_none i [] e) ∙ sym (ap (λ y. 0 + has_result y) (sym (ap result_type (some_is h)) ∙ e))
    by (Some t) e = ap length (types_some i t [] e) ∙ sym (ap (λ y. 0 + has_result y) (sym (ap result_type (some_is h)) ∙ e))
types_next (i ∷ more) (suc k) x h = ap (λ n. length (types (take n (i ∷ more)))) (one k) ∙ by (result_type i) refl (types_next more k x h)
  where
    one : (n : ℕ) → suc n + 1 ≡ suc (n + 1)
    one n = omega arith

    by : (o : Option Scalar) → result_type i ≡ o → length (types (take (k + 1) more)) ≡ length (types (take k more)) + has_result (result_type x) → length (types (i ∷ take (k + 1) more)) ≡ length (types (i ∷ take k more)) + has_result (result_type x)
    by None e rest = ap length (types_none i (take (k + 1) more) e) ∙ rest ∙ sym (ap (λ l. length l + has_result (result_type x)) (types_none i (take k more) e))
    by (Some t) e rest =
        let next : length (types (take (k + 1) more)) ≡ length (types (take k more)) + has_result (result_type x) = rest in
        let l : length (types (i ∷ take (k + 1) more)) ≡ suc (length (types (take (k + 1) more))) = ap length (types_some i t (take (k + 1) more) e) in
        let r : length (types (i ∷ take k more)) ≡ suc (length (types (take k more))) = ap length (types_some i t (take k more) e) in
        omega arith

-- the number of an instruction's result
pub inst_typed : (block : Block) (k : ℕ) (x : Inst) (ty : Scalar) → slice_get block.insts k ≡ Some x → result_type x ≡ Some ty → slice_get (block_results block) (length block.phis + length (types (take k block.insts))) ≡ Some ty
inst_typed block k x ty h is =
    let e : length (types (take k block.insts)) + length (map (λ p. p.ty) block.phis) ≡ length block.phis + length (types (take k block.insts)) = omega (arith, length-map block.phis (λ p. p.ty)) in
    slice_get-append_rest (map (λ p. p.ty) block.phis) (types block.insts) (length (types (take k block.insts))) (length block.phis + length (types (take k block.insts))) e ∙ typed_at block.insts k x ty h is

pub types_most : (insts : List Inst) (k : ℕ) → length (types (take k insts)) ≤ length (types insts)
types_most [] zero = omega arith
types_most [] (suc k) = omega arith
types_most (i ∷ more) zero = omega arith
types_most (i ∷ more) (suc k) = by (result_type i) refl (types_most more k)
  where
    by : (o : Option Scalar) → result_type i ≡ o → length (types (take k more)) ≤ length (types more) → length (types (i ∷ take k more)) ≤ length (types (i ∷ more))
    by None e rest = omega (arith, rest, ap length (types_none i (take k more) e), ap length (types_none i more e))
    by (Some t) e rest = omega (arith, rest, ap length (types_some i t (take k more) e), ap length (types_some i t more e))
