-- Steps over the results of instructions and of blocks.
use Rattle.std.proofs.Common.{◌≡◌, ℕ, zero, suc, ◌+◌, ◌-◌, ◌<◌, ◌≤◌, List, [], ◌∷◌, ◌++◌, length, get_or, drop, drop-cons, add-one, IsSome, is_some, true, ◌↔◌, Option, None, Some, refl, ap, sym, ◌∙◌, arith}
use Rattle.std.proofs.lemmas.List.{drop_all}
use Rattle.std.proofs.lemmas.Bool.{false≢true}
use Rattle.std.specs.List.{slice_get, filter_map, flat_map}
use Rattle.ir_types.proofs.ListSteps.{drop_at, slice_get-after}
use Rattle.ir_syntax.specs.declared.body.Inst.{Inst}
use Rattle.ir_syntax.specs.declared.body.Block.{Block}
use Rattle.ir_types.specs.declared.scalar.Scalar.{Scalar}
use Rattle.ir_syntax.specs.Results.{result_type, block_results}

abbrev types : List Inst → List Scalar
types insts = filter_map result_type insts

types_at_some : (x : Inst) (ty : Scalar) (rest : List Inst) → Some ty ≡ result_type x → types (x ∷ rest) ≡ ty ∷ types rest
types_at_some x ty rest is = rw (sym is)

types_at_none : (x : Inst) (rest : List Inst) → None ≡ result_type x → types (x ∷ rest) ≡ types rest
types_at_none x rest is = rw (sym is)

pub types_some : (insts : List Inst) (i : ℕ) (x : Inst) (ty : Scalar) → i < length insts → x ≡ get_or insts i x → Some ty ≡ result_type x → filter_map result_type (drop i insts) ≡ ty ∷ filter_map result_type (drop (i + 1) insts)
types_some insts i x ty within is some = ap types (drop_at insts i x within is) ∙ types_at_some x ty (drop (i + 1) insts) some

pub types_none : (insts : List Inst) (i : ℕ) (x : Inst) → i < length insts → x ≡ get_or insts i x → None ≡ result_type x → filter_map result_type (drop i insts) ≡ filter_map result_type (drop (i + 1) insts)
types_none insts i x within is none = ap types (drop_at insts i x within is) ∙ types_at_none x (drop (i + 1) insts) none

-- the results from a block on
pub results_at : (blocks : List Block) (i : ℕ) (b : Block) → i < length blocks → b ≡ get_or blocks i b → flat_map block_results (drop i blocks) ≡ block_results b ++ flat_map block_results (drop (i + 1) blocks)
results_at blocks i b within is = ap (flat_map block_results) (drop_at blocks i b within is)

pub next_some : {A : Type 0} (all rest : List A) (x : A) (left next : ℕ) → all ≡ x ∷ rest → next ≡ left - 1 → 0 < left → slice_get rest next ≡ slice_get all left
next_some all rest x left next here is above = ap (slice_get rest) is ∙ sym (slice_get-after x rest left above) ∙ ap (λ xs. slice_get xs left) (sym here)

pub next_none : {A : Type 0} (all rest : List A) (left next : ℕ) → all ≡ rest → next ≡ left → slice_get rest next ≡ slice_get all left
next_none all rest left next here is = ap (slice_get rest) is ∙ ap (λ xs. slice_get xs left) (sym here)

-- There is a k-th element where the list is longer than k.
pub there_within : {A : Type 0} (o : Option A) (xs : List A) (k : ℕ) → o ≡ slice_get xs k → IsSome o ↔ (k < length xs)
there_within o xs k is = (λ some. within xs k (sym (ap is_some is) ∙ some), λ less. ap is_some is ∙ some_at xs k less)
  where
    within : {A : Type 0} (xs : List A) (k : ℕ) → is_some (slice_get xs k) ≡ true → k < length xs
    within [] k some = absurd (false≢true some)
    within (x ∷ xs) zero some = omega arith
    within (x ∷ xs) (suc k) some = omega (arith, within xs k some)

    some_at : {A : Type 0} (xs : List A) (k : ℕ) → k < length xs → is_some (slice_get xs k) ≡ true
    some_at [] k less = absurd (omega arith)
    some_at (x ∷ xs) zero less = refl
    some_at (x ∷ xs) (suc k) less = some_at xs k (omega arith)

pub none_left : (blocks : List Block) (i left : ℕ) → length blocks ≤ i → None ≡ slice_get (flat_map block_results (drop i blocks)) left
none_left blocks i left past = ap (λ bs. slice_get (flat_map block_results bs) left) (sym (drop_all i blocks past))
