-- The list of definers tells which block defines which register.
use Rattle.std.proofs.Common.{◌≡◌, ◌∙◌, ℕ, zero, suc, ◌+◌, ◌-◌, ◌<◌, ◌≤◌, ◌⊎◌, inl, inr, List, [], ◌∷◌, ◌++◌, length, map, take, Some, slice_get, refl, sym, ap, subst, arith}
use Rattle.std.proofs.lemmas.List.{length-append}
use Rattle.std.proofs.lemmas.List.Sums.{sum_by-cons}
use Rattle.std.specs.List.{flat_map}
use Rattle.ir_types.specs.declared.scalar.Scalar.{Scalar}
use Rattle.ir_syntax.specs.declared.body.Block.{Block}
use Rattle.ir_syntax.specs.Results.{block_results}
use Rattle.ir_syntax.specs.Definite.{first_result, Defines}
use Rattle.ir_paths.specs.FarUses.{definers_from}

-- ---- the numbers of first results

pub first_zero : (blocks : List Block) → first_result blocks 0 ≡ 0
first_zero [] = refl
first_zero (b ∷ bs) = refl

pub first_cons : (b : Block) (bs : List Block) (k : ℕ) → first_result (b ∷ bs) (suc k) ≡ length (block_results b) + first_result bs k
first_cons b bs k = sum_by-cons (λ n. n) (length (block_results b)) (map (λ block. length (block_results block)) (take k bs))

pub first_rises : (blocks : List Block) (k : ℕ) → first_result blocks k ≤ first_result blocks (suc k)
first_rises [] zero = omega arith
first_rises [] (suc k) = omega arith
first_rises (b ∷ bs) zero = omega arith
first_rises (b ∷ bs) (suc k) = omega (arith, first_rises bs k, first_cons b bs k, first_cons b bs (suc k))

first_rises_by : (blocks : List Block) (k n : ℕ) → first_result blocks k ≤ first_result blocks (k + n)
first_rises_by blocks k zero = let e : k ≡ k + 0 = omega arith in subst (λ m. first_result blocks k ≤ first_result blocks m) e (omega arith)
first_rises_by blocks k (suc n) =
    let e : suc (k + n) ≡ k + suc n = omega arith in
    let more : first_result blocks (k + n) ≤ first_result blocks (k + suc n) = subst (λ m. first_result blocks (k + n) ≤ first_result blocks m) e (first_rises blocks (k + n)) in
    omega (arith, first_rises_by blocks k n, more)

pub first_mono : (blocks : List Block) (k n : ℕ) → k ≤ n → first_result blocks k ≤ first_result blocks n
first_mono blocks k n l =
    let e : k + (n - k) ≡ n = omega arith in
    subst (λ m. first_result blocks k ≤ first_result blocks m) e (first_rises_by blocks k (n - k))

-- One block at most defines a register.
order : (m n : ℕ) → (m ≡ n) ⊎ ((suc m ≤ n) ⊎ (suc n ≤ m))
order m n = grind arith

apart : (r a b c d : ℕ) → r < a → a ≤ b → b ≤ r → ⊥
apart r a b c d l m n = omega arith

pub one_definer : (blocks : List Block) (a b r : ℕ) → Defines blocks a r → Defines blocks b r → a ≡ b
one_definer blocks a b r (fa, la) (fb, lb) = elim (order a b) [
  | inl e ↦ e
  | inr (inl l) ↦ absurd (apart r (first_result blocks (suc a)) (first_result blocks b) 0 0 la (first_mono blocks (suc a) b l) fb)
  | inr (inr l) ↦ absurd (apart r (first_result blocks (suc b)) (first_result blocks a) 0 0 lb (first_mono blocks (suc b) a l) fa)
]

-- ---- definers

get_front : (n place : ℕ) (tys : List Scalar) (rest : List ℕ) (r : ℕ) → r < length tys → slice_get (map (λ ty. place) tys ++ rest) r ≡ Some place
get_front n place [] rest r l = absurd (omega arith)
get_front n place (ty ∷ tys) rest zero l = refl
get_front n place (ty ∷ tys) rest (suc r) l = let less : r < length tys = omega arith in get_front n place tys rest r less

get_back : (place : ℕ) (tys : List Scalar) (rest : List ℕ) (r k : ℕ) → r ≡ length tys + k → slice_get (map (λ ty. place) tys ++ rest) r ≡ slice_get rest k
get_back place [] rest r k e = ap (slice_get rest) (omega arith)
get_back place (ty ∷ tys) rest zero k e = absurd (omega arith)
get_back place (ty ∷ tys) rest (suc r) k e = let f : r ≡ length tys + k = omega arith in get_back place tys rest r k f

-- The register is a result of the block that its definer stands for.
pub record Defined (place : ℕ) (blocks : List Block) (r : ℕ) : Type 0 where
  pub at : ℕ
  pub get : slice_get (definers_from place blocks) r ≡ Some (place + at)
  pub within : at < length blocks
  pub defines : Defines blocks at r

here_or_behind : (r n : ℕ) → (r < n) ⊎ (n ≤ r)
here_or_behind r n = grind arith

defined_here : (place : ℕ) (b : Block) (bs : List Block) (r : ℕ) → r < length (block_results b) → Defined place (b ∷ bs) r
defined_here place b bs r l = record {
  at = 0;
  get = get_front 0 place (block_results b) (definers_from (suc place) bs) r l ∙ ap (λ n. Some n) (omega arith);
  within = omega arith;
  defines = (omega arith, omega (arith, l, first_zero bs, first_cons b bs 0));
}

defined_behind : (place : ℕ) (b : Block) (bs : List Block) (r k : ℕ) → r ≡ length (block_results b) + k → Defined (suc place) bs k → Defined place (b ∷ bs) r
defined_behind place b bs r k e d = record {
  at = suc d.at;
  get = get_back place (block_results b) (definers_from (suc place) bs) r k e ∙ d.get ∙ ap (λ n. Some n) (omega arith);
  within = omega (arith, d.within);
  defines = (omega (arith, e, d.defines.0, first_cons b bs d.at), omega (arith, e, d.defines.1, first_cons b bs (suc d.at)));
}

pub defined : (place : ℕ) (blocks : List Block) (r : ℕ) → r < first_result blocks (length blocks) → Defined place blocks r
defined place [] r l = absurd (omega arith)
defined place (b ∷ bs) r l = elim (here_or_behind r (length (block_results b))) [
  | inl h ↦ defined_here place b bs r h
  | inr h ↦
      let k = r - length (block_results b) in
      let e : r ≡ length (block_results b) + k = omega arith in
      let less : k < first_result bs (length bs) = omega (arith, l, e, first_cons b bs (length bs)) in
      defined_behind place b bs r k e (defined (suc place) bs k less)
]

-- Each definer is the place of a block.
pub definer_within : (place : ℕ) (blocks : List Block) (r d : ℕ) → slice_get (definers_from place blocks) r ≡ Some d → d < place + length blocks
definer_within place [] r d e = absurd (cc)
definer_within place (b ∷ bs) r d e = elim (here_or_behind r (length (block_results b))) [
  | inl h ↦
      let f : Some place ≡ Some d = sym (get_front 0 place (block_results b) (definers_from (suc place) bs) r h) ∙ e in
      let g : place ≡ d = cc in
      omega arith
  | inr h ↦
      let k = r - length (block_results b) in
      let at : r ≡ length (block_results b) + k = omega arith in
      omega (arith, definer_within (suc place) bs k d (sym (get_back place (block_results b) (definers_from (suc place) bs) r k at) ∙ e))
]

-- how many registers a body has
pub all_results : (blocks : List Block) → length (flat_map block_results blocks) ≡ first_result blocks (length blocks)
all_results [] = refl
all_results (b ∷ bs) = length-append (block_results b) (flat_map block_results bs) ∙ ap (λ n. length (block_results b) + n) (all_results bs) ∙ sym (first_cons b bs (length bs))
