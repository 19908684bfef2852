-- The uses of a body are surely defined just where its far uses are passed.
use Rattle.std.proofs.Common.{◌≡◌, ◌∙◌, ℕ, suc, ◌+◌, ◌<◌, ◌≤◌, inl, inr, Bool, true, false, cond, ◌&&◌, eqb, nat_lt, List, [], ◌∷◌, ◌++◌, length, map, All, Contains, zero-add, Option, None, Some, slice_get, refl, sym, ap, subst, arith}
use Rattle.std.proofs.lemmas.Bool.Decides.{nat_tests}
use Rattle.std.proofs.lemmas.List.Elements.{All-nil, All-cons, All-head, All-tail, All-append}
use Rattle.std.proofs.lemmas.List.{length-append, length-map}
use Rattle.std.specs.List.{flat_map, filter_map, cons_option}
use Rattle.ir_types.specs.declared.scalar.Scalar.{Scalar}
use Rattle.ir_syntax.specs.declared.constant.Operand.{Operand}
use Rattle.ir_syntax.specs.declared.constant.Operand.TheVariants as operand
use Rattle.ir_syntax.specs.declared.body.Inst.{Inst}
use Rattle.ir_syntax.specs.declared.body.Term.{Term}
use Rattle.ir_syntax.specs.declared.body.Phi.{Phi}
use Rattle.ir_syntax.specs.declared.body.Block.{Block}
use Rattle.ir_syntax.specs.Results.{result_type, block_results}
use Rattle.ir_syntax.specs.Definite.{Use, Defines, IsSurelyDefined, first_result, has_result, operands, term_operands, operand_uses, phi_uses, insts_uses, block_uses, uses_from, uses}
use Rattle.ir_paths.specs.declared.far.Far.{Far}
use Rattle.ir_paths.specs.Bypass.{IsPassed}
use Rattle.ir_paths.specs.FarUses.{definers_from, far_of, far_use, operand_far, end_far, entry_far, phi_far, insts_far, block_far, far_from, far_uses}
use Rattle.ir_paths.proofs.Defining.{defined, one_definer, first_cons, first_zero}

-- ---- lists of uses

pub record Mirrors (blocks : List Block) (us : List Use) (far : List Far) : Type 0 where
  pub passed : All (IsSurelyDefined blocks) us → All (IsPassed blocks) far
  pub defined : All (IsPassed blocks) far → All (IsSurelyDefined blocks) us

mirrors_none : (blocks : List Block) → Mirrors blocks [] []
mirrors_none blocks = record { passed = λ h. All-nil (IsPassed blocks); defined = λ h. All-nil (IsSurelyDefined blocks) }

pub front : {A : Type 0} (P : A → Type 0) (xs ys : List A) → All P (xs ++ ys) → All P xs
front P [] ys h = All-nil P
front P (x ∷ xs) ys h = All-cons P x xs (All-head P x (xs ++ ys) h) (front P xs ys (All-tail P x (xs ++ ys) h))

pub back : {A : Type 0} (P : A → Type 0) (xs ys : List A) → All P (xs ++ ys) → All P ys
back P [] ys h = h
back P (x ∷ xs) ys h = back P xs ys (All-tail P x (xs ++ ys) h)

mirrors_both : (blocks : List Block) (us vs : List Use) (far more : List Far) → Mirrors blocks us far → Mirrors blocks vs more → Mirrors blocks (us ++ vs) (far ++ more)
mirrors_both blocks us vs far more a b = record {
  passed = λ h. All-append (IsPassed blocks) far more (a.passed (front (IsSurelyDefined blocks) us vs h)) (b.passed (back (IsSurelyDefined blocks) us vs h));
  defined = λ h. All-append (IsSurelyDefined blocks) us vs (a.defined (front (IsPassed blocks) far more h)) (b.defined (back (IsPassed blocks) far more h));
}

mirrors_each : {X : Type 0} (blocks : List Block) (Ok : X → Type 0) (f : X → List Use) (g : X → List Far) → ((x : X) → Ok x → Mirrors blocks (f x) (g x)) → (xs : List X) → All Ok xs → Mirrors blocks (flat_map f xs) (flat_map g xs)
mirrors_each blocks Ok f g each [] ok = mirrors_none blocks
mirrors_each blocks Ok f g each (x ∷ xs) ok =
    mirrors_both blocks (f x) (flat_map f xs) (g x) (flat_map g xs) (each x (All-head Ok x xs ok)) (mirrors_each blocks Ok f g each xs (All-tail Ok x xs ok))

-- ---- one use

-- What settles a use: it comes before where its own block defines the register, and its `until` says just that.
pub record Settles (blocks : List Block) (place until register : ℕ) (before : Bool) : Type 0 where
  pub to : before ≡ true → Defines blocks place register → register < until
  pub of : first_result blocks place ≤ register → register < until → (before ≡ true) × Defines blocks place register

both_true : (a b : Bool) → (a && b) ≡ true → (a ≡ true) × (b ≡ true)
both_true true b e = (refl, e)
both_true false b e = absurd (cc)

both_of : (a b : Bool) → a ≡ true → b ≡ true → (a && b) ≡ true
both_of a b e f = cc

eqb_same : (m n : ℕ) → m ≡ n → eqb m n ≡ true
eqb_same m n e = grind (arith, nat_tests)

same_eqb : (m n : ℕ) → eqb m n ≡ true → m ≡ n
same_eqb m n e = grind (arith, nat_tests)

at_definer : (blocks : List Block) (definer place until register : ℕ) (before t : Bool) → Defines blocks definer register → Settles blocks place until register before → (before && eqb definer place) ≡ t
    → Mirrors blocks (record { register = register; place = place; until = until } ∷ []) (cond t [] (record { definer = definer; place = place } ∷ []))
at_definer blocks definer place until register before true defines s e =
    let both = both_true before (eqb definer place) e in
    let here : Defines blocks place register = subst (λ d. Defines blocks d register) (same_eqb definer place both.1) defines in
    record {
      passed = λ h. All-nil (IsPassed blocks);
      defined = λ h. All-cons (IsSurelyDefined blocks) (record { register = register; place = place; until = until }) [] (λ visited path. inr (here.0, s.to both.0 here)) (All-nil (IsSurelyDefined blocks));
    }
at_definer blocks definer place until register before false defines s e = record {
  passed = λ h.
      let sure = All-head (IsSurelyDefined blocks) (record { register = register; place = place; until = until }) [] h in
      All-cons (IsPassed blocks) (record { definer = definer; place = place }) [] (λ visited path. elim (sure visited path) [
        | inl (at, c, there) ↦ subst (λ (d : ℕ). Contains visited d) (one_definer blocks at definer register there defines) c
        | inr (l, m) ↦
            let here = s.of l m in
            let same = one_definer blocks definer place register defines here.1 in
            absurd (let clash : false ≡ true = sym e ∙ both_of before (eqb definer place) here.0 (eqb_same definer place same) in cc)
      ]) (All-nil (IsPassed blocks));
  defined = λ h.
      let passed = All-head (IsPassed blocks) (record { definer = definer; place = place }) [] h in
      All-cons (IsSurelyDefined blocks) (record { register = register; place = place; until = until }) [] (λ visited path. inl (definer, passed visited path, defines)) (All-nil (IsSurelyDefined blocks));
}

use_far : (blocks : List Block) (place until register : ℕ) (before : Bool) → register < first_result blocks (length blocks) → Settles blocks place until register before
    → Mirrors blocks (record { register = register; place = place; until = until } ∷ []) (far_use (definers_from 0 blocks) place before register)
use_far blocks place until register before there s =
    let d = defined 0 blocks register there in
    let at : slice_get (definers_from 0 blocks) register ≡ Some d.at = d.get ∙ ap (λ n. Some n) (omega arith) in
    subst (λ (o : Option ℕ). Mirrors blocks (record { register = register; place = place; until = until } ∷ []) (far_of place before o)) (sym at)
    (at_definer blocks d.at place until register before (before && eqb d.at place) d.defines s refl)

-- ---- operands

-- A register is one of so many.
abbrev pub IsRegister : ℕ → Operand → Type 0
IsRegister total (operand.Param k) = Unit {0}
IsRegister total (operand.Reg k) = k < total
IsRegister total (operand.Const constant) = Unit {0}

settles_in : (blocks : List Block) (place until register : ℕ) → until ≤ first_result blocks (suc place) → Settles blocks place until register (nat_lt register until)
settles_in blocks place until register fits = record {
  to = λ e d. grind (arith, nat_tests, e);
  of = λ l m. (grind (arith, nat_tests, m), (l, omega (arith, m, fits)));
}

settles_at_end : (blocks : List Block) (place register : ℕ) → Settles blocks place (first_result blocks (suc place)) register true
settles_at_end blocks place register = record { to = λ e d. d.1; of = λ l m. (refl, (l, m)) }

operand_mirrors : (blocks : List Block) (place until : ℕ) → until ≤ first_result blocks (suc place) → (o : Operand) → IsRegister (first_result blocks (length blocks)) o
    → Mirrors blocks (operand_uses place until o) (operand_far (definers_from 0 blocks) place until o)
operand_mirrors blocks place until fits (operand.Param k) ok = mirrors_none blocks
operand_mirrors blocks place until fits (operand.Reg k) ok = use_far blocks place until k (nat_lt k until) ok (settles_in blocks place until k fits)
operand_mirrors blocks place until fits (operand.Const constant) ok = mirrors_none blocks

end_mirrors : (blocks : List Block) (place : ℕ) → (o : Operand) → IsRegister (first_result blocks (length blocks)) o
    → Mirrors blocks (operand_uses place (first_result blocks (suc place)) o) (end_far (definers_from 0 blocks) place o)
end_mirrors blocks place (operand.Param k) ok = mirrors_none blocks
end_mirrors blocks place (operand.Reg k) ok = use_far blocks place (first_result blocks (suc place)) k true ok (settles_at_end blocks place k)
end_mirrors blocks place (operand.Const constant) ok = mirrors_none blocks

abbrev pub IsEntry : ℕ → ℕ → Operand × ℕ → Type 0
IsEntry total count entry = IsRegister total entry.0 × (entry.1 < count)

entry_mirrors : (blocks : List Block) (entry : Operand × ℕ) → IsEntry (first_result blocks (length blocks)) (length blocks) entry
    → Mirrors blocks (operand_uses entry.1 (first_result blocks (suc entry.1)) entry.0) (entry_far (definers_from 0 blocks) (length blocks) entry)
entry_mirrors blocks entry ok =
    let there : nat_lt entry.1 (length blocks) ≡ true = grind (arith, nat_tests, ok.1) in
    subst (λ t. Mirrors blocks (operand_uses entry.1 (first_result blocks (suc entry.1)) entry.0) (cond t (end_far (definers_from 0 blocks) entry.1 entry.0) [])) (sym there)
    (end_mirrors blocks entry.1 entry.0 ok.0)

abbrev pub IsPhi : ℕ → ℕ → Phi → Type 0
IsPhi total count phi = All (IsEntry total count) phi.entries

phi_mirrors : (blocks : List Block) (phi : Phi) → IsPhi (first_result blocks (length blocks)) (length blocks) phi → Mirrors blocks (phi_uses blocks phi) (phi_far (definers_from 0 blocks) (length blocks) phi)
phi_mirrors blocks phi ok =
    mirrors_each blocks (IsEntry (first_result blocks (length blocks)) (length blocks)) (λ entry. operand_uses entry.1 (first_result blocks (suc entry.1)) entry.0) (entry_far (definers_from 0 blocks) (length blocks))
    (λ entry here. entry_mirrors blocks entry here) phi.entries ok

operands_mirror : (blocks : List Block) (place until : ℕ) → until ≤ first_result blocks (suc place) → (os : List Operand) → All (IsRegister (first_result blocks (length blocks))) os
    → Mirrors blocks (flat_map (operand_uses place until) os) (flat_map (operand_far (definers_from 0 blocks) place until) os)
operands_mirror blocks place until fits os ok =
    mirrors_each blocks (IsRegister (first_result blocks (length blocks))) (operand_uses place until) (operand_far (definers_from 0 blocks) place until) (λ o here. operand_mirrors blocks place until fits o here) os ok

-- ---- instructions

abbrev pub IsInst : ℕ → Inst → Type 0
IsInst total i = All (IsRegister total) (operands i)

counted : (o : Option Scalar) (tys : List Scalar) → length (cons_option o tys) ≡ has_result o + length tys
counted None tys = omega arith
counted (Some ty) tys = omega arith

pub types_cons : (i : Inst) (is : List Inst) → length (filter_map result_type (i ∷ is)) ≡ has_result (result_type i) + length (filter_map result_type is)
types_cons i is = counted (result_type i) (filter_map result_type is)

insts_mirror : (blocks : List Block) (place until : ℕ) (insts : List Inst) (term : Term) → until + length (filter_map result_type insts) ≤ first_result blocks (suc place)
    → All (IsInst (first_result blocks (length blocks))) insts → All (IsRegister (first_result blocks (length blocks))) (term_operands term)
    → Mirrors blocks (insts_uses place until insts term) (insts_far (definers_from 0 blocks) place until insts term)
insts_mirror blocks place until [] term fits ok end = operands_mirror blocks place until (omega (arith, fits)) (term_operands term) end
insts_mirror blocks place until (i ∷ is) term fits ok end =
    let total = first_result blocks (length blocks) in
    mirrors_both blocks (flat_map (operand_uses place until) (operands i)) (insts_uses place (until + has_result (result_type i)) is term)
    (flat_map (operand_far (definers_from 0 blocks) place until) (operands i)) (insts_far (definers_from 0 blocks) place (until + has_result (result_type i)) is term)
    (operands_mirror blocks place until (omega (arith, fits)) (operands i) (All-head (IsInst total) i is ok))
    (insts_mirror blocks place (until + has_result (result_type i)) is term (omega (arith, fits, types_cons i is)) (All-tail (IsInst total) i is ok) end)

-- ---- blocks

-- What a block names is there.
pub record IsBlock (total count : ℕ) (block : Block) : Type 0 where
  pub phis : All (IsPhi total count) block.phis
  pub insts : All (IsInst total) block.insts
  pub term : All (IsRegister total) (term_operands block.term)

results_of_block : (block : Block) → length (block_results block) ≡ length block.phis + length (filter_map result_type block.insts)
results_of_block block = length-append (map (λ phi. phi.ty) block.phis) (filter_map result_type block.insts) ∙ ap (λ n. n + length (filter_map result_type block.insts)) (length-map block.phis (λ phi. phi.ty))

block_mirrors : (blocks : List Block) (place : ℕ) (block : Block) → first_result blocks place + length (block_results block) ≤ first_result blocks (suc place) → IsBlock (first_result blocks (length blocks)) (length blocks) block
    → Mirrors blocks (block_uses blocks place block) (block_far (definers_from 0 blocks) (length blocks) place (first_result blocks place) block)
block_mirrors blocks place block fits ok =
    let total = first_result blocks (length blocks) in
    let until = first_result blocks place + length block.phis in
    mirrors_both blocks (flat_map (phi_uses blocks) block.phis) (insts_uses place until block.insts block.term)
    (flat_map (phi_far (definers_from 0 blocks) (length blocks)) block.phis) (insts_far (definers_from 0 blocks) place until block.insts block.term)
    (mirrors_each blocks (IsPhi total (length blocks)) (phi_uses blocks) (phi_far (definers_from 0 blocks) (length blocks)) (λ phi here. phi_mirrors blocks phi here) block.phis ok.phis)
    (insts_mirror blocks place until block.insts block.term (omega (arith, fits, results_of_block block)) ok.insts ok.term)

-- the blocks from a place on
uses_mirror : (blocks : List Block) (place first : ℕ) (rest : List Block) → ((k : ℕ) → first + first_result rest k ≡ first_result blocks (place + k)) → All (IsBlock (first_result blocks (length blocks)) (length blocks)) rest
    → Mirrors blocks (uses_from blocks place rest) (far_from (definers_from 0 blocks) (length blocks) place first rest)
uses_mirror blocks place first [] at ok = mirrors_none blocks
uses_mirror blocks place first (b ∷ more) at ok =
    let here : first ≡ first_result blocks place = start_is (first) (first_result (b ∷ more) 0) (first_zero (b ∷ more)) (at 0 ∙ ap (λ k. first_result blocks k) (plus_none place)) in
    let next : first + length (block_results b) ≡ first_result blocks (suc place) =
    one_on first (length (block_results b)) (first_result (b ∷ more) 1) (first_result more 0) (first_cons b more 0) (first_zero more) (at 1 ∙ ap (λ k. first_result blocks k) (plus_some place 0 ∙ ap (λ n. suc n) (plus_none place))) in
    let onwards : (k : ℕ) → (first + length (block_results b)) + first_result more k ≡ first_result blocks (suc place + k) =
    λ k. more_on first (length (block_results b)) (first_result more k) (first_result (b ∷ more) (suc k)) (first_cons b more k) (at (suc k) ∙ ap (λ j. first_result blocks j) (plus_some place k ∙ plus_later place k)) in
    mirrors_both blocks (block_uses blocks place b) (uses_from blocks (suc place) more)
    (block_far (definers_from 0 blocks) (length blocks) place first b) (far_from (definers_from 0 blocks) (length blocks) (suc place) (first + length (block_results b)) more)
    (subst (λ (n : ℕ). Mirrors blocks (block_uses blocks place b) (block_far (definers_from 0 blocks) (length blocks) place n b)) (sym here)
    (block_mirrors blocks place b (omega (arith, here, next)) (All-head (IsBlock (first_result blocks (length blocks)) (length blocks)) b more ok)))
    (uses_mirror blocks (suc place) (first + length (block_results b)) more onwards (All-tail (IsBlock (first_result blocks (length blocks)) (length blocks)) b more ok))
  where
    plus_none : (m : ℕ) → m + 0 ≡ m
    plus_none m = omega arith

    plus_some : (m n : ℕ) → m + suc n ≡ suc (m + n)
    plus_some m n = omega arith

    plus_later : (m n : ℕ) → suc (m + n) ≡ suc m + n
    plus_later m n = omega arith

    start_is : {n : ℕ} (first none_at : ℕ) → none_at ≡ 0 → first + none_at ≡ n → first ≡ n
    start_is first none_at e f = omega arith

    one_on : {n : ℕ} (first len after none : ℕ) → after ≡ len + none → none ≡ 0 → first + after ≡ n → first + len ≡ n
    one_on first len after none e f g = omega arith

    more_on : {n : ℕ} (first len rest after : ℕ) → after ≡ len + rest → first + after ≡ n → (first + len) + rest ≡ n
    more_on first len rest after e f = omega arith

pub body_mirrors : (blocks : List Block) → All (IsBlock (first_result blocks (length blocks)) (length blocks)) blocks → Mirrors blocks (uses blocks) (far_uses blocks)
body_mirrors blocks ok = uses_mirror blocks 0 0 blocks (λ k. ap (λ n. n) (same blocks k)) ok
  where
    same : (blocks : List Block) (k : ℕ) → 0 + first_result blocks k ≡ first_result blocks (0 + k)
    same blocks k = omega (arith, ap (λ j. first_result blocks j) (zero-add k))
