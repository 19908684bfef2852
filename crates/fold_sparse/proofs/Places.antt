-- Which looks there are: each is one of the function, and each place of the function has one.
use Rattle.std.proofs.Common.{◌≡◌, ◌∙◌, ◌⊎◌, inl, inr, ℕ, zero, suc, ◌+◌, ◌<◌, List, [], ◌∷◌, ◌++◌, Option, None, Some, length, take, refl, sym, ap, subst, arith}
use Rattle.std.specs.Prelude.{slice_get, IsSome, is_some}
use Rattle.std.proofs.lemmas.Bool.{false≢true}
use Rattle.std.proofs.lemmas.Option.{none-some}
use Rattle.ir_types.specs.declared.scalar.Scalar.{Scalar}
use Rattle.ir_types.proofs.ListSteps.{slice_get-append_first, slice_get-append_rest}
use Rattle.ir_syntax.specs.declared.constant.Operand.{Operand}
use Rattle.ir_syntax.specs.declared.body.Inst.{Inst}
use Rattle.ir_syntax.specs.declared.body.Phi.{Phi}
use Rattle.ir_syntax.specs.declared.body.Block.{Block}
use Rattle.ir_syntax.specs.Results.{result_type, block_results}
use Rattle.ir_syntax.specs.Definite.{first_result, has_result}
use Rattle.fold_facts.specs.Assigned.{Assigned}
use Rattle.fold_facts.specs.OfFunction.{IsAssignmentIn}
use Rattle.fold_facts.specs.Closed.{inst_result}
use Rattle.fold_facts.proofs.Lists.{some_is, within}
use Rattle.fold_facts.proofs.Numbers.{first_zero, first_cons, first_next, types, types_next, types_some, types_none}
use Rattle.fold_facts.proofs.Visits.{blocks_long}
use Rattle.fold_sparse.specs.declared.look.Look.{Look}
use Rattle.fold_sparse.specs.declared.look.Look.TheVariants.{Entry, Value, Term}
use Rattle.fold_sparse.specs.Looks.{entry_looks, phi_looks, value_look, inst_looks, block_looks, looks_from, looks_of}
use Rattle.fold_sparse.specs.Solving.{IsPlaced}

-- ---- each is one of the function

pub record IsEntryLook (blocks : List Block) (at from k j number : ℕ) : Type 0 where
  pub block : Block
  pub phi : Phi
  pub entry : Operand × ℕ
  pub there : slice_get blocks at ≡ Some block
  pub is_phi : slice_get block.phis k ≡ Some phi
  pub is_entry : slice_get phi.entries j ≡ Some entry
  pub comes : entry.1 ≡ from
  pub numbered : number ≡ first_result blocks at + k

pub record IsValueLook (blocks : List Block) (at k number : ℕ) : Type 0 where
  pub block : Block
  pub inst : Inst
  pub there : slice_get blocks at ≡ Some block
  pub is_inst : slice_get block.insts k ≡ Some inst
  pub has : IsSome (result_type inst)
  pub numbered : number ≡ inst_result block.insts (first_result blocks at + length block.phis) k

abbrev pub IsLook : List Block → Look → Type 0
IsLook blocks (Entry at from k j number) = IsEntryLook blocks at from k j number
IsLook blocks (Value at k number) = IsValueLook blocks at k number
IsLook blocks (Term at) = (block : Block) × (slice_get blocks at ≡ Some block)

append_cases : {A : Type 0} (xs ys : List A) (l : ℕ) (x : A) → slice_get (xs ++ ys) l ≡ Some x → (slice_get xs l ≡ Some x) ⊎ ((m : ℕ) × (slice_get ys m ≡ Some x))
append_cases [] ys l x h = inr (l, h)
append_cases (y ∷ xs) ys zero x h = inl h
append_cases (y ∷ xs) ys (suc l) x h = append_cases xs ys l x h

-- the list holds what stands behind a place of the whole
abbrev pub Rest : {A : Type 0} → List A → ℕ → List A → Type 0
Rest {A} whole n xs = (k : ℕ) (x : A) → slice_get xs k ≡ Some x → slice_get whole (n + k) ≡ Some x

pub rest_first : {A : Type 0} (whole : List A) (n : ℕ) (x : A) (xs : List A) → Rest whole n (x ∷ xs) → slice_get whole n ≡ Some x
rest_first whole n x xs h = let e : n + 0 ≡ n = omega arith in subst (λ m. slice_get whole m ≡ Some x) e (h 0 x refl)

pub rest_more : {A : Type 0} (whole : List A) (n : ℕ) (x : A) (xs : List A) → Rest whole n (x ∷ xs) → Rest whole (suc n) xs
rest_more whole n x xs h = λ k y is. let e : n + suc k ≡ suc n + k = omega arith in subst (λ m. slice_get whole m ≡ Some y) e (h (suc k) y is)

pub rest_all : {A : Type 0} (whole : List A) → Rest whole 0 whole
rest_all whole k x is = let e : k ≡ 0 + k = omega arith in subst (λ m. slice_get whole m ≡ Some x) e is

entries_are : (blocks : List Block) (at k : ℕ) (block : Block) (phi : Phi) → slice_get blocks at ≡ Some block → slice_get block.phis k ≡ Some phi
    → (j : ℕ) (entries : List (Operand × ℕ)) → Rest phi.entries j entries → (l : ℕ) (look : Look) → slice_get (entry_looks at k j (first_result blocks at + k) entries) l ≡ Some look → IsLook blocks look
entries_are blocks at k block phi is isp j [] rest l look h = absurd (none-some look h)
entries_are blocks at k block phi is isp j (e ∷ es) rest zero look h = subst (IsLook blocks) (some_is h) (record {
  block = block;
  phi = phi;
  entry = e;
  there = is;
  is_phi = isp;
  is_entry = rest_first phi.entries j e es rest;
  comes = refl;
  numbered = refl;
})
entries_are blocks at k block phi is isp j (e ∷ es) rest (suc l) look h = entries_are blocks at k block phi is isp (suc j) es (rest_more phi.entries j e es rest) l look h

phis_are : (blocks : List Block) (at : ℕ) (block : Block) → slice_get blocks at ≡ Some block
    → (k number : ℕ) (phis : List Phi) → Rest block.phis k phis → number ≡ first_result blocks at + k → (l : ℕ) (look : Look) → slice_get (phi_looks at k number phis) l ≡ Some look → IsLook blocks look
phis_are blocks at block is k number [] rest num l look h = absurd (none-some look h)
phis_are blocks at block is k number (p ∷ ps) rest num l look h = elim (append_cases (entry_looks at k 0 number p.entries) (phi_looks at (suc k) (suc number) ps) l look h) [
  | inl here ↦ entries_are blocks at k block p is (rest_first block.phis k p ps rest) 0 p.entries (rest_all p.entries) l look (subst (λ n. slice_get (entry_looks at k 0 n p.entries) l ≡ Some look) num here)
  | inr more ↦ phis_are blocks at block is (suc k) (suc number) ps (rest_more block.phis k p ps rest) (omega (arith, num)) more.0 look more.1
]

value_is : (blocks : List Block) (at k number : ℕ) (block : Block) (i : Inst) → slice_get blocks at ≡ Some block → slice_get block.insts k ≡ Some i → number ≡ inst_result block.insts (first_result blocks at + length block.phis) k
    → (o : Option Scalar) → result_type i ≡ o → (l : ℕ) (look : Look) → slice_get (value_look at k number o) l ≡ Some look → IsLook blocks look
value_is blocks at k number block i is isi num None e l look h = absurd (none-some look h)
value_is blocks at k number block i is isi num (Some ty) e zero look h = subst (IsLook blocks) (some_is h) (record {
  block = block;
  inst = i;
  there = is;
  is_inst = isi;
  has = ap is_some e;
  numbered = num;
})
value_is blocks at k number block i is isi num (Some ty) e (suc l) look h = absurd (none-some look h)

next_number : (insts : List Inst) (k first number : ℕ) (i : Inst) → slice_get insts k ≡ Some i → number ≡ inst_result insts first k → number + has_result (result_type i) ≡ inst_result insts first (suc k)
next_number insts k first number i is num =
    let s : suc k ≡ k + 1 = omega arith in
    let next : length (types (take (k + 1) insts)) ≡ length (types (take k insts)) + has_result (result_type i) = types_next insts k i is in
    let same : length (types (take (suc k) insts)) ≡ length (types (take (k + 1) insts)) = ap (λ n. length (types (take n insts))) s in
    omega (arith, num, next, same)

insts_are : (blocks : List Block) (at : ℕ) (block : Block) → slice_get blocks at ≡ Some block
    → (k number : ℕ) (insts : List Inst) → Rest block.insts k insts → number ≡ inst_result block.insts (first_result blocks at + length block.phis) k
    → (l : ℕ) (look : Look) → slice_get (inst_looks at k number insts) l ≡ Some look → IsLook blocks look
insts_are blocks at block is k number [] rest num l look h = absurd (none-some look h)
insts_are blocks at block is k number (i ∷ more) rest num l look h = elim (append_cases (value_look at k number (result_type i)) (inst_looks at (suc k) (number + has_result (result_type i)) more) l look h) [
  | inl here ↦ value_is blocks at k number block i is (rest_first block.insts k i more rest) num (result_type i) refl l look here
  | inr there ↦ insts_are blocks at block is (suc k) (number + has_result (result_type i)) more (rest_more block.insts k i more rest)
      (next_number block.insts k (first_result blocks at + length block.phis) number i (rest_first block.insts k i more rest) num) there.0 look there.1
]

none_taken : (insts : List Inst) (first : ℕ) → first ≡ inst_result insts first 0
none_taken [] first = omega arith
none_taken (i ∷ more) first = omega arith

block_are : (blocks : List Block) (at first : ℕ) (block : Block) → slice_get blocks at ≡ Some block → first ≡ first_result blocks at → (l : ℕ) (look : Look) → slice_get (block_looks at first block) l ≡ Some look → IsLook blocks look
block_are blocks at first block is num l look h = elim (append_cases (phi_looks at 0 first block.phis) (inst_looks at 0 (first + length block.phis) block.insts ++ Term at ∷ []) l look h) [
  | inl phi ↦ phis_are blocks at block is 0 first block.phis (rest_all block.phis) (omega (arith, num)) l look phi
  | inr more ↦ elim (append_cases (inst_looks at 0 (first + length block.phis) block.insts) (Term at ∷ []) more.0 look more.1) [
    | inl inst ↦ insts_are blocks at block is 0 (first + length block.phis) block.insts (rest_all block.insts)
        (none_taken block.insts (first + length block.phis) ∙ ap (λ f. inst_result block.insts (f + length block.phis) 0) num) more.0 look inst
    | inr last ↦ term last.0 last.1
  ]
]
  where
    term : (m : ℕ) → slice_get (Term at ∷ []) m ≡ Some look → IsLook blocks look
    term zero e = subst (IsLook blocks) (some_is e) (block, is)
    term (suc m) e = absurd (none-some look e)

from_are : (blocks : List Block) (at first : ℕ) (bs : List Block) → Rest blocks at bs → first ≡ first_result blocks at → (l : ℕ) (look : Look) → slice_get (looks_from at first bs) l ≡ Some look → IsLook blocks look
from_are blocks at first [] rest num l look h = absurd (none-some look h)
from_are blocks at first (b ∷ bs) rest num l look h = elim (append_cases (block_looks at first b) (looks_from (suc at) (first + length (block_results b)) bs) l look h) [
  | inl here ↦ block_are blocks at first b (rest_first blocks at b bs rest) num l look here
  | inr more ↦
      let s : suc at ≡ at + 1 = omega arith in
      let next : first_result blocks (at + 1) ≡ first_result blocks at + length (block_results b) = first_next blocks at b (rest_first blocks at b bs rest) in
      let same : first_result blocks (suc at) ≡ first_result blocks (at + 1) = ap (first_result blocks) s in
      from_are blocks (suc at) (first + length (block_results b)) bs (rest_more blocks at b bs rest) (omega (arith, num, next, same)) more.0 look more.1
]

pub looks_are : (blocks : List Block) (l : ℕ) (look : Look) → slice_get (looks_of blocks) l ≡ Some look → IsLook blocks look
looks_are blocks l look h = from_are blocks 0 0 blocks (rest_all blocks) (sym (first_zero blocks)) l look h

pub placed : (blocks : List Block) (a : Assigned) (l : ℕ) (look : Look) → IsAssignmentIn blocks a → slice_get (looks_of blocks) l ≡ Some look → IsPlaced a look
placed blocks a l look fits h = by look (looks_are blocks l look h)
  where
    at_less : (at : ℕ) (block : Block) → slice_get blocks at ≡ Some block → at < length a.edges
    at_less at block is = omega (arith, within blocks at block is, blocks_long blocks a fits)

    by : (k : Look) → IsLook blocks k → IsPlaced a k
    by (Entry at from phi entry number) i = at_less at i.block i.there
    by (Value at k number) i = at_less at i.block i.there
    by (Term at) i = at_less at i.0 i.1

-- ---- each place has one

abbrev pub Stands : List Look → Look → Type 0
Stands looks look = (l : ℕ) × (slice_get looks l ≡ Some look)

left : (xs ys : List Look) (look : Look) → Stands xs look → Stands (xs ++ ys) look
left xs ys look h = (h.0, slice_get-append_first xs ys h.0 look h.1)

right : (xs ys : List Look) (look : Look) → Stands ys look → Stands (xs ++ ys) look
right xs ys look h = (h.0 + length xs, slice_get-append_rest xs ys h.0 (h.0 + length xs) refl ∙ h.1)

pub entry_stands : (at k j number : ℕ) (entries : List (Operand × ℕ)) (n : ℕ) (entry : Operand × ℕ) → slice_get entries n ≡ Some entry → Stands (entry_looks at k j number entries) (Entry at entry.1 k (j + n) number)
entry_stands at k j number [] n entry h = absurd (none-some entry h)
entry_stands at k j number (e ∷ es) zero entry h =
    let z : j ≡ j + 0 = omega arith in
    (0, ap (λ d. Some (Entry at d.1 k j number)) (some_is h) ∙ ap (λ m. Some (Entry at entry.1 k m number)) z)
entry_stands at k j number (e ∷ es) (suc n) entry h =
    let found = entry_stands at k (suc j) number es n entry h in
    let s : suc j + n ≡ j + suc n = omega arith in
    (suc found.0, found.1 ∙ ap (λ m. Some (Entry at entry.1 k m number)) s)

phi_stands : (at k number : ℕ) (phis : List Phi) (n j : ℕ) (phi : Phi) (entry : Operand × ℕ) → slice_get phis n ≡ Some phi → slice_get phi.entries j ≡ Some entry → Stands (phi_looks at k number phis) (Entry at entry.1 (k + n) j (number + n))
phi_stands at k number [] n j phi entry h g = absurd (none-some phi h)
phi_stands at k number (p ∷ ps) zero j phi entry h g =
    let z : k ≡ k + 0 = omega arith in
    let m : number ≡ number + 0 = omega arith in
    let at_j : 0 + j ≡ j = omega arith in
    left (entry_looks at k 0 number p.entries) (phi_looks at (suc k) (suc number) ps) (Entry at entry.1 (k + 0) j (number + 0))
    (subst (λ x. Stands (entry_looks at k 0 number p.entries) (Entry at entry.1 x j (number + 0))) z (subst (λ x. Stands (entry_looks at k 0 number p.entries) (Entry at entry.1 k j x)) m
    (subst (λ x. Stands (entry_looks at k 0 number p.entries) (Entry at entry.1 k x number)) at_j (entry_stands at k 0 number p.entries j entry (subst (λ q. slice_get q.entries j ≡ Some entry) (sym (some_is h)) g)))))
phi_stands at k number (p ∷ ps) (suc n) j phi entry h g =
    let s : suc k + n ≡ k + suc n = omega arith in
    let m : suc number + n ≡ number + suc n = omega arith in
    right (entry_looks at k 0 number p.entries) (phi_looks at (suc k) (suc number) ps) (Entry at entry.1 (k + suc n) j (number + suc n))
    (subst (λ x. Stands (phi_looks at (suc k) (suc number) ps) (Entry at entry.1 x j (number + suc n))) s (subst (λ x. Stands (phi_looks at (suc k) (suc number) ps) (Entry at entry.1 (suc k + n) j x)) m
    (phi_stands at (suc k) (suc number) ps n j phi entry h g)))

value_stands : (at k number : ℕ) (o : Option Scalar) → IsSome o → Stands (value_look at k number o) (Value at k number)
value_stands at k number None h = absurd (false≢true h)
value_stands at k number (Some ty) h = (0, refl)

number_cons : (i : Inst) (more : List Inst) (number n : ℕ) → inst_result more (number + has_result (result_type i)) n ≡ inst_result (i ∷ more) number (suc n)
number_cons i more number n = by (result_type i) refl
  where
    by : (o : Option Scalar) → result_type i ≡ o → (number + has_result (result_type i)) + length (types (take n more)) ≡ number + length (types (i ∷ take n more))
    by None e =
        let l : length (types (i ∷ take n more)) ≡ length (types (take n more)) = ap length (types_none i (take n more) e) in
        let r : has_result (result_type i) ≡ 0 = ap has_result e in
        omega arith
    by (Some t) e =
        let l : length (types (i ∷ take n more)) ≡ suc (length (types (take n more))) = ap length (types_some i t (take n more) e) in
        let r : has_result (result_type i) ≡ 1 = ap has_result e in
        omega arith

inst_stands : (at k number : ℕ) (insts : List Inst) (n : ℕ) (i : Inst) → slice_get insts n ≡ Some i → IsSome (result_type i) → Stands (inst_looks at k number insts) (Value at (k + n) (inst_result insts number n))
inst_stands at k number [] n i h some = absurd (none-some i h)
inst_stands at k number (x ∷ xs) zero i h some =
    let z : k ≡ k + 0 = omega arith in
    left (value_look at k number (result_type x)) (inst_looks at (suc k) (number + has_result (result_type x)) xs) (Value at (k + 0) (inst_result (x ∷ xs) number 0))
    (subst (λ m. Stands (value_look at k number (result_type x)) (Value at m (inst_result (x ∷ xs) number 0))) z
    (subst (λ m. Stands (value_look at k number (result_type x)) (Value at k m)) (none_taken (x ∷ xs) number) (value_stands at k number (result_type x) (subst (λ y. IsSome (result_type y)) (sym (some_is h)) some))))
inst_stands at k number (x ∷ xs) (suc n) i h some =
    let s : suc k + n ≡ k + suc n = omega arith in
    right (value_look at k number (result_type x)) (inst_looks at (suc k) (number + has_result (result_type x)) xs) (Value at (k + suc n) (inst_result (x ∷ xs) number (suc n)))
    (subst (λ m. Stands (inst_looks at (suc k) (number + has_result (result_type x)) xs) (Value at m (inst_result (x ∷ xs) number (suc n)))) s
    (subst (λ m. Stands (inst_looks at (suc k) (number + has_result (result_type x)) xs) (Value at (suc k + n) m)) (number_cons x xs number n)
    (inst_stands at (suc k) (number + has_result (result_type x)) xs n i h some)))

from_stands : (at first : ℕ) (bs : List Block) (n : ℕ) (block : Block) (look : Look) → slice_get bs n ≡ Some block → Stands (block_looks (at + n) (first + first_result bs n) block) look → Stands (looks_from at first bs) look
from_stands at first [] n block look h g = absurd (none-some block h)
from_stands at first (b ∷ bs) zero block look h g =
    let z : at + 0 ≡ at = omega arith in
    let f : first + first_result (b ∷ bs) 0 ≡ first = omega (arith, first_zero (b ∷ bs)) in
    left (block_looks at first b) (looks_from (suc at) (first + length (block_results b)) bs) look
    (subst (λ c. Stands (block_looks at first c) look) (sym (some_is h)) (subst (λ m. Stands (block_looks at m block) look) f (subst (λ m. Stands (block_looks m (first + first_result (b ∷ bs) 0) block) look) z g)))
from_stands at first (b ∷ bs) (suc n) block look h g =
    let s : at + suc n ≡ suc at + n = omega arith in
    let f : first + first_result (b ∷ bs) (suc n) ≡ (first + length (block_results b)) + first_result bs n = omega (arith, first_cons b bs n) in
    right (block_looks at first b) (looks_from (suc at) (first + length (block_results b)) bs) look
    (from_stands (suc at) (first + length (block_results b)) bs n block look h
    (subst (λ m. Stands (block_looks (suc at + n) m block) look) f (subst (λ m. Stands (block_looks m (first + first_result (b ∷ bs) (suc n)) block) look) s g)))

in_block : (blocks : List Block) (at : ℕ) (block : Block) (look : Look) → slice_get blocks at ≡ Some block → Stands (block_looks at (first_result blocks at) block) look → Stands (looks_of blocks) look
in_block blocks at block look is h =
    let z : at ≡ 0 + at = omega arith in
    let f : first_result blocks at ≡ 0 + first_result blocks at = omega arith in
    from_stands 0 0 blocks at block look is (subst (λ m. Stands (block_looks m (0 + first_result blocks at) block) look) z (subst (λ m. Stands (block_looks at m block) look) f h))

pub has_entry : (blocks : List Block) (at k j : ℕ) (block : Block) (phi : Phi) (entry : Operand × ℕ) → slice_get blocks at ≡ Some block → slice_get block.phis k ≡ Some phi → slice_get phi.entries j ≡ Some entry
    → Stands (looks_of blocks) (Entry at entry.1 k j (first_result blocks at + k))
has_entry blocks at k j block phi entry is isp ise =
    let z : 0 + k ≡ k = omega arith in
    let look = Entry at entry.1 k j (first_result blocks at + k) in
    in_block blocks at block look is (left (phi_looks at 0 (first_result blocks at) block.phis) (inst_looks at 0 (first_result blocks at + length block.phis) block.insts ++ Term at ∷ []) look
    (subst (λ m. Stands (phi_looks at 0 (first_result blocks at) block.phis) (Entry at entry.1 m j (first_result blocks at + k))) z (phi_stands at 0 (first_result blocks at) block.phis k j phi entry isp ise)))

pub has_value : (blocks : List Block) (at k : ℕ) (block : Block) (i : Inst) → slice_get blocks at ≡ Some block → slice_get block.insts k ≡ Some i → IsSome (result_type i)
    → Stands (looks_of blocks) (Value at k (inst_result block.insts (first_result blocks at + length block.phis) k))
has_value blocks at k block i is isi some =
    let z : 0 + k ≡ k = omega arith in
    let first = first_result blocks at + length block.phis in
    let look = Value at k (inst_result block.insts first k) in
    in_block blocks at block look is (right (phi_looks at 0 (first_result blocks at) block.phis) (inst_looks at 0 first block.insts ++ Term at ∷ []) look
    (left (inst_looks at 0 first block.insts) (Term at ∷ []) look
    (subst (λ m. Stands (inst_looks at 0 first block.insts) (Value at m (inst_result block.insts first k))) z (inst_stands at 0 first block.insts k i isi some))))

pub has_term : (blocks : List Block) (at : ℕ) (block : Block) → slice_get blocks at ≡ Some block → Stands (looks_of blocks) (Term at)
has_term blocks at block is =
    let first = first_result blocks at + length block.phis in
    in_block blocks at block (Term at) is (right (phi_looks at 0 (first_result blocks at) block.phis) (inst_looks at 0 first block.insts ++ Term at ∷ []) (Term at)
    (right (inst_looks at 0 first block.insts) (Term at ∷ []) (Term at) (0, refl)))
