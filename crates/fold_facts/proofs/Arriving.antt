-- No result of a block that a path of reached edges leads to is Unreached.
use Rattle.std.proofs.Common.{◌≡◌, ◌∙◌, ◌⊎◌, inl, inr, ℕ, zero, suc, ◌+◌, ◌-◌, ◌<◌, ◌≤◌, Bool, true, false, cond, List, [], ◌∷◌, Option, None, Some, All, Contains, length, take, refl, sym, ap, subst, arith}
use Rattle.std.specs.Prelude.{slice_get, IsSome, flat_map, count_by}
use Rattle.std.proofs.lemmas.Option.{none-some, slice_get-get_or}
use Rattle.std.proofs.lemmas.List.Sums.{sum_by-cons}
use Rattle.std.proofs.lemmas.List.Elements.{All-contains, Contains-append_left, Contains-append_right, Contains-append_cases, Contains-push_cases}
use Rattle.ir_types.specs.declared.scalar.Scalar.{Scalar}
use Rattle.ir_syntax.specs.declared.constant.Operand.{Operand}
use Rattle.ir_syntax.specs.declared.constant.Operand.TheVariants as operand
use Rattle.ir_syntax.specs.declared.body.Inst.{Inst}
use Rattle.ir_syntax.specs.declared.body.Phi.{Phi}
use Rattle.ir_syntax.specs.declared.body.Term.{Term}
use Rattle.ir_syntax.specs.declared.body.Block.{Block}
use Rattle.ir_syntax.specs.Edges.{Leads}
use Rattle.ir_syntax.specs.Operands.{operands}
use Rattle.ir_syntax.specs.Results.{result_type, block_results}
use Rattle.ir_syntax.specs.Definite.{first_result, has_result, Defines, Use, operand_uses, phi_uses, insts_uses, block_uses, uses_from, uses, IsPath, IsSurelyDefined}
use Rattle.fold_facts.specs.declared.fact.Fact.TheVariants.{Unreached}
use Rattle.fold_facts.specs.Assigned.{Assigned, fact_of, enters, is_reached, IsReachedEdge}
use Rattle.fold_facts.specs.Operands.{Setting, operand_fact}
use Rattle.fold_facts.specs.Instructions.{inst_fact}
use Rattle.fold_facts.specs.Phis.{entry_fact, phi_fact}
use Rattle.fold_facts.specs.Closed.{inst_result, IsClosed}
use Rattle.fold_facts.proofs.Lists.{some_is, is_or_not, there}
use Rattle.fold_facts.proofs.Numbers.{first_cons, first_next, types, types_some, types_none, phis_first}
use Rattle.fold_facts.proofs.Reaching.{enter, first_reached, reached_when}
use Rattle.fold_facts.proofs.Paths.{IsReachedPath}
use Rattle.fold_facts.proofs.Valued.{IsValued, valued_above, valued_join, operand_valued, inst_valued}

-- ---- lists

none_in : {A : Type 0} (x : A) → Contains [] x → ⊥
none_in x h = omega (arith, h.1)

here_in : {A : Type 0} (x : A) (xs : List A) → Contains (x ∷ xs) x
here_in x xs = (0, omega arith, refl)

there_in : {A : Type 0} (y x : A) (xs : List A) → Contains xs x → Contains (y ∷ xs) x
there_in y x xs h = (suc h.0, omega (arith, h.1), h.2)

cases_in : {A : Type 0} (y x : A) (xs : List A) → Contains (y ∷ xs) x → (y ≡ x) ⊎ Contains xs x
cases_in y x xs h = elim (Contains-append_cases (y ∷ []) xs x h) [
  | inl one ↦ elim (Contains-push_cases [] y x one) [ inl none ↦ absurd (none_in x none) | inr e ↦ inl e ]
  | inr more ↦ inr more
]

pub place_in : {A : Type 0} (xs : List A) (x : A) → Contains xs x → (k : ℕ) × (slice_get xs k ≡ Some x)
place_in xs x c = (c.0, slice_get-get_or xs c.0 x c.1 ∙ ap (λ y. Some y) c.2)

pub in_place : {A : Type 0} (xs : List A) (k : ℕ) (x : A) → slice_get xs k ≡ Some x → Contains xs x
in_place [] k x h = absurd (none-some x h)
in_place (y ∷ ys) zero x h = subst (λ z. Contains (z ∷ ys) x) (sym (some_is h)) (here_in x ys)
in_place (y ∷ ys) (suc k) x h = there_in y x ys (in_place ys k x h)

flat_in : {A B : Type 0} (f : A → List B) (xs : List A) (k : ℕ) (x : A) (y : B) → slice_get xs k ≡ Some x → Contains (f x) y → Contains (flat_map f xs) y
flat_in f [] k x y is c = absurd (none-some x is)
flat_in f (z ∷ zs) zero x y is c = Contains-append_left (f z) (flat_map f zs) y (subst (λ w. Contains (f w) y) (sym (some_is is)) c)
flat_in f (z ∷ zs) (suc k) x y is c = Contains-append_right (f z) (flat_map f zs) y (flat_in f zs k x y is c)

less_or : (m n : ℕ) → (m < n) ⊎ (n ≤ m)
less_or m n = grind arith

abbrev one_if : Bool → ℕ
one_if b = cond b 1 0

count_cons : {A : Type 0} (p : A → Bool) (x : A) (xs : List A) → count_by p (x ∷ xs) ≡ one_if (p x) + count_by p xs
count_cons p x xs = sum_by-cons (λ y. one_if (p y)) x xs

pub counted : {A : Type 0} (p : A → Bool) (xs : List A) (k : ℕ) (x : A) → slice_get xs k ≡ Some x → p x ≡ true → 0 < count_by p xs
counted p [] k x is passes = absurd (none-some x is)
counted p (y ∷ ys) zero x is passes =
    let one : one_if (p y) ≡ 1 = ap one_if (ap p (some_is is) ∙ passes) in
    omega (arith, count_cons p y ys, one)
counted p (y ∷ ys) (suc k) x is passes = omega (arith, count_cons p y ys, counted p ys k x is passes)

pub counts : {A : Type 0} (p : A → Bool) (xs : List A) → 0 < count_by p xs → (k : ℕ) × (x : A) × (slice_get xs k ≡ Some x) × (p x ≡ true)
counts p [] h = absurd (omega arith)
counts {A} p (y ∷ ys) h = by (p y) refl (λ some. counts p ys some)
  where
    by : (b : Bool) → p y ≡ b → (0 < count_by p ys → (k : ℕ) × (x : A) × (slice_get ys k ≡ Some x) × (p x ≡ true)) → (k : ℕ) × (x : A) × (slice_get (y ∷ ys) k ≡ Some x) × (p x ≡ true)
    by true e rest = (0, y, refl, e)
    by false e rest =
        let none : one_if (p y) ≡ 0 = ap one_if e in
        let more = rest (omega (arith, h, count_cons p y ys, none)) in
        (suc more.0, more.1, more.2, more.3)

-- ---- where a use stands

types_cons : (x : Inst) (rest : List Inst) → length (types (x ∷ rest)) ≡ has_result (result_type x) + length (types rest)
types_cons x rest = by (result_type x) refl
  where
    by : (o : Option Scalar) → result_type x ≡ o → length (types (x ∷ rest)) ≡ has_result o + length (types rest)
    by None e = ap length (types_none x rest e) ∙ zero_more (length (types rest))
      where
        zero_more : (n : ℕ) → n ≡ 0 + n
        zero_more n = omega arith
    by (Some ty) e = ap length (types_some x ty rest e) ∙ one_more (length (types rest))
      where
        one_more : (n : ℕ) → suc n ≡ 1 + n
        one_more n = omega arith

inst_use : (place until : ℕ) (insts : List Inst) (term : Term) (k : ℕ) (i : Inst) (r limit : ℕ) → slice_get insts k ≡ Some i → Contains (operands i) (operand.Reg r) → until + length (types (take k insts)) ≡ limit
    → Contains (insts_uses place until insts term) (record { register = r; place = place; until = limit })
inst_use place until [] term k i r limit is c e = absurd (none-some i is)
inst_use place until (x ∷ xs) term zero i r limit is c e =
    let at = place_in (operands x) (operand.Reg r) (subst (λ y. Contains (operands y) (operand.Reg r)) (sym (some_is is)) c) in
    let same : until ≡ limit = omega (arith, e) in
    Contains-append_left (flat_map (operand_uses place until) (operands x)) (insts_uses place (until + has_result (result_type x)) xs term) (record { register = r; place = place; until = limit })
    (flat_in (operand_uses place until) (operands x) at.0 (operand.Reg r) (record { register = r; place = place; until = limit }) at.1
    (subst (λ (n : ℕ). Contains (operand_uses place until (operand.Reg r)) (record { register = r; place = place; until = n })) same (here_in (record { register = r; place = place; until = until }) [])))
inst_use place until (x ∷ xs) term (suc k) i r limit is c e =
    Contains-append_right (flat_map (operand_uses place until) (operands x)) (insts_uses place (until + has_result (result_type x)) xs term) (record { register = r; place = place; until = limit })
    (inst_use place (until + has_result (result_type x)) xs term k i r limit is c (omega (arith, e, types_cons x (take k xs))))

block_use : (blocks : List Block) (at : ℕ) (bs : List Block) (i place : ℕ) (block : Block) (u : Use) → slice_get bs i ≡ Some block → at + i ≡ place → Contains (block_uses blocks place block) u → Contains (uses_from blocks at bs) u
block_use blocks at [] i place block u is e c = absurd (none-some block is)
block_use blocks at (b ∷ bs) zero place block u is e c =
    Contains-append_left (block_uses blocks at b) (uses_from blocks (suc at) bs) u
    (subst (λ (n : ℕ). Contains (block_uses blocks n b) u) (omega (arith, e)) (subst (λ (x : Block). Contains (block_uses blocks place x) u) (sym (some_is is)) c))
block_use blocks at (b ∷ bs) (suc i) place block u is e c =
    Contains-append_right (block_uses blocks at b) (uses_from blocks (suc at) bs) u (block_use blocks (suc at) bs i place block u is (omega (arith, e)) c)

-- ---- which place gives a result

pub record IsInstResult (insts : List Inst) (t : ℕ) : Type 0 where
  pub place : ℕ
  pub inst : Inst
  pub ty : Scalar
  pub is : slice_get insts place ≡ Some inst
  pub has : result_type inst ≡ Some ty
  pub number : length (types (take place insts)) ≡ t

find_inst : (insts : List Inst) (t : ℕ) → t < length (types insts) → IsInstResult insts t
find_inst [] t h = absurd (omega arith)
find_inst (x ∷ xs) t h = by (result_type x) refl t h (λ s less. find_inst xs s less)
  where
    later : (s : ℕ) → IsInstResult xs s → (t : ℕ) → has_result (result_type x) + s ≡ t → IsInstResult (x ∷ xs) t
    later s more t e = record { place = suc more.place; inst = more.inst; ty = more.ty; is = more.is; has = more.has; number = omega (arith, types_cons x (take more.place xs), more.number, e) }

    by : (o : Option Scalar) → result_type x ≡ o → (t : ℕ) → t < length (types (x ∷ xs)) → ((s : ℕ) → s < length (types xs) → IsInstResult xs s) → IsInstResult (x ∷ xs) t
    by None e t less rest =
        let none : has_result (result_type x) ≡ 0 = ap has_result e in
        later t (rest t (omega (arith, less, types_cons x xs, none))) t (omega (arith, none))
    by (Some ty) e zero less rest = record { place = 0; inst = x; ty = ty; is = refl; has = e; number = refl }
    by (Some ty) e (suc t) less rest =
        let one : has_result (result_type x) ≡ 1 = ap has_result e in
        later t (rest t (omega (arith, less, types_cons x xs, one))) (suc t) (omega (arith, one))

first_none : (blocks : List Block) (place : ℕ) → slice_get blocks place ≡ None → first_result blocks (suc place) ≡ first_result blocks place
first_none [] zero h = refl
first_none [] (suc place) h = refl
first_none (b ∷ bs) zero h = absurd (none-some b (sym h))
first_none (b ∷ bs) (suc place) h = omega (arith, first_cons b bs (suc place), first_cons b bs place, first_none bs place h)

-- ---- the walk along a path

-- what is needed of a closed assignment and of its body
pub record IsWalked (setting : Setting) (blocks : List Block) (a : Assigned) : Type 0 where
  pub closed : IsClosed setting blocks a
  pub leads : (from k to : ℕ) → IsReachedEdge a from k to → Leads blocks from to
  pub definite : All (IsSurelyDefined blocks) (uses blocks)
  -- a phi has an entry for each block that leads to its own, and the first block has none
  pub entries : (place k : ℕ) (block : Block) (phi : Phi) (from : ℕ) → slice_get blocks place ≡ Some block → slice_get block.phis k ≡ Some phi → Leads blocks from place
      → (j : ℕ) × (entry : Operand × ℕ) × (slice_get phi.entries j ≡ Some entry) × (entry.1 ≡ from)
  pub first : (k : ℕ) (block : Block) (phi : Phi) → slice_get blocks 0 ≡ Some block → slice_get block.phis k ≡ Some phi → ⊥

path_is : (setting : Setting) (blocks : List Block) (a : Assigned) (path : List ℕ) → IsWalked setting blocks a → IsReachedPath a path → IsPath blocks path
path_is setting blocks a [] w p = p
path_is setting blocks a (place ∷ []) w p = p
path_is setting blocks a (place ∷ from ∷ more) w p = (w.leads from p.0.0 place p.0.1, path_is setting blocks a (from ∷ more) w p.1)

path_reached : (a : Assigned) (place : ℕ) (visited : List ℕ) → IsReachedPath a (place ∷ visited) → is_reached a place ≡ true
path_reached a place [] p = subst (λ n. is_reached a n ≡ true) (sym p) (first_reached a)
path_reached a place (from ∷ more) p = reached_when a from p.0.0 place p.0.1

-- the results of blocks that were visited before have facts
abbrev AreValued : List Block → Assigned → List ℕ → Type 0
AreValued blocks a visited = (q : ℕ) → Contains visited q → (r : ℕ) → Defines blocks q r → IsValued (fact_of a.facts r)

entry_is : (setting : Setting) (a : Assigned) (place : ℕ) (entry : Operand × ℕ) → enters a entry.1 place ≡ true → IsValued (operand_fact setting a.facts entry.0) → IsValued (entry_fact setting a place entry)
entry_is setting a place entry e v = subst (λ b. IsValued (cond b (operand_fact setting a.facts entry.0) Unreached)) (sym e) v

phi_valued : (setting : Setting) (blocks : List Block) (a : Assigned) (place k : ℕ) (block : Block) (phi : Phi) (visited : List ℕ) → IsWalked setting blocks a → IsReachedPath a (place ∷ visited)
    → AreValued blocks a visited → slice_get blocks place ≡ Some block → slice_get block.phis k ≡ Some phi → IsValued (phi_fact setting a place phi)
phi_valued setting blocks a place k block phi [] w p before here is = absurd (w.first k block phi (subst (λ n. slice_get blocks n ≡ Some block) p here) is)
phi_valued setting blocks a place k block phi (from ∷ more) w p before here is =
    let found = w.entries place k block phi from here is (w.leads from p.0.0 place p.0.1) in
    let entry : Operand × ℕ = found.1 in
    let entered : enters a entry.1 place ≡ true = subst (λ n. enters a n place ≡ true) (sym found.3) (enter a from p.0.0 place p.0.1) in
    valued_join (entry_fact setting a place) phi.entries found.0 entry found.2
    (entry_is setting a place entry entered (operand_valued setting a.facts entry.0 (λ r e. register found.0 entry found.2 found.3 r e)))
  where
    register : (j : ℕ) (entry : Operand × ℕ) → slice_get phi.entries j ≡ Some entry → entry.1 ≡ from → (r : ℕ) → entry.0 ≡ operand.Reg r → IsValued (fact_of a.facts r)
    register j entry at e r reg =
        let u : Use = record { register = r; place = entry.1; until = first_result blocks (suc entry.1) } in
        let one : Contains (operand_uses entry.1 (first_result blocks (suc entry.1)) entry.0) u =
        subst (λ (o : Operand). Contains (operand_uses entry.1 (first_result blocks (suc entry.1)) o) u) (sym reg) (here_in u []) in
        let in_phi : Contains (phi_uses blocks phi) u = flat_in (λ (x : Operand × ℕ). operand_uses x.1 (first_result blocks (suc x.1)) x.0) phi.entries j entry u at one in
        let in_block : Contains (block_uses blocks place block) u =
        Contains-append_left (flat_map (phi_uses blocks) block.phis) (insts_uses place (first_result blocks place + length block.phis) block.insts block.term) u (flat_in (phi_uses blocks) block.phis k phi u is in_phi) in
        let used : Contains (uses blocks) u = block_use blocks 0 blocks place place block u here (omega arith) in_block in
        let sure : IsSurelyDefined blocks u = All-contains (IsSurelyDefined blocks) (uses blocks) u w.definite used in
        elim (sure more (subst (λ (n : ℕ). IsPath blocks (n ∷ more)) (sym e) (path_is setting blocks a (from ∷ more) w p.1))) [
          | inl (q, c, d) ↦ before q (there_in from q more c) r d
          | inr d ↦ before from (here_in from more) r (subst (λ (n : ℕ). Defines blocks n r) e d)
        ]

inst_valued_at : (setting : Setting) (blocks : List Block) (a : Assigned) (place k limit : ℕ) (block : Block) (i : Inst) (visited : List ℕ) → IsWalked setting blocks a → IsReachedPath a (place ∷ visited)
    → AreValued blocks a visited → slice_get blocks place ≡ Some block → slice_get block.insts k ≡ Some i → inst_result block.insts (first_result blocks place + length block.phis) k ≡ limit
    → ((r : ℕ) → first_result blocks place ≤ r → r < limit → IsValued (fact_of a.facts r)) → IsValued (inst_fact setting a.facts i)
inst_valued_at setting blocks a place k limit block i visited w p before here is number earlier = inst_valued setting a.facts i (λ o c. operand_valued setting a.facts o (λ r e. register r (subst (Contains (operands i)) e c)))
  where
    register : (r : ℕ) → Contains (operands i) (operand.Reg r) → IsValued (fact_of a.facts r)
    register r c =
        let u : Use = record { register = r; place = place; until = limit } in
        let in_insts : Contains (insts_uses place (first_result blocks place + length block.phis) block.insts block.term) u = inst_use place (first_result blocks place + length block.phis) block.insts block.term k i r limit is c number in
        let in_block : Contains (block_uses blocks place block) u =
        Contains-append_right (flat_map (phi_uses blocks) block.phis) (insts_uses place (first_result blocks place + length block.phis) block.insts block.term) u in_insts in
        let used : Contains (uses blocks) u = block_use blocks 0 blocks place place block u here (omega arith) in_block in
        let sure : IsSurelyDefined blocks u = All-contains (IsSurelyDefined blocks) (uses blocks) u w.definite used in
        elim (sure visited (path_is setting blocks a (place ∷ visited) w p)) [
          | inl (q, d, e) ↦ before q d r e
          | inr d ↦ earlier r d.0 d.1
        ]

-- One result of the last block, where those before it in the block have facts.
step : (setting : Setting) (blocks : List Block) (a : Assigned) (place : ℕ) (visited : List ℕ) (n : ℕ) → IsWalked setting blocks a → IsReachedPath a (place ∷ visited) → AreValued blocks a visited
    → ((r : ℕ) → r < n → Defines blocks place r → IsValued (fact_of a.facts r)) → Defines blocks place n → IsValued (fact_of a.facts n)
step setting blocks a place visited n w p before earlier d = by (slice_get blocks place) refl
  where
    at : (block : Block) → slice_get blocks place ≡ Some block → IsValued (fact_of a.facts n)
    at block here =
        let next : first_result blocks (suc place) ≡ first_result blocks place + length (block_results block) = ap (first_result blocks) (one_more place) ∙ first_next blocks place block here in
        let c = w.closed place block here (path_reached a place visited p) in
        elim (less_or (n - first_result blocks place) (length block.phis)) [
          | inl less ↦
              let phi = there block.phis (n - first_result blocks place) less in
              let same : first_result blocks place + (n - first_result blocks place) ≡ n = omega (arith, d.0) in
              subst (λ m. IsValued (fact_of a.facts m)) same
              (valued_above (phi_fact setting a place phi.0) (fact_of a.facts (first_result blocks place + (n - first_result blocks place))) (c.phis (n - first_result blocks place) phi.0 phi.1)
              (phi_valued setting blocks a place (n - first_result blocks place) block phi.0 visited w p before here phi.1))
          | inr past ↦
              let found = find_inst block.insts (n - first_result blocks place - length block.phis) (omega (arith, past, d.0, d.1, next, phis_first block)) in
              let number : inst_result block.insts (first_result blocks place + length block.phis) found.place ≡ n = omega (arith, found.number, past, d.0) in
              subst (λ m. IsValued (fact_of a.facts m)) number
              (valued_above (inst_fact setting a.facts found.inst) (fact_of a.facts (inst_result block.insts (first_result blocks place + length block.phis) found.place))
              (c.insts found.place found.inst found.is (subst IsSome (sym found.has) refl))
              (inst_valued_at setting blocks a place found.place n block found.inst visited w p before here found.is number (λ r low high. earlier r high (low, omega (arith, high, d.1)))))
        ]
      where
        one_more : (k : ℕ) → suc k ≡ k + 1
        one_more k = omega arith

    by : (o : Option Block) → slice_get blocks place ≡ o → IsValued (fact_of a.facts n)
    by None e = absurd (omega (arith, first_none blocks place e, d.0, d.1))
    by (Some block) e = at block e

all_below : (setting : Setting) (blocks : List Block) (a : Assigned) (place : ℕ) (visited : List ℕ) (n : ℕ) → IsWalked setting blocks a → IsReachedPath a (place ∷ visited) → AreValued blocks a visited
    → (r : ℕ) → r < n → Defines blocks place r → IsValued (fact_of a.facts r)
all_below setting blocks a place visited zero w p before r less d = absurd (omega (arith, less))
all_below setting blocks a place visited (suc n) w p before r less d = elim (is_or_not r n) [
  | inl e ↦ subst (λ m. IsValued (fact_of a.facts m)) (sym e)
      (step setting blocks a place visited n w p before (λ s l f. all_below setting blocks a place visited n w p before s l f) (subst (λ (m : ℕ). Defines blocks place m) e d))
  | inr ne ↦ all_below setting blocks a place visited n w p before r (omega (arith, less, ne)) d
]

along : (setting : Setting) (blocks : List Block) (a : Assigned) (place : ℕ) (visited : List ℕ) → IsWalked setting blocks a → IsReachedPath a (place ∷ visited) → AreValued blocks a (place ∷ visited)
along setting blocks a place [] w p q c r d = elim (cases_in place q [] c) [
  | inl e ↦ all_below setting blocks a place [] (suc r) w p (λ x none. absurd (none_in x none)) r (omega arith) (subst (λ (n : ℕ). Defines blocks n r) (sym e) d)
  | inr none ↦ absurd (none_in q none)
]
along setting blocks a place (from ∷ more) w p q c r d = elim (cases_in place q (from ∷ more) c) [
  | inl e ↦ all_below setting blocks a place (from ∷ more) (suc r) w p (along setting blocks a from more w p.1) r (omega arith) (subst (λ (n : ℕ). Defines blocks n r) (sym e) d)
  | inr before ↦ along setting blocks a from more w p.1 q before r d
]

pub path_valued : (setting : Setting) (blocks : List Block) (a : Assigned) (place : ℕ) (visited : List ℕ) (r : ℕ) → IsWalked setting blocks a → IsReachedPath a (place ∷ visited) → Defines blocks place r → IsValued (fact_of a.facts r)
path_valued setting blocks a place visited r w p d = along setting blocks a place visited w p place (here_in place visited) r d
