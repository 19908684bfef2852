-- How many looks and uses there are, and so transfers.
use Rattle.std.proofs.Common.{◌≡◌, ℕ, zero, suc, ◌+◌, ◌*◌, ◌≤◌, List, [], ◌∷◌, ◌++◌, Option, None, Some, length, map, refl, ap, arith, length-append}
use Rattle.std.specs.Prelude.{slice_get, sum, sum_by}
use Rattle.std.proofs.lemmas.List.{length-map}
use Rattle.std.proofs.lemmas.List.Sums.{sum_by-cons, sum_by-append}
use Rattle.ir_types.specs.declared.scalar.Scalar.{Scalar}
use Rattle.ir_syntax.specs.declared.constant.Operand.{Operand}
use Rattle.ir_syntax.specs.declared.constant.Operand.TheVariants as operand
use Rattle.ir_syntax.specs.declared.body.Inst.{Inst}
use Rattle.ir_syntax.specs.declared.body.Phi.{Phi}
use Rattle.ir_syntax.specs.declared.body.Block.{Block}
use Rattle.ir_syntax.specs.Operands.{operands, term_operands, phi_operands}
use Rattle.ir_syntax.specs.Results.{result_type, block_results, block_count}
use Rattle.ir_syntax.specs.Definite.{has_result}
use Rattle.fold_facts.specs.declared.fact.Fact.TheVariants.{Unreached}
use Rattle.fold_facts.specs.Assigned.{fact_of}
use Rattle.fold_facts.specs.Places.{inst_at, entry_at}
use Rattle.fold_facts.specs.OfFunction.{results_in}
use Rattle.fold_facts.specs.Raising.{fact_room}
use Rattle.fold_sparse.specs.declared.look.Look.{Look}
use Rattle.fold_sparse.specs.declared.look.Look.TheVariants.{Entry, Value, Term}
use Rattle.fold_sparse.specs.declared.standing.Standing.TheVariants.{Unopened}
use Rattle.fold_sparse.specs.Bound.{places_in, block_operands, operands_in}
use Rattle.fold_sparse.specs.Looks.{entry_looks, phi_looks, value_look, inst_looks, block_looks, looks_from, looks_of, entry_operands, inst_operands, block_term_operands, look_operands, registers, paired, keyed_from, uses_from}
use Rattle.fold_sparse.specs.Solving.{left, unopened}
use Rattle.fold_sparse.proofs.Places.{Rest, rest_first, rest_more, rest_all}
use Rattle.fold_sparse.proofs.Raising.{inst_of}

registers_most : (os : List Operand) → length (registers os) ≤ length os
registers_most [] = omega arith
registers_most (operand.Param k ∷ os) = omega (arith, registers_most os)
registers_most (operand.Reg k ∷ os) = omega (arith, registers_most os)
registers_most (operand.Const c ∷ os) = omega (arith, registers_most os)

keyed_length : (keys : Look → List ℕ) (from : ℕ) (looks : List Look) → length (keyed_from keys from looks) ≡ sum_by (λ look. length (keys look)) looks
keyed_length keys from [] = refl
keyed_length keys from (k ∷ ks) =
    omega (arith, length-append (paired from (keys k)) (keyed_from keys (suc from) ks), length-map {B = ℕ × ℕ} (keys k) (λ key. (key, from)), keyed_length keys (suc from) ks, sum_by-cons (λ look. length (keys look)) k ks)

abbrev reads : List Block → Look → ℕ
reads blocks look = length (registers (look_operands blocks look))

-- ---- entries and phis

entry_reads : (blocks : List Block) (at from k j number : ℕ) → reads blocks (Entry at from k j number) ≤ 1
entry_reads blocks at from k j number = by (entry_at blocks at k j)
  where
    by : (o : Option (Operand × ℕ)) → length (registers (entry_operands o)) ≤ 1
    by None = omega arith
    by (Some entry) = registers_most (entry.0 ∷ [])

entries_read : (blocks : List Block) (at k j number : ℕ) (entries : List (Operand × ℕ)) → sum_by (reads blocks) (entry_looks at k j number entries) ≤ length entries
entries_read blocks at k j number [] = omega arith
entries_read blocks at k j number (e ∷ es) =
    omega (arith, sum_by-cons (reads blocks) (Entry at e.1 k j number) (entry_looks at k (suc j) number es), entry_reads blocks at e.1 k j number, entries_read blocks at k (suc j) number es)

entries_long : (at k j number : ℕ) (entries : List (Operand × ℕ)) → length (entry_looks at k j number entries) ≡ length entries
entries_long at k j number [] = refl
entries_long at k j number (e ∷ es) = ap suc (entries_long at k (suc j) number es)

abbrev phi_count : List Phi → ℕ
phi_count phis = sum (map (λ phi. length (phi_operands phi)) phis)

phi_cons : (p : Phi) (ps : List Phi) → phi_count (p ∷ ps) ≡ length p.entries + phi_count ps
phi_cons p ps = omega (arith, sum_by-cons (λ n. n) (length (phi_operands p)) (map (λ phi. length (phi_operands phi)) ps), length-map p.entries (λ entry. entry.0))

phis_read : (blocks : List Block) (at k number : ℕ) (phis : List Phi) → sum_by (reads blocks) (phi_looks at k number phis) ≤ phi_count phis
phis_read blocks at k number [] = omega arith
phis_read blocks at k number (p ∷ ps) =
    omega (
      arith,
      sum_by-append (reads blocks) (entry_looks at k 0 number p.entries) (phi_looks at (suc k) (suc number) ps),
      entries_read blocks at k 0 number p.entries,
      phis_read blocks at (suc k) (suc number) ps,
      phi_cons p ps,
    )

phis_long : (at k number : ℕ) (phis : List Phi) → length (phi_looks at k number phis) ≡ phi_count phis
phis_long at k number [] = refl
phis_long at k number (p ∷ ps) =
    omega (arith, length-append (entry_looks at k 0 number p.entries) (phi_looks at (suc k) (suc number) ps), entries_long at k 0 number p.entries, phis_long at (suc k) (suc number) ps, phi_cons p ps)

-- ---- other instructions

abbrev inst_count : List Inst → ℕ
inst_count insts = sum (map (λ i. length (operands i)) insts)

value_reads : (blocks : List Block) (at k number : ℕ) (i : Inst) → inst_at blocks at k ≡ Some i → (o : Option Scalar) → sum_by (reads blocks) (value_look at k number o) ≤ length (operands i)
value_reads blocks at k number i is None = omega arith
value_reads blocks at k number i is (Some ty) =
    let one : reads blocks (Value at k number) ≡ length (registers (operands i)) = ap (λ x. length (registers (inst_operands x))) is in
    omega (arith, sum_by-cons (reads blocks) (Value at k number) [], one, registers_most (operands i))

insts_read : (blocks : List Block) (at : ℕ) (block : Block) → slice_get blocks at ≡ Some block → (k number : ℕ) (insts : List Inst) → Rest block.insts k insts → sum_by (reads blocks) (inst_looks at k number insts) ≤ inst_count insts
insts_read blocks at block is k number [] rest = omega arith
insts_read blocks at block is k number (i ∷ more) rest =
    omega (
      arith,
      sum_by-append (reads blocks) (value_look at k number (result_type i)) (inst_looks at (suc k) (number + has_result (result_type i)) more),
      value_reads blocks at k number i (inst_of blocks at k block i is (rest_first block.insts k i more rest)) (result_type i),
      insts_read blocks at block is (suc k) (number + has_result (result_type i)) more (rest_more block.insts k i more rest),
      sum_by-cons (λ n. n) (length (operands i)) (map (λ x. length (operands x)) more),
    )

value_long : (at k number : ℕ) (o : Option Scalar) → length (value_look at k number o) ≤ 1
value_long at k number None = omega arith
value_long at k number (Some ty) = omega arith

insts_long : (at k number : ℕ) (insts : List Inst) → length (inst_looks at k number insts) ≤ length insts
insts_long at k number [] = omega arith
insts_long at k number (i ∷ more) =
    omega (
      arith,
      length-append (value_look at k number (result_type i)) (inst_looks at (suc k) (number + has_result (result_type i)) more),
      value_long at k number (result_type i),
      insts_long at (suc k) (number + has_result (result_type i)) more,
    )

-- ---- blocks

block_read : (blocks : List Block) (at first : ℕ) (block : Block) → slice_get blocks at ≡ Some block → sum_by (reads blocks) (block_looks at first block) ≤ block_operands block
block_read blocks at first block is =
    let term : reads blocks (Term at) ≡ length (registers (term_operands block.term)) = ap (λ x. length (registers (block_term_operands x))) is in
    omega (
      arith,
      sum_by-append (reads blocks) (phi_looks at 0 first block.phis) (inst_looks at 0 (first + length block.phis) block.insts ++ Term at ∷ []),
      sum_by-append (reads blocks) (inst_looks at 0 (first + length block.phis) block.insts) (Term at ∷ []),
      sum_by-cons (reads blocks) (Term at) [],
      term,
      registers_most (term_operands block.term),
      phis_read blocks at 0 first block.phis,
      insts_read blocks at block is 0 (first + length block.phis) block.insts (rest_all block.insts),
    )

block_long : (at first : ℕ) (block : Block) → length (block_looks at first block) ≤ block_count block + block_operands block
block_long at first block =
    omega (
      arith,
      length-append (phi_looks at 0 first block.phis) (inst_looks at 0 (first + length block.phis) block.insts ++ Term at ∷ []),
      length-append (inst_looks at 0 (first + length block.phis) block.insts) (Term at ∷ []),
      phis_long at 0 first block.phis,
      insts_long at 0 (first + length block.phis) block.insts,
    )

from_read : (blocks : List Block) (at first : ℕ) (bs : List Block) → Rest blocks at bs → sum_by (reads blocks) (looks_from at first bs) ≤ operands_in bs
from_read blocks at first [] rest = omega arith
from_read blocks at first (b ∷ bs) rest =
    omega (
      arith,
      sum_by-append (reads blocks) (block_looks at first b) (looks_from (suc at) (first + length (block_results b)) bs),
      block_read blocks at first b (rest_first blocks at b bs rest),
      from_read blocks (suc at) (first + length (block_results b)) bs (rest_more blocks at b bs rest),
      sum_by-cons (λ n. n) (block_operands b) (map block_operands bs),
    )

from_long : (at first : ℕ) (bs : List Block) → length (looks_from at first bs) ≤ places_in bs + operands_in bs
from_long at first [] = omega arith
from_long at first (b ∷ bs) =
    omega (
      arith,
      length-append (block_looks at first b) (looks_from (suc at) (first + length (block_results b)) bs),
      block_long at first b,
      from_long (suc at) (first + length (block_results b)) bs,
      sum_by-cons (λ n. n) (block_operands b) (map block_operands bs),
      sum_by-cons (λ n. n) (block_count b) (map block_count bs),
    )

-- ---- transfers that are left at the start

none_opened : (looks : List Look) → sum_by unopened (map (λ look. Unopened) looks) ≡ length looks
none_opened [] = refl
none_opened (k ∷ ks) =
    let one : unopened Unopened ≡ 1 = refl in
    omega (arith, one, sum_by-cons unopened Unopened (map (λ look. Unopened) ks), none_opened ks)

blank_at : (tys : List Scalar) (k : ℕ) → fact_of (map (λ ty. Unreached) tys) k ≡ Unreached
blank_at [] k = refl
blank_at (ty ∷ tys) zero = refl
blank_at (ty ∷ tys) (suc k) = blank_at tys k

blank_weight : (tys : List Scalar) (pairs : List (ℕ × ℕ)) → sum_by (λ pair. fact_room (fact_of (map (λ ty. Unreached) tys) pair.0)) pairs ≡ 2 * length pairs
blank_weight tys [] = refl
blank_weight tys (p ∷ ps) =
    let one : fact_room (fact_of (map (λ ty. Unreached) tys) p.0) ≡ 2 = ap fact_room (blank_at tys p.0) in
    omega (arith, one, sum_by-cons (λ pair. fact_room (fact_of (map (λ ty. Unreached) tys) pair.0)) p ps, blank_weight tys ps)

pub left_most : (blocks : List Block) → left (uses_from blocks 0 (looks_of blocks)) (map (λ ty. Unreached) (results_in blocks)) (map (λ look. Unopened) (looks_of blocks)) [] ≤ places_in blocks + 3 * operands_in blocks
left_most blocks =
    omega (
      arith,
      none_opened (looks_of blocks),
      blank_weight (results_in blocks) (uses_from blocks 0 (looks_of blocks)),
      keyed_length (λ look. registers (look_operands blocks look)) 0 (looks_of blocks),
      from_read blocks 0 0 blocks (rest_all blocks),
      from_long 0 0 blocks,
    )
