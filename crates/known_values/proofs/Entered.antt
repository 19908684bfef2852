-- A call that goes to another block by a reached edge is as is read: its phis are as is said of them.
use Rattle.std.proofs.Common.{◌≡◌, ◌∙◌, ℕ, suc, ◌+◌, ◌<◌, ◌==◌, nat_le, Bool, true, false, List, [], ◌∷◌, length, map, slice_get, Some, refl, ap, subst, arith, if◌then◌else◌}
use Rattle.std.specs.List.{filter_map}
use Rattle.std.proofs.lemmas.Bool.{eqb-true}
use Rattle.ir_syntax.specs.declared.symbol.Sym.{Sym}
use Rattle.ir_syntax.specs.declared.constant.Operand.{Operand}
use Rattle.ir_syntax.specs.declared.body.Inst.{Inst}
use Rattle.ir_syntax.specs.declared.body.Phi.{Phi}
use Rattle.ir_syntax.specs.declared.body.Block.{Block}
use Rattle.ir_syntax.specs.declared.body.Body.{Body}
use Rattle.ir_syntax.specs.Definite.{first_result, Defines}
use Rattle.ir_syntax.specs.Programs.{ProgramData}
use Rattle.ir_syntax.specs.Results.{result_type, block_results}
use Rattle.block_memory.specs.declared.value.Val.{Val}
use Rattle.block_memory.specs.Answers.{Gives, Stuck, and_then}
use Rattle.ir_steps.specs.States.{Frame}
use Rattle.ir_steps.specs.Operands.{value_in, value}
use Rattle.ir_steps.specs.Branches.{entry_for, phi_value, phi_values, entered, enters, enters_block}
use Rattle.fold_facts.specs.declared.fact.Fact.{Fact}
use Rattle.fold_facts.specs.declared.fact.Fact.TheVariants.{Unreached}
use Rattle.fold_facts.specs.Assigned as assigned
use Rattle.fold_facts.specs.Assigned.{Assigned, fact_of, IsReachedEdge, is_reached}
use Rattle.fold_facts.specs.Closed.{inst_result}
use Rattle.fold_facts.specs.Facts.{IsBelow, join, join_all}
use Rattle.fold_facts.specs.Operands.{Setting, operand_fact}
use Rattle.fold_facts.specs.Phis.{entry_fact, phi_fact}
use Rattle.fold_facts.specs.Places.{blocks_of}
use Rattle.fold_facts.proofs.Lists.{some_is, within}
use Rattle.fold_facts.proofs.Numbers.{first_next, phis_first}
use Rattle.fold_facts.proofs.Orders.{below_trans, join_left, join_right}
use Rattle.fold_facts.proofs.Reaching.{enter, reached_when}
use Rattle.known_values.specs.Suits.{Suits}
use Rattle.known_values.specs.Readings.{Reading, IsReading, setting_of}
use Rattle.known_values.specs.Frames.{IsResultOf, IsFrameOf}
use Rattle.known_values.proofs.Giving.{IfGives, gives_of, gives_read, gives_when, same_given, then_gave, then_read, read_is}
use Rattle.known_values.proofs.Facts.{suits_above, operand_suits}
use Rattle.known_values.proofs.Slots.{AreFrom, set_all, set_length}
use Rattle.known_values.proofs.Behind.{result_stays}

-- ---- phis

-- The entry that is taken counts.
entry_says : (setting : Setting) (a : Assigned) (from place : ℕ) (entries : List (Operand × ℕ)) (o : Operand) → assigned.enters a from place ≡ true → entry_for from entries ≡ Some o
    → IsBelow (operand_fact setting a.facts o) (join_all (map (entry_fact setting a place) entries))
entry_says setting a from place [] o reached e = cc
entry_says setting a from place (x ∷ more) o reached e = of (x.1 == from) refl e (λ is. entry_says setting a from place more o reached is)
  where
    rest : Fact
    rest = join_all (map (entry_fact setting a place) more)

    of : (b : Bool) → (x.1 == from) ≡ b → (if b then Some x.0 else entry_for from more) ≡ Some o → (entry_for from more ≡ Some o → IsBelow (operand_fact setting a.facts o) rest)
        → IsBelow (operand_fact setting a.facts o) (join (entry_fact setting a place x) rest)
    of true here is later =
        let counts : assigned.enters a x.1 place ≡ true = ap (λ k. assigned.enters a k place) (eqb-true x.1 from here) ∙ reached in
        let said : entry_fact setting a place x ≡ operand_fact setting a.facts o =
        ap (λ b. if b then operand_fact setting a.facts x.0 else Unreached) counts ∙ ap (operand_fact setting a.facts) (some_is is) in
        subst (λ y. IsBelow y (join (entry_fact setting a place x) rest)) said (join_left (entry_fact setting a place x) rest)
    of false other is later =
        below_trans (operand_fact setting a.facts o) rest (join (entry_fact setting a place x) rest) (later is) (join_right (entry_fact setting a place x) rest)

phi_suits : (p : ProgramData) (r : Reading) (f : Frame) (to : ℕ) (phi : Phi) (x : Val Sym) → IsFrameOf r f → assigned.enters r.assigned f.block to ≡ true → phi_value p f phi ≡ Gives x
    → Suits (phi_fact (setting_of r) r.assigned to phi) x
phi_suits p r f to phi x h reached e =
    let taken = then_read (value p f) (entry_for f.block phi.entries) x e in
    suits_above (operand_fact (setting_of r) r.assigned.facts taken.0) (phi_fact (setting_of r) r.assigned to phi) x
    (entry_says (setting_of r) r.assigned f.block to phi.entries taken.0 reached taken.1)
    (operand_suits p r f taken.0 x h (read_is (value_in p f taken.0) x taken.2))

-- What is said of the results of phis from a number on.
abbrev AreSaid : Reading → ℕ → ℕ → List Phi → Type 0
AreSaid r to first phis = (k : ℕ) (phi : Phi) → slice_get phis k ≡ Some phi → (v : Val Sym) → Suits (phi_fact (setting_of r) r.assigned to phi) v → IsResultOf r (first + k) v

phis_suit : (p : ProgramData) (r : Reading) (f : Frame) (to first : ℕ) (phis : List Phi) (xs : List (Val Sym)) → IsFrameOf r f → assigned.enters r.assigned f.block to ≡ true → phi_values p f phis ≡ Gives xs
    → AreSaid r to first phis → AreFrom (IsResultOf r) first xs
phis_suit p r f to first [] xs h reached e said = subst (AreFrom (IsResultOf r) first) (same_given [] xs e) tt
phis_suit p r f to first (phi ∷ more) xs h reached e said =
    let one = then_gave (λ (x : Val Sym). and_then (λ (ys : List (Val Sym)). Gives (x ∷ ys)) (phi_values p f more)) (phi_value p f phi) xs e in
    let others = then_gave (λ (ys : List (Val Sym)). Gives (one.0 ∷ ys)) (phi_values p f more) xs one.2 in
    subst (AreFrom (IsResultOf r) first) (same_given (one.0 ∷ others.0) xs others.2) (
      subst (λ n. IsResultOf r n one.0) (none_on first) (said 0 phi refl one.0 (phi_suits p r f to phi one.0 h reached one.1)),
      phis_suit p r f to (suc first) more others.0 h reached others.1 (λ k x is v s. subst (λ n. IsResultOf r n v) (one_on first k) (said (suc k) x is v s)),
    )
  where
    none_on : (m : ℕ) → m + 0 ≡ m
    none_on m = omega arith

    one_on : (m k : ℕ) → m + suc k ≡ suc m + k
    one_on m k = omega arith

-- The block at a place defines the results of its phis.
phi_defines : (blocks : List Block) (place k : ℕ) (block : Block) (phi : Phi) → slice_get blocks place ≡ Some block → slice_get block.phis k ≡ Some phi → Defines blocks place (first_result blocks place + k)
phi_defines blocks place k block phi at here =
    let less : k < length block.phis = within block.phis k phi here in
    let all : length (block_results block) ≡ length block.phis + length (filter_map result_type block.insts) = phis_first block in
    let next : first_result blocks (place + 1) ≡ first_result blocks place + length (block_results block) = first_next blocks place block at in
    let same : first_result blocks (suc place) ≡ first_result blocks (place + 1) = ap (first_result blocks) (one place) in
    (omega arith, omega arith)
  where
    one : (m : ℕ) → suc m ≡ m + 1
    one m = omega arith

block_says : (p : ProgramData) (r : Reading) (to : ℕ) (block : Block) → IsReading p r → is_reached r.assigned to ≡ true → slice_get (blocks_of r.func) to ≡ Some block
    → AreSaid r to (first_result (blocks_of r.func) to) block.phis
block_says p r to block reading reached at k phi is v s =
    let n = first_result (blocks_of r.func) to + k in
    record {
      suits = suits_above (phi_fact (setting_of r) r.assigned to phi) (fact_of r.assigned.facts n) v ((reading.left.closed to block at reached).phis k phi is) s;
      stays = result_stays p r to n reading reached (phi_defines (blocks_of r.func) to k block phi at is);
    }

-- ---- the block that is entered

-- The first number is that behind no instruction.
pub none_before : (insts : List Inst) (base : ℕ) → base ≡ inst_result insts base 0
none_before [] base = omega arith
none_before (i ∷ more) base = omega arith

entered_of : (p : ProgramData) (r : Reading) (f : Frame) (to k : ℕ) (block : Block) (xs : List (Val Sym)) → IsReading p r → IsFrameOf r f → IsReachedEdge r.assigned f.block k to
    → slice_get (blocks_of r.func) to ≡ Some block → phi_values p f block.phis ≡ Gives xs → IsFrameOf r (entered f to (first_result (blocks_of r.func) to) block xs)
entered_of p r f to k block xs reading h edge at e =
    let first = first_result (blocks_of r.func) to in
    let reached = reached_when r.assigned f.block k to edge in
    let values = phis_suit p r f to first block.phis xs h (enter r.assigned f.block k to edge) e (block_says p r to block reading reached at) in
    record {
      func = h.func;
      block = block;
      at = at;
      reached = reached;
      done = 0;
      within = omega arith;
      rest = refl;
      last = refl;
      next = none_before block.insts (first + length block.phis);
      args = h.args;
      long = set_length xs first f.results ∙ h.long;
      results = set_all (IsResultOf r) xs first f.results h.results values;
    }

pub enters_of : (p : ProgramData) (r : Reading) (f : Frame) (to k : ℕ) (body : Body) → IsReading p r → IsFrameOf r f → IsReachedEdge r.assigned f.block k to → blocks_of r.func ≡ body.blocks
    → IfGives (IsFrameOf r) (enters_block p f to body)
enters_of p r f to k body reading h edge same =
    gives_read (IsFrameOf r) (λ block. and_then (enters f to (first_result body.blocks to) block) (phi_values p f block.phis)) (slice_get body.blocks to)
    (λ block at. gives_of (IsFrameOf r) (enters f to (first_result body.blocks to) block) (phi_values p f block.phis)
    (λ xs e. gives_when (IsFrameOf r) (nat_le (first_result body.blocks to + length block.phis) (length f.results)) (Gives (entered f to (first_result body.blocks to) block xs)) Stuck
    (λ fits. subst (λ blocks. IsFrameOf r (entered f to (first_result blocks to) block xs)) same
    (entered_of p r f to k block xs reading h edge (ap (λ blocks. slice_get blocks to) same ∙ at) e))
    (λ more. tt)))
