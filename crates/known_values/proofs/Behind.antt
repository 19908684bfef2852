-- Calls that go on behind an instruction are as they are read.
use Rattle.std.proofs.Common.{◌≡◌, ◌∙◌, ℕ, suc, ◌+◌, ◌<◌, true, List, ◌∷◌, length, take, IsSome, slice_get, Option, Some, None, refl, sym, ap, subst, arith}
use Rattle.std.proofs.lemmas.Bool.{and_from}
use Rattle.std.proofs.lemmas.List.{length-set}
use Rattle.ir_types.specs.declared.scalar.Scalar.{Scalar}
use Rattle.ir_syntax.specs.declared.symbol.Sym.{Sym}
use Rattle.ir_syntax.specs.declared.body.Inst.{Inst}
use Rattle.ir_syntax.specs.declared.body.Block.{Block}
use Rattle.ir_syntax.specs.Definite.{first_result, has_result, Defines}
use Rattle.ir_syntax.specs.Programs.{ProgramData}
use Rattle.ir_syntax.specs.Results.{result_type, block_results}
use Rattle.block_memory.specs.declared.value.Val.{Val}
use Rattle.ir_steps.specs.States.{Frame}
use Rattle.ir_steps.specs.Results.{with_result}
use Rattle.fold_facts.specs.Assigned.{fact_of, is_reached}
use Rattle.fold_facts.specs.Closed.{inst_result}
use Rattle.fold_facts.specs.Facts.{IsBelow}
use Rattle.fold_facts.specs.Instructions.{inst_fact}
use Rattle.fold_facts.specs.Places.{blocks_of}
use Rattle.fold_facts.proofs.Lists.{within}
use Rattle.fold_facts.proofs.Numbers.{first_next, types, types_next, inst_typed}
use Rattle.interface.specs.Masks.{is_chosen}
use Rattle.specialise.specs.Leaving.{kept, is_open}
use Rattle.residual_laws.proofs.Flags.{kept_flag}
use Rattle.known_values.specs.Suits.{Suits}
use Rattle.known_values.specs.Readings.{Reading, IsReading, setting_of}
use Rattle.known_values.specs.Frames.{IsResultOf, IsFrameOf, IsFrameAs}
use Rattle.known_values.proofs.Facts.{suits_above}
use Rattle.known_values.proofs.Slots.{set_one, next_is}

-- ---- which results stay

-- A result of a reached block stays where it is open.
pub result_stays : (p : ProgramData) (r : Reading) (place k : ℕ) → IsReading p r → is_reached r.assigned place ≡ true → Defines (blocks_of r.func) place k → is_open (fact_of r.assigned.facts k) ≡ true
    → is_chosen (kept r.assigned (blocks_of r.func)) k ≡ true
result_stays p r place k reading reached defines open_is =
    kept_flag (blocks_of r.func) r.assigned place k reading.left.of defines ∙ and_from (is_reached r.assigned place) (is_open (fact_of r.assigned.facts k)) reached open_is

-- ---- the number of an instruction's result

-- The block at a place defines the results of its instructions.
inst_defines : (blocks : List Block) (place done n : ℕ) (block : Block) (inst : Inst) (ty : Scalar) → slice_get blocks place ≡ Some block → slice_get block.insts done ≡ Some inst → result_type inst ≡ Some ty
    → n ≡ inst_result block.insts (first_result blocks place + length block.phis) done → Defines blocks place n
inst_defines blocks place done n block inst ty at here typed is =
    let less : length block.phis + length (types (take done block.insts)) < length (block_results block) =
    within (block_results block) (length block.phis + length (types (take done block.insts))) ty (inst_typed block done inst ty here typed) in
    let next : first_result blocks (place + 1) ≡ first_result blocks place + length (block_results block) = first_next blocks place block at in
    let same : first_result blocks (suc place) ≡ first_result blocks (place + 1) = ap (first_result blocks) (one place) in
    (omega arith, omega arith)
  where
    one : (m : ℕ) → suc m ≡ m + 1
    one m = omega arith

-- the number behind it
number_behind : (insts : List Inst) (base done n : ℕ) (inst : Inst) (counts : ℕ) → slice_get insts done ≡ Some inst → has_result (result_type inst) ≡ counts → n ≡ inst_result insts base done → n + counts ≡ inst_result insts base (suc done)
number_behind insts base done n inst counts here is e =
    let next : length (types (take (done + 1) insts)) ≡ length (types (take done insts)) + has_result (result_type inst) = types_next insts done inst here in
    let same : length (types (take (suc done) insts)) ≡ length (types (take (done + 1) insts)) = ap (λ m. length (types (take m insts))) (one done) in
    omega arith
  where
    one : (m : ℕ) → suc m ≡ m + 1
    one m = omega arith

-- ---- one instruction further

-- without a result
pub behind_of : (r : Reading) (f : Frame) (inst : Inst) (behind : List Inst) → IsFrameOf r f → f.rest ≡ inst ∷ behind → result_type inst ≡ None → IsFrameOf r (record f { rest = behind })
behind_of r f inst behind h e typed =
    let next = next_is h.block.insts h.done inst behind (sym h.rest ∙ e) in
    let number = number_behind h.block.insts (first_result (blocks_of r.func) f.block + length h.block.phis) h.done f.next inst 0 next.at (ap has_result typed) h.next in
    record {
      func = h.func;
      block = h.block;
      at = h.at;
      reached = h.reached;
      done = suc h.done;
      within = omega (arith, next.within);
      rest = next.behind;
      last = h.last;
      next = none f.next ∙ number;
      args = h.args;
      long = h.long;
      results = h.results;
    }
  where
    none : (m : ℕ) → m ≡ m + 0
    none m = omega arith

-- What an instruction gives is as is read.
inst_result_of : (p : ProgramData) (r : Reading) (f : Frame) (inst : Inst) (ty : Scalar) (v : Val Sym) (reading : IsReading p r) (h : IsFrameOf r f) → slice_get h.block.insts h.done ≡ Some inst → result_type inst ≡ Some ty
    → Suits (inst_fact (setting_of r) r.assigned.facts inst) v → IsResultOf r f.next v
inst_result_of p r f inst ty v reading h here typed s =
    let blocks = blocks_of r.func in
    let closed = (reading.left.closed f.block h.block h.at h.reached).insts h.done inst here (subst (λ (o : Option Scalar). IsSome o) (sym typed) refl) in
    record {
      suits = suits_above (inst_fact (setting_of r) r.assigned.facts inst) (fact_of r.assigned.facts f.next) v
          (subst (λ n. IsBelow (inst_fact (setting_of r) r.assigned.facts inst) (fact_of r.assigned.facts n)) (sym h.next) closed) s;
      stays = result_stays p r f.block f.next reading h.reached (inst_defines blocks f.block h.done f.next h.block inst ty h.at here typed h.next);
    }

-- and with one
pub result_of : (p : ProgramData) (r : Reading) (f : Frame) (inst : Inst) (behind : List Inst) (ty : Scalar) (v : Val Sym) → IsReading p r → IsFrameOf r f → f.rest ≡ inst ∷ behind
    → result_type inst ≡ Some ty → Suits (inst_fact (setting_of r) r.assigned.facts inst) v → IsFrameOf r (with_result f behind v)
result_of p r f inst behind ty v reading h e typed s =
    let next = next_is h.block.insts h.done inst behind (sym h.rest ∙ e) in
    let number = number_behind h.block.insts (first_result (blocks_of r.func) f.block + length h.block.phis) h.done f.next inst 1 next.at (ap has_result typed) h.next in
    record {
      func = h.func;
      block = h.block;
      at = h.at;
      reached = h.reached;
      done = suc h.done;
      within = omega (arith, next.within);
      rest = next.behind;
      last = h.last;
      next = one f.next ∙ number;
      args = h.args;
      long = length-set f.results f.next (Some v) ∙ h.long;
      results = set_one (IsResultOf r) f.results f.next v h.results (inst_result_of p r f inst ty v reading h next.at typed s);
    }
  where
    one : (m : ℕ) → suc m ≡ m + 1
    one m = omega arith

-- A call that has made a block is as before.
pub allocas_of : (r : Reading) (f : Frame) (allocas : List ℕ) → IsFrameOf r f → IsFrameOf r (record f { allocas = allocas })
allocas_of r f allocas h = record {
  func = h.func;
  block = h.block;
  at = h.at;
  reached = h.reached;
  done = h.done;
  within = h.within;
  rest = h.rest;
  last = h.last;
  next = h.next;
  args = h.args;
  long = h.long;
  results = h.results;
}

-- ---- the same of a call that may not be read

-- a value is as an instruction says by the reading
abbrev pub SuitsIn : Option Reading → Inst → Val Sym → Type 0
SuitsIn None inst v = Unit {0}
SuitsIn (Some r) inst v = Suits (inst_fact (setting_of r) r.assigned.facts inst) v

pub behind_as : (p : ProgramData) (kind : Option Reading) (f : Frame) (inst : Inst) (behind : List Inst) → IsFrameAs p kind f → f.rest ≡ inst ∷ behind → result_type inst ≡ None → IsFrameAs p kind (record f { rest = behind })
behind_as p None f inst behind h e typed = tt
behind_as p (Some r) f inst behind h e typed = (h.0, behind_of r f inst behind h.1 e typed)

pub result_as : (p : ProgramData) (kind : Option Reading) (f : Frame) (inst : Inst) (behind : List Inst) (ty : Scalar) (v : Val Sym) → IsFrameAs p kind f → f.rest ≡ inst ∷ behind → result_type inst ≡ Some ty → SuitsIn kind inst v
    → IsFrameAs p kind (with_result f behind v)
result_as p None f inst behind ty v h e typed s = tt
result_as p (Some r) f inst behind ty v h e typed s = (h.0, result_of p r f inst behind ty v h.0 h.1 e typed s)

pub allocas_as : (p : ProgramData) (kind : Option Reading) (f : Frame) (allocas : List ℕ) → IsFrameAs p kind f → IsFrameAs p kind (record f { allocas = allocas })
allocas_as p None f allocas h = tt
allocas_as p (Some r) f allocas h = (h.0, allocas_of r f allocas h.1)
