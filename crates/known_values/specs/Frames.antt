-- Calls that are as they are read.
use Rattle.std.specs.Prelude.{◌≡◌, ◌≤◌, ℕ, ◌+◌, true, IsTrue, drop, length, Option, None, Some, slice_get}
use Rattle.ir_syntax.specs.declared.symbol.Sym.{Sym}
use Rattle.ir_syntax.specs.declared.body.Block.{Block}
use Rattle.ir_syntax.specs.Definite.{first_result}
use Rattle.ir_syntax.specs.Programs.{ProgramData}
use Rattle.block_memory.specs.declared.value.Val.{Val}
use Rattle.ir_steps.specs.States.{Frame, slot}
use Rattle.fold_facts.specs.Assigned.{fact_of, is_reached}
use Rattle.fold_facts.specs.Closed.{inst_result}
use Rattle.fold_facts.specs.OfFunction.{results_in}
use Rattle.fold_facts.specs.Places.{blocks_of}
use Rattle.interface.specs.Masks.{is_chosen}
use Rattle.specialise.specs.Leaving.{kept, is_open}
use Rattle.known_values.specs.Suits.{Suits, AllSuit}
use Rattle.known_values.specs.Readings.{Reading, IsReading}

-- A result that is set is as its fact says, and stays where no value is known of it.
pub record IsResultOf (r : Reading) (k : ℕ) (v : Val Sym) : Type 0 where
  pub suits : Suits (fact_of r.assigned.facts k) v
  pub stays : is_open (fact_of r.assigned.facts k) ≡ true → is_chosen (kept r.assigned (blocks_of r.func)) k ≡ true

-- The call is of the function, in a reached block, before one of its instructions or its terminator; its arguments are as is known,
-- and its results as is read.
pub record IsFrameOf (r : Reading) (f : Frame) : Type 0 where
  pub func : f.func ≡ r.symbol
  pub block : Block
  pub at : slice_get (blocks_of r.func) f.block ≡ Some block
  pub reached : IsTrue (is_reached r.assigned f.block)
  pub done : ℕ
  pub within : done ≤ length block.insts
  pub rest : f.rest ≡ drop done block.insts
  pub last : f.last ≡ block.term
  pub next : f.next ≡ inst_result block.insts (first_result (blocks_of r.func) f.block + length block.phis) done
  pub args : AllSuit r.pattern f.args
  pub long : length f.results ≡ length (results_in (blocks_of r.func))
  pub results : (k : ℕ) (v : Val Sym) → slot f.results k ≡ Some v → IsResultOf r k v

-- A call is by a reading of the program, and as is read. Of a call that isn't read nothing is said.
abbrev pub IsFrameAs : ProgramData → Option Reading → Frame → Type 0
IsFrameAs p None f = Unit {0}
IsFrameAs p (Some r) f = IsReading p r × IsFrameOf r f
