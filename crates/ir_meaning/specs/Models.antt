-- How a state is kept, and the state of the definition that it stands for.
use Rattle.std.specs.Prelude.{ℕ, Bool, List, [], ◌∷◌, map, drop, slice_get, Option, Some, None, option_and_then}
use Rattle.ir_syntax.specs.declared.symbol.Sym.{Sym}
use Rattle.ir_syntax.specs.declared.body.Inst.{Inst}
use Rattle.ir_syntax.specs.declared.body.Term.{Term}
use Rattle.ir_syntax.specs.declared.body.Term.TheVariants.{Unreachable}
use Rattle.ir_syntax.specs.declared.body.Block.{Block}
use Rattle.ir_syntax.specs.Programs.{ProgramData}
use Rattle.block_memory.specs.declared.value.Val.{Val}
use Rattle.block_memory.specs.Blocks.{MemoryData}
use Rattle.ir_steps.specs.States.{Frame, StateData}
use Rattle.ir_steps.specs.Calls.{body_of}

-- A call: its function, its block, the place in the block of the next instruction, its arguments, its slots, the number of the next
-- result, and the numbers of the blocks that its allocas made.
pub record FrameData : Type 0 where
  pub func : Sym
  pub block : ℕ
  pub place : ℕ
  pub args : List (Val Sym)
  pub results : List (Option (Val Sym))
  pub next : ℕ
  pub allocas : List ℕ

-- The calls: the innermost one, and those below it from the innermost to the root's.
pub record StackData : Type 0 where
  pub top : FrameData
  pub below : List FrameData

-- A state: its calls, where one is running, its memory, the numbers of the first results of the blocks of each body by module and item,
-- and whether it has failed for want of memory.
pub record StateModel : Type 0 where
  pub stack : Option StackData
  pub memory : MemoryData
  pub firsts : List (List (List ℕ))
  pub failed : Bool

-- ---- what they stand for

abbrev pub block_in : ProgramData → Sym → ℕ → Option Block
block_in p func block = option_and_then (λ body. slice_get body.blocks block) (body_of p func)

-- what stands in a block from a place on
abbrev pub rest_of : ℕ → Option Block → List Inst
rest_of place None = []
rest_of place (Some block) = drop place block.insts

-- Each call of a state that is right stands in a block.
abbrev pub last_of : Option Block → Term
last_of None = Unreachable
last_of (Some block) = block.term

abbrev pub frame_of : ProgramData → FrameData → Frame
frame_of p f = record {
  func = f.func;
  block = f.block;
  rest = rest_of f.place (block_in p f.func f.block);
  last = last_of (block_in p f.func f.block);
  args = f.args;
  results = f.results;
  next = f.next;
  allocas = f.allocas;
}

abbrev pub frames_of : ProgramData → Option StackData → List Frame
frames_of p None = []
frames_of p (Some s) = frame_of p s.top ∷ map (frame_of p) s.below

-- the state of the definition
abbrev pub state_of : ProgramData → StateModel → StateData
state_of p s = record { frames = frames_of p s.stack; memory = s.memory }
