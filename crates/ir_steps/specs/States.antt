-- The state of a running program: its calls and its memory.
use Rattle.std.specs.Prelude.{ℕ, List, Option, option_and_then, slice_get}
use Rattle.ir_syntax.specs.declared.symbol.Sym.{Sym}
use Rattle.ir_syntax.specs.declared.body.Inst.{Inst}
use Rattle.ir_syntax.specs.declared.body.Term.{Term}
use Rattle.block_memory.specs.declared.value.Val.{Val}
use Rattle.block_memory.specs.Blocks.{MemoryData}

-- A call that hasn't returned: its function, its block, what is left of the block (a call that waits for another keeps that
-- call at the head), its arguments, one slot for each result of its body, the number of the next result, and the numbers of
-- the blocks that its allocas made.
pub record Frame : Type 0 where
  pub func : Sym
  pub block : ℕ
  pub rest : List Inst
  pub last : Term
  pub args : List (Val Sym)
  pub results : List (Option (Val Sym))
  pub next : ℕ
  pub allocas : List ℕ

-- the value of a result, where it is set
abbrev pub slot : List (Option (Val Sym)) → ℕ → Option (Val Sym)
slot results k = option_and_then (λ value. value) (slice_get results k)

-- The calls from the innermost to the root's, and the memory. Where there is no call, none is running.
pub record StateData : Type 0 where
  pub frames : List Frame
  pub memory : MemoryData

-- A call at an instruction: what is left behind it, the calls below, and the memory.
pub record Point : Type 0 where
  pub frame : Frame
  pub behind : List Inst
  pub below : List Frame
  pub memory : MemoryData
