-- The state of a running program: its frames and its memory.
use Rattle.std.specs.Prelude.{ℕ, Bool, nat_eq, List, [], ◌∷◌, Option, Some, None, if◌then◌else◌}
use Rattle.ir_syntax.specs.declared.symbol.Sym.{Sym}
use Rattle.ir_syntax.specs.declared.body.Inst.{Inst}
use Rattle.ir_syntax.specs.declared.body.Term.{Term}
use Rattle.straight_meaning.specs.declared.value.Name.{Name}
use Rattle.straight_meaning.specs.declared.value.Val.{Val}
use Rattle.straight_meaning.specs.declared.value.Part.{Part}

-- what registers and arguments hold
abbrev pub Value : Type 0
Value = Val Sym

-- A register that is set: the number of the result, and its value.
abbrev pub Register : Type 0
Register = ℕ × Value

-- the value of a register: the registers that are set are listed from the last one back
abbrev pub register : ℕ → List Register → Option Value
register k [] = None
register k (r ∷ rs) = if nat_eq r.0 k then Some r.1 else register k rs

-- A call that hasn't returned: the place of its function, what is left of its block, its arguments, the registers
-- that are set, the number of the next result, and the numbers of the blocks that its allocas made.
pub record Frame : Type 0 where
  pub func : ℕ
  pub rest : List Inst
  pub last : Term
  pub args : List Value
  pub registers : List Register
  pub next : ℕ
  pub allocas : List ℕ

-- A block of memory: its bytes, whether it hasn't ended, may be written, and came from the heap.
pub record MemoryBlock : Type 0 where
  pub parts : List (Part Sym)
  pub live : Bool
  pub writable : Bool
  pub heap : Bool

-- The blocks by their names, and how many were made.
pub record Memory : Type 0 where
  pub blocks : List (Name Sym × MemoryBlock)
  pub made : ℕ

-- The frames from the innermost call to the root's, and the memory.
pub record State : Type 0 where
  pub frames : List Frame
  pub memory : Memory
