-- Frames behind an instruction, as the code leaves them.
use Rattle.std.specs.Prelude.{ℕ, suc, ◌+◌, List, [], ◌∷◌, ◌++◌, slice_set, Some}
use Rattle.ir_syntax.specs.declared.symbol.Sym.{Sym}
use Rattle.block_memory.specs.declared.value.Val.{Val}
use Rattle.ir_steps.specs.Branches.{set_from}
use Rattle.ir_meaning.specs.Models.{FrameData}

abbrev pub passed : FrameData → FrameData
passed f = record f { place = suc f.place }

abbrev pub passed_with : FrameData → Val Sym → FrameData
passed_with f value = record f { place = suc f.place; results = slice_set f.results f.next (Some value); next = suc f.next }

-- at the head of a block, where so many phis have these values, the first of which is the result of this number
abbrev pub at_block : FrameData → ℕ → ℕ → ℕ → List (Val Sym) → FrameData
at_block f block first phis values = record f { block = block; place = 0; results = set_from first values f.results; next = first + phis }

abbrev pub owning : FrameData → ℕ → FrameData
owning f number = record f { allocas = f.allocas ++ number ∷ [] }
