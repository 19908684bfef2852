-- The calls of a running program as the code keeps them, the root's first.
use Rattle.std.specs.Prelude.{suc, List, ◌∷◌, map, reverse, Option, option_map}
use Rattle.ir_syntax.specs.Programs.{ProgramData}
use Rattle.block_memory.specs.Blocks.{MemoryData}
use Rattle.ir_steps.specs.States.{Frame, Point}
use Rattle.ir_meaning.specs.declared.stack.Stack.{Stack}
use Rattle.ir_meaning.specs.Models.{StackData, rest_of, block_in, frame_of}

abbrev pub below_of : ProgramData → Stack → List Frame
below_of p s = map (frame_of p) (reverse s.below.items)

abbrev pub stack_of : ProgramData → Stack → List Frame
stack_of p s = frame_of p s.top ∷ below_of p s

-- the innermost call at its instruction
abbrev pub point_of : ProgramData → Stack → MemoryData → Point
point_of p s mem = record { frame = frame_of p s.top; behind = rest_of (suc s.top.place) (block_in p s.top.func s.top.block); below = below_of p s; memory = mem }

-- the calls as the state's model has them
abbrev pub kept : Option Stack → Option StackData
kept stack = option_map (λ s. record { top = s.top; below = reverse s.below.items }) stack
