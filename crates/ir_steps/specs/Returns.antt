-- Returns (LLVM Language Reference Manual, "'ret' Instruction"). A call's allocas end with it.
use Rattle.std.specs.Prelude.{ℕ, List, [], ◌∷◌, Option, Some, None}
use Rattle.ir_types.specs.declared.scalar.Scalar.{Scalar}
use Rattle.ir_syntax.specs.declared.symbol.Sym.{Sym}
use Rattle.ir_syntax.specs.declared.body.Inst.{Inst}
use Rattle.ir_syntax.specs.declared.body.Inst.TheVariants.{Call}
use Rattle.ir_syntax.specs.Programs.{ProgramData}
use Rattle.block_memory.specs.declared.value.Val.{Val}
use Rattle.block_memory.specs.Answers.{Answer, Gives, Stuck, and_then, or_stuck}
use Rattle.block_memory.specs.Blocks.{MemoryData}
use Rattle.block_memory.specs.Making.{end}
use Rattle.ir_steps.specs.declared.session.Stepped.TheVariants as stepped
use Rattle.ir_steps.specs.States.{Frame, Point}
use Rattle.ir_steps.specs.Results.{Next, state, goes_on}
use Rattle.ir_steps.specs.Showing.{shown_value}

abbrev pub end_all : List ℕ → MemoryData → MemoryData
end_all [] mem = mem
end_all (number ∷ more) mem = end_all more (end mem number)

-- A caller goes on behind the call at its head: with the value, or without one where the function returns none.
abbrev pub resumed : Point → Option Scalar → Option (Val Sym) → Answer Next
resumed at None None = goes_on at None
resumed at None (Some x) = Stuck
resumed at (Some ty) None = Stuck
resumed at (Some ty) (Some x) = goes_on at (Some x)

abbrev pub resume : Frame → List Frame → MemoryData → Option (Val Sym) → List Inst → Answer Next
resume f below mem result (Call fn_ty ret_ext callee args ∷ behind) = resumed (record { frame = f; behind = behind; below = below; memory = mem }) fn_ty.returns result
resume f below mem result insts = Stuck

-- the root's value by name
abbrev pub root_returns : ProgramData → MemoryData → Option (Val Sym) → Answer Next
root_returns p mem None = Gives (stepped.Returned None, state [] mem)
root_returns p mem (Some x) = and_then (λ named. Gives (stepped.Returned (Some named), state [] mem)) (or_stuck (shown_value p x))

abbrev pub returns_to : ProgramData → MemoryData → Option (Val Sym) → List Frame → Answer Next
returns_to p mem result [] = root_returns p mem result
returns_to p mem result (f ∷ below) = resume f below mem result f.rest

abbrev pub returns : ProgramData → Point → Option (Val Sym) → Answer Next
returns p at result = returns_to p (end_all at.frame.allocas at.memory) result at.below
