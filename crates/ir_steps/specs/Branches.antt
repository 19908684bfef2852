-- Branches (LLVM Language Reference Manual, "'br' Instruction", "'switch' Instruction", "'phi' Instruction"). The phis of a block belong to the
-- branch that enters it: all are read before any is set.
use Rattle.std.specs.Prelude.{ℕ, suc, ◌+◌, ◌==◌, nat_le, List, [], ◌∷◌, length, take, map, sum, slice_get, slice_set, Option, Some, None, if◌then◌else◌}
use Rattle.ir_syntax.specs.declared.symbol.Sym.{Sym}
use Rattle.ir_syntax.specs.declared.constant.Operand.{Operand}
use Rattle.ir_syntax.specs.declared.body.Phi.{Phi}
use Rattle.ir_syntax.specs.declared.body.Block.{Block}
use Rattle.ir_syntax.specs.declared.body.Body.{Body}
use Rattle.ir_syntax.specs.Results.{block_results}
use Rattle.ir_syntax.specs.Programs.{ProgramData}
use Rattle.int_ops.specs.declared.cause.Cause.TheVariants as cause
use Rattle.block_memory.specs.declared.value.Val.{Val}
use Rattle.block_memory.specs.declared.value.Val.TheVariants as val
use Rattle.block_memory.specs.Answers.{Answer, Gives, Undefined, Stuck, and_then, or_stuck}
use Rattle.ir_steps.specs.States.{Frame, Point}
use Rattle.ir_steps.specs.Operands.{value}
use Rattle.ir_steps.specs.Results.{Next, went}
use Rattle.ir_steps.specs.Calls.{body_of}

-- ---- phis

-- The operand of the entry for the block that the edge comes from. Where several edges come from one block, their entries are equal.
abbrev pub entry_for : ℕ → List (Operand × ℕ) → Option Operand
entry_for from [] = None
entry_for from (e ∷ es) = if e.1 == from then Some e.0 else entry_for from es

abbrev pub phi_value : ProgramData → Frame → Phi → Answer (Val Sym)
phi_value p f phi = and_then (value p f) (or_stuck (entry_for f.block phi.entries))

abbrev pub phi_values : ProgramData → Frame → List Phi → Answer (List (Val Sym))
phi_values p f [] = Gives []
phi_values p f (phi ∷ more) = and_then (λ x. and_then (λ xs. Gives (x ∷ xs)) (phi_values p f more)) (phi_value p f phi)

-- results from a number on, set to these values
abbrev pub set_from : ℕ → List (Val Sym) → List (Option (Val Sym)) → List (Option (Val Sym))
set_from k [] results = results
set_from k (x ∷ xs) results = set_from (suc k) xs (slice_set results k (Some x))

-- ---- blocks

-- the number of a block's first result
abbrev pub first_result : Body → ℕ → ℕ
first_result body place = sum (map (λ block. length (block_results block)) (take place body.blocks))

abbrev pub entered : Frame → ℕ → ℕ → Block → List (Val Sym) → Frame
entered f to first block xs =
    record f { block = to; rest = block.insts; last = block.term; results = set_from first xs f.results; next = first + length block.phis }

-- each phi wants a slot
abbrev pub enters : Frame → ℕ → ℕ → Block → List (Val Sym) → Answer Frame
enters f to first block xs = if nat_le (first + length block.phis) (length f.results) then Gives (entered f to first block xs) else Stuck

abbrev pub enters_block : ProgramData → Frame → ℕ → Body → Answer Frame
enters_block p f to body = and_then (λ block. and_then (enters f to (first_result body to) block) (phi_values p f block.phis)) (or_stuck (slice_get body.blocks to))

abbrev pub branch : ProgramData → Point → ℕ → Answer Next
branch p at to = and_then (λ f. Gives (went (f ∷ at.below) at.memory)) (and_then (enters_block p at.frame to) (or_stuck (body_of p at.frame.func)))

-- ---- which block

abbrev pub poison_branch : Answer ℕ
poison_branch = Undefined cause.BranchOnPoison

abbrev pub chosen : ℕ → ℕ → Val Sym → Answer ℕ
chosen one other (val.Num n) = Gives (if n == 0 then other else one)
chosen one other val.Null = Stuck
chosen one other (val.At of offset) = Stuck
chosen one other val.Poison = poison_branch

abbrev pub case_for : ℕ → List (ℕ × ℕ) → ℕ → ℕ
case_for n [] default = default
case_for n (c ∷ cs) default = if c.0 == n then c.1 else case_for n cs default

abbrev pub switched : ℕ → List (ℕ × ℕ) → Val Sym → Answer ℕ
switched default cases (val.Num n) = Gives (case_for n cases default)
switched default cases val.Null = Stuck
switched default cases (val.At of offset) = Stuck
switched default cases val.Poison = poison_branch
