-- The walk of a `getelementptr` in one pass over its indices.
use Rattle.std.specs.Prelude.{ℤ, pos, ◌+ℤ◌, zero, List, [], ◌∷◌, Option, Some, None, option_map}
use Rattle.ir_types.specs.declared.scalar.Scalar.{Scalar}
use Rattle.ir_types.specs.declared.shape.Ty.{Ty}
use Rattle.ir_types.specs.declared.shape.Stride.TheVariants.{Each}
use Rattle.ir_types.specs.Layout.{size}
use Rattle.ir_types.specs.Walk.{part, stride}
use Rattle.ir_syntax.specs.declared.constant.Operand.{Operand}
use Rattle.ir_syntax.specs.IndexWalks.{index_of}
use Rattle.ir_syntax.specs.Programs.{ProgramData}
use Rattle.block_memory.specs.Answers.{Answer, Gives, and_then, or_stuck}
use Rattle.ir_steps.specs.States.{Frame}
use Rattle.ir_steps.specs.Operands.{value}
use Rattle.ir_steps.specs.Pointers.{wrapped, moves, added}

-- what one index within a type moves an address by
abbrev pub moved_at : ProgramData → Frame → Ty → Scalar × Operand → Answer (Option ℤ)
moved_at p f ty index = and_then (λ x. and_then (moves index.0 x) (or_stuck (stride ty (index_of index)))) (value p f index.1)

-- what indices move it by, each within the part that the one before it entered
abbrev pub moved_within : ProgramData → Frame → Ty → List (Scalar × Operand) → Answer (Option ℤ)
moved_within p f ty [] = Gives (Some (pos zero))
moved_within p f ty (index ∷ more) =
    and_then (λ one. and_then (λ inner. and_then (λ rest. Gives (added one rest)) (moved_within p f inner more)) (or_stuck (part ty (index_of index)))) (moved_at p f ty index)

-- the first of which steps over whole values of the type
abbrev pub moved_along : ProgramData → Frame → Ty → List (Scalar × Operand) → Answer (Option ℤ)
moved_along p f ty [] = Gives (Some (pos zero))
moved_along p f ty (index ∷ more) =
    and_then (λ one. and_then (λ rest. Gives (added one rest)) (moved_within p f ty more)) (and_then (λ x. moves index.0 x (Each (size ty))) (value p f index.1))

-- ---- numbers that wrap

abbrev pub wrapped_option : Option ℤ → Option ℤ
wrapped_option by = option_map wrapped by

abbrev pub sum_of : Option ℤ → Option ℤ → Option ℤ
sum_of None b = None
sum_of (Some a) None = None
sum_of (Some a) (Some b) = Some (wrapped (a +ℤ b))
