-- The line that says how a run of an entry ended.
use Rattle.std.specs.Prelude.{ℕ, ◌==◌, List, ◌++◌, codes, Option, None, Some, if◌then◌else◌}
use Rattle.std.specs.Fmt.{decimal, signed_decimal}
use Rattle.ir_types.specs.declared.scalar.Scalar.{Scalar}
use Rattle.ir_types.specs.declared.scalar.Scalar.TheVariants.{I1, I8, I16, I32, I64, Ptr}
use Rattle.ir_types.specs.Scalars.{signed_value}
use Rattle.ir_syntax.specs.declared.symbol.SymName.{SymName}
use Rattle.ir_writer.specs.Names.{name_text}
use Rattle.int_ops.specs.declared.cause.Cause.{Cause}
use Rattle.int_ops.specs.declared.cause.Cause.TheVariants as cause
use Rattle.block_memory.specs.declared.value.Val.{Val}
use Rattle.block_memory.specs.declared.value.Val.TheVariants as val
use Rattle.session_runs.specs.declared.session.Phase.{Phase}
use Rattle.session_runs.specs.declared.session.Phase.TheVariants as phase
use Rattle.program_runner.specs.declared.ended.Ended.{Ended}

-- ---- values

-- a number as a module writes it: `true` and `false` of i1, and of the others a signed decimal
abbrev pub number_text : Scalar → ℕ → List ℕ
number_text I1 n = if n == 0 then codes "false" else codes "true"
number_text I8 n = signed_decimal (signed_value I8 n)
number_text I16 n = signed_decimal (signed_value I16 n)
number_text I32 n = signed_decimal (signed_value I32 n)
number_text I64 n = signed_decimal (signed_value I64 n)
number_text Ptr n = decimal n

-- An entry returns no pointer.
abbrev pub typed_text : Scalar → Val SymName → List ℕ
typed_text ty (val.Num n) = number_text ty n
typed_text ty val.Null = codes "null"
typed_text ty (val.At of offset) = codes "pointer"
typed_text ty val.Poison = codes "poison"

abbrev pub value_text : Option Scalar → Option (Val SymName) → List ℕ
value_text None value = codes "void"
value_text (Some ty) None = codes "void"
value_text (Some ty) (Some value) = typed_text ty value

-- ---- causes

abbrev pub cause_word : Cause → List ℕ
cause_word cause.DivideByZero = codes "divide-by-zero"
cause_word cause.DivideOverflow = codes "divide-overflow"
cause_word cause.BranchOnPoison = codes "branch-on-poison"
cause_word cause.PoisonAddress = codes "poison-address"
cause_word cause.NullAddress = codes "null-address"
cause_word cause.NotBytes = codes "not-bytes"
cause_word cause.EndedBlock = codes "ended-block"
cause_word cause.OutsideBlock = codes "outside-block"
cause_word cause.Misaligned = codes "misaligned"
cause_word cause.ReadOnly = codes "read-only"
cause_word cause.PoisonLength = codes "poison-length"
cause_word cause.Overlap = codes "overlap"
cause_word cause.BadCall = codes "bad-call"
cause_word cause.CallType = codes "call-type"
cause_word cause.PoisonToOutside = codes "poison-to-outside"
cause_word cause.Incomparable = codes "incomparable"
cause_word cause.BadFree = codes "bad-free"
cause_word cause.BadReply = codes "bad-reply"
cause_word cause.Unreachable = codes "unreachable"

-- ---- the line

abbrev pub phase_text : Ended → Phase → List ℕ
phase_text e phase.Running = codes "running"
phase_text e (phase.Waiting name) = codes "waiting " ++ name_text name
phase_text e phase.Finished = codes "returned " ++ value_text e.ty e.value
phase_text e (phase.Exited n) = codes "exited " ++ signed_decimal (signed_value I32 n)
phase_text e phase.Aborted = codes "aborted"
phase_text e (phase.Undefined why) = codes "undefined " ++ cause_word why

-- what has come of the run, and ` steps=K`
abbrev pub ended_line : Ended → List ℕ
ended_line e = phase_text e e.phase ++ (codes " steps=" ++ (decimal e.steps ++ codes "\n"))
