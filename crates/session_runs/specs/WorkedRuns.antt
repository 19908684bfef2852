-- Runs that are worked by hand, of the programs of `ir_steps`.
use Rattle.std.specs.Prelude.{ℕ, false, codes, List, [], ◌∷◌, Option, Some, None}
use Rattle.ir_types.specs.declared.scalar.Scalar.TheVariants.{I32, I64, Ptr}
use Rattle.ir_types.specs.declared.scalar.FnType.{FnType}
use Rattle.ir_syntax.specs.Programs.{ProgramData}
use Rattle.block_memory.specs.declared.value.Val.TheVariants as val
use Rattle.ir_steps.specs.declared.session.Reply.{Reply}
use Rattle.ir_steps.specs.declared.session.Wanted.{Wanted}
use Rattle.ir_steps.specs.WorkedPrograms.{type}
use Rattle.session_runs.specs.declared.session.Root.{Root}
use Rattle.session_runs.specs.declared.session.Session.{Session}
use Rattle.session_runs.specs.declared.session.Event.{Event}
use Rattle.session_runs.specs.declared.session.Event.TheVariants as event
use Rattle.session_runs.specs.declared.session.Phase.{Phase}
use Rattle.session_runs.specs.declared.session.Run.{Run}

abbrev pub entry_with : ProgramData → List ℕ → Root
entry_with p args = record { func = p.entry; args = args }

-- the entry is called once, and twice
abbrev pub once : ProgramData → List ℕ → List Reply → Session
once p args replies = record { roots = entry_with p args ∷ []; replies = replies }

abbrev pub twice : ProgramData → List Reply → Session
twice p replies = record { roots = entry_with p [] ∷ entry_with p [] ∷ []; replies = replies }

abbrev pub shows : List Event → Phase → ℕ → Option Run
shows trace how steps = Some (record { trace = trace; phase = how; steps = steps })

abbrev pub returned : ℕ → Event
returned n = event.Returned (Some (val.Num n))

-- a call outside with one number
abbrev pub asks : List ℕ → FnType → ℕ → Wanted
asks name fn_ty n = record { name = name; fn_ty = fn_ty; args = record { value = val.Num n; block = None; writable = false } ∷ [] }

abbrev pub ask_five : Wanted
ask_five = asks (codes "ask") (type (I32 ∷ []) (Some I32)) 5

abbrev pub malloc_four : Wanted
malloc_four = asks (codes "malloc") (type (I64 ∷ []) (Some Ptr)) 4
