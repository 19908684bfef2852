-- A run of a session: the roots are called one after another, and calls outside take the replies in their order.
use Rattle.std.specs.Prelude.{ℕ, zero, suc, ◌+◌, Bool, true, false, List, [], ◌∷◌, ◌++◌, Option, Some, None, option_map, option_and_then, if◌then◌else◌}
use Rattle.ir_syntax.specs.Programs.{ProgramData}
use Rattle.block_memory.specs.Answers.{Answer, Gives, Undefined, Stuck}
use Rattle.ir_steps.specs.declared.session.Reply.{Reply}
use Rattle.ir_steps.specs.declared.session.Wanted.{Wanted}
use Rattle.ir_steps.specs.declared.session.Stepped.{Stepped}
use Rattle.ir_steps.specs.declared.session.Stepped.TheVariants as stepped
use Rattle.ir_steps.specs.States.{StateData}
use Rattle.ir_steps.specs.Results.{Next, state}
use Rattle.ir_steps.specs.Steps.{start, enter, step}
use Rattle.session_runs.specs.declared.session.Root.{Root}
use Rattle.session_runs.specs.declared.session.Session.{Session}
use Rattle.session_runs.specs.declared.session.Event.{Event}
use Rattle.session_runs.specs.declared.session.Event.TheVariants as event
use Rattle.session_runs.specs.declared.session.Phase.{Phase}
use Rattle.session_runs.specs.declared.session.Phase.TheVariants as phase
use Rattle.session_runs.specs.declared.session.Run.{Run}
use Rattle.session_runs.specs.Events.{exit_call, abort_call}

-- A run so far: the program's state, the roots and the replies that are still to come, the trace, the phase, and how many steps were
-- completed.
pub record Moment : Type 0 where
  pub state : StateData
  pub roots : List Root
  pub replies : List Reply
  pub trace : List Event
  pub phase : Phase
  pub steps : ℕ

abbrev pub is_running : Phase → Bool
is_running phase.Running = true
is_running (phase.Waiting name) = false
is_running phase.Finished = false
is_running (phase.Exited n) = false
is_running phase.Aborted = false
is_running (phase.Undefined why) = false

-- what an answer gives, where it gives something
abbrev pub given : {A : Type 0} → Answer A → Option A
given (Gives x) = Some x
given (Undefined why) = None
given Stuck = None

-- ---- roots

-- The next root is entered, which is no step. Where there is none the run has finished.
abbrev pub enters : ProgramData → Moment → List Root → Option Moment
enters p x [] = Some (record x { roots = []; phase = phase.Finished })
enters p x (root ∷ roots) = option_map (λ s. record x { state = s; roots = roots }) (given (enter p x.state root.func root.args))

-- The first root is entered at the start.
abbrev pub starts : ProgramData → Session → Option Moment
starts p s =
    option_and_then (λ st. enters p (record { state = st; roots = s.roots; replies = s.replies; trace = []; phase = phase.Running; steps = 0 }) s.roots) (given (start p))

-- ---- one step

-- the call that wants a reply, where that is what is at hand
abbrev pub wanted_by : Stepped → Option Wanted
wanted_by stepped.Went = None
wanted_by (stepped.Wants call) = Some call
wanted_by (stepped.Returned value) = None
wanted_by (stepped.Exited n) = None
wanted_by stepped.Aborted = None
wanted_by (stepped.Undefined why) = None

abbrev pub wanted_in : Answer Next → Option Wanted
wanted_in (Gives next) = wanted_by next.0
wanted_in (Undefined why) = None
wanted_in Stuck = None

abbrev pub wanted : ProgramData → Moment → Option Wanted
wanted p x = wanted_in (step p x.state None)

abbrev pub completed : Moment → StateData → Moment
completed x s = record x { state = s; steps = x.steps + 1 }

abbrev pub told : Event → Moment → Moment
told what x = record x { trace = x.trace ++ what ∷ [] }

abbrev pub ended : Phase → Moment → Moment
ended how x = record x { phase = how }

-- A completed step. Directly after one that returns from a root the next root is entered.
abbrev pub after : ProgramData → Moment → StateData → Stepped → Option Moment
after p x s stepped.Went = Some (completed x s)
after p x s (stepped.Wants call) = None
after p x s (stepped.Returned value) = enters p (told (event.Returned value) (completed x s)) x.roots
after p x s (stepped.Exited n) = Some (ended (phase.Exited n) (told (exit_call n) (completed x s)))
after p x s stepped.Aborted = Some (ended phase.Aborted (told abort_call (completed x s)))
after p x s (stepped.Undefined why) = None

-- What came of a step: it was completed, or is undefined.
abbrev pub came : ProgramData → Moment → Answer Next → Option Moment
came p x (Gives next) = after p x next.1 next.0
came p x (Undefined why) = Some (record x { state = state [] x.state.memory; phase = phase.Undefined why })
came p x Stuck = None

-- A call that wants a reply takes the next one and stands in the trace with it; without one the run waits.
abbrev pub replied : ProgramData → Moment → Wanted → List Reply → Option Moment
replied p x call [] = Some (ended (phase.Waiting call.name) x)
replied p x call (r ∷ replies) = came p (told (event.Asked call r) (record x { replies = replies })) (step p x.state (Some r))

abbrev pub begun_with : ProgramData → Moment → Option Wanted → Option Moment
begun_with p x None = came p x (step p x.state None)
begun_with p x (Some call) = replied p x call x.replies

-- a begun step
abbrev pub begun : ProgramData → Moment → Option Moment
begun p x = begun_with p x (wanted p x)

-- ---- runs

-- A run that is at an end, or waits, stays as it is.
abbrev pub goes : ProgramData → Moment → Option Moment
goes p x = if is_running x.phase then begun p x else Some x

-- the run after at most so many begun steps; none of a linked program is stuck
abbrev pub moment : ProgramData → Session → ℕ → Option Moment
moment p s zero = starts p s
moment p s (suc n) = option_and_then (goes p) (moment p s n)

abbrev pub shown_run : Moment → Run
shown_run x = record { trace = x.trace; phase = x.phase; steps = x.steps }

abbrev pub run : ProgramData → Session → ℕ → Option Run
run p s n = option_map shown_run (moment p s n)

-- ---- the calls that want a reply, in their order

abbrev pub call_of : Option Wanted → List Wanted
call_of None = []
call_of (Some call) = call ∷ []

abbrev pub call_at : ProgramData → Option Moment → List Wanted
call_at p None = []
call_at p (Some x) = if is_running x.phase then call_of (wanted p x) else []

-- those of the first begun steps
abbrev pub calls : ProgramData → Session → ℕ → List Wanted
calls p s zero = []
calls p s (suc n) = calls p s n ++ call_at p (moment p s n)
