-- A run on its way as the code keeps it, and what its calls do.
use Rattle.std.specs.Prelude.{◌≡◌, ◌≢◌, true, List, [], ◌∷◌, All, Option, Some, None}
use Rattle.ir_syntax.specs.Programs.{ProgramData}
use Rattle.ir_steps.specs.declared.session.Reply.{Reply}
use Rattle.ir_steps.specs.declared.session.Wanted.{Wanted}
use Rattle.ir_steps.specs.declared.session.Stepped.{Stepped}
use Rattle.ir_steps.specs.declared.session.Stepped.TheVariants as stepped
use Rattle.ir_steps.specs.States.{StateData}
use Rattle.ir_steps.specs.Reached.{IsRoot}
use Rattle.ir_meaning.specs.Models.{state_of}
use Rattle.ir_meaning.specs.Kept.{IsStateOf}
use Rattle.session_runs.specs.declared.session.Root.{Root}
use Rattle.session_runs.specs.declared.session.Phase.TheVariants as phase
use Rattle.session_runs.specs.declared.progress.Progress.{Progress}
use Rattle.session_runs.specs.Runs.{Moment, is_running, wanted, after, ended, begun}

-- the moment that it stands for, where these replies are still to come
abbrev pub standing : ProgramData → Progress → List Reply → Moment
standing p q replies = record { state = state_of p q.state; roots = q.roots.now; replies = replies; trace = q.trace; phase = q.phase; steps = q.steps }

-- The roots that are still to come can be called.
abbrev pub AreRoots : ProgramData → List Root → Type 0
AreRoots p roots = All (λ root. IsRoot p root.func root.args) roots

-- A call is running while the run is.
pub record IsGoing (p : ProgramData) (q : Progress) : Type 0 where
  pub state : IsStateOf p q.state
  pub roots : AreRoots p q.roots.now
  pub calls : is_running q.phase ≡ true → (state_of p q.state).frames ≢ []

-- Each of these stands for the same, whatever replies are still to come.

-- a step is at hand that wants no reply, or this call
abbrev pub Wants : ProgramData → Progress → Option Wanted → Type 0
Wants p q call = (replies : List Reply) → wanted p (standing p q replies) ≡ call

-- a begun step without a reply
abbrev pub Begins : ProgramData → Progress → Option Wanted → Progress → Type 0
Begins p q None r = (replies : List Reply) → begun p (standing p q replies) ≡ Some (standing p r replies)
Begins p q (Some call) r = (replies : List Reply) → standing p r replies ≡ standing p q replies

-- one with the reply to the call at hand
abbrev pub Replies : ProgramData → Progress → Reply → Progress → Type 0
Replies p q reply r = (replies : List Reply) → begun p (standing p q (reply ∷ replies)) ≡ Some (standing p r replies)

abbrev pub Waits : ProgramData → Wanted → Progress → Progress → Type 0
Waits p call q r = (replies : List Reply) → standing p r replies ≡ ended (phase.Waiting call.name) (standing p q replies)

-- what stands behind a step, where a call is running or none is
abbrev pub IsBehind : StateData → Stepped → Type 0
IsBehind s stepped.Went = s.frames ≢ []
IsBehind s (stepped.Wants call) = ⊥
IsBehind s (stepped.Returned value) = s.frames ≡ []
IsBehind s (stepped.Exited n) = Unit {0}
IsBehind s stepped.Aborted = Unit {0}
IsBehind s (stepped.Undefined why) = Unit {0}

-- The step that led to the moment is completed, or is undefined.
abbrev pub CompletesAt : ProgramData → Moment → Stepped → Moment → Type 0
CompletesAt p x stepped.Went y = after p x x.state stepped.Went ≡ Some y
CompletesAt p x (stepped.Wants call) y = ⊥
CompletesAt p x (stepped.Returned value) y = after p x x.state (stepped.Returned value) ≡ Some y
CompletesAt p x (stepped.Exited n) y = after p x x.state (stepped.Exited n) ≡ Some y
CompletesAt p x stepped.Aborted y = after p x x.state stepped.Aborted ≡ Some y
CompletesAt p x (stepped.Undefined why) y = y ≡ ended (phase.Undefined why) x

abbrev pub Completes : ProgramData → Progress → Stepped → Progress → Type 0
Completes p q a r = (replies : List Reply) → CompletesAt p (standing p q replies) a (standing p r replies)
