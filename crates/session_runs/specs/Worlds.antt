-- Worlds that answer the calls of a run, and what a play takes them through. A world's `answers` says what an answer may be and what it
-- leaves; its `breaks` says what a failure leaves.
use Rattle.std.specs.Prelude.{◌≡◌, ◌⊎◌, ℕ, ◌≤◌, List, [], ◌∷◌, ◌++◌, map, Option, Some, None}
use Rattle.ir_syntax.specs.Programs.{ProgramData}
use Rattle.ir_steps.specs.declared.session.Reply.{Reply}
use Rattle.ir_steps.specs.declared.session.Wanted.{Wanted}
use Rattle.session_runs.specs.declared.session.Root.{Root}
use Rattle.session_runs.specs.declared.session.Session.{Session}
use Rattle.session_runs.specs.declared.session.Phase.{Phase}
use Rattle.session_runs.specs.declared.session.Phase.TheVariants as phase
use Rattle.session_runs.specs.declared.world.WorldFault.{WorldFault}
use Rattle.session_runs.specs.declared.world.WorldFault.TheVariants as fault
use Rattle.session_runs.specs.Runs.{calls}

-- The world is asked these calls one after another, gives these answers, and is then so.
abbrev pub Answered : {W : Type 0} → (W → Wanted → Option Reply → W → Type 0) → W → List Wanted → List (Option Reply) → W → Type 0
Answered answers w [] [] u = w ≡ u
Answered answers w [] (a ∷ more) u = ⊥
Answered answers w (call ∷ rest) [] u = ⊥
Answered {W} answers w (call ∷ rest) (a ∷ more) u = (v : W) × answers w call a v × Answered answers v rest more u

-- the replies among answers
abbrev pub replies_among : List (Option Reply) → List Reply
replies_among [] = []
replies_among (None ∷ answers) = replies_among answers
replies_among (Some r ∷ answers) = r ∷ replies_among answers

abbrev pub session : List Root → List Reply → Session
session roots replies = record { roots = roots; replies = replies }

-- ---- a play that comes to an end

-- a run that waits was answered with nothing last
abbrev pub last_answer : Phase → List (Option Reply)
last_answer phase.Running = []
last_answer (phase.Waiting name) = None ∷ []
last_answer phase.Finished = []
last_answer (phase.Exited n) = []
last_answer phase.Aborted = []
last_answer (phase.Undefined why) = []

-- the answers of a play: its replies, and nothing where it waits in the end
abbrev pub answers_in : List Reply → Phase → List (Option Reply)
answers_in replies how = map (λ r. Some r) replies ++ last_answer how

-- ---- a play that fails

-- These answers were given to the first calls of the run of at most n steps that they make, one after another.
pub record Stops {W : Type 0} (answers : W → Wanted → Option Reply → W → Type 0) (p : ProgramData) (roots : List Root) (n : ℕ) (w u : W) : Type 0 where
  pub given : List (Option Reply)
  pub at : ℕ
  pub within : at ≤ n
  pub answered : Answered answers w (calls p (session roots (replies_among given)) at) given u

-- The same, and the world failed at the next call.
pub record Breaks {W : Type 0} (answers : W → Wanted → Option Reply → W → Type 0) (breaks : W → Wanted → W → Type 0) (p : ProgramData) (roots : List Root) (n : ℕ)
    (w u : W) : Type 0 where
  pub given : List (Option Reply)
  pub at : ℕ
  pub within : at ≤ n
  pub before : List Wanted
  pub call : Wanted
  pub are : calls p (session roots (replies_among given)) at ≡ before ++ call ∷ []
  pub until : W
  pub answered : Answered answers w before given until
  pub broke : breaks until call u

-- Want of memory is the world's or the play's own; every other failure is the world's.
abbrev pub Fails : {W : Type 0} → (W → Wanted → Option Reply → W → Type 0) → (W → Wanted → W → Type 0) → ProgramData → List Root → ℕ → W → W → WorldFault → Type 0
Fails answers breaks p roots n w u fault.Source = Breaks answers breaks p roots n w u
Fails answers breaks p roots n w u fault.Sink = Breaks answers breaks p roots n w u
Fails answers breaks p roots n w u fault.OutOfMemory = Stops answers p roots n w u ⊎ Breaks answers breaks p roots n w u
