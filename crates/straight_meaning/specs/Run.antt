-- A run of a session: the roots are called one after another.
use Rattle.std.specs.Prelude.{◌≡◌, ℕ, zero, suc, ◌+◌, ◌<◌, ◌^◌, All, Bool, true, false, List, [], ◌∷◌, ◌++◌, map, Option, Some, None, option_map, option_and_then, if◌then◌else◌}
use Rattle.std.specs.List.{AllZip}
use Rattle.ir_types.specs.declared.scalar.Known.{Known}
use Rattle.ir_types.specs.declared.scalar.Known.TheVariants.{Unknown, Num, Null}
use Rattle.ir_syntax.specs.declared.item.Module.{Module}
use Rattle.straight_meaning.specs.declared.value.Val.TheVariants as val
use Rattle.straight_meaning.specs.declared.session.Stepped.{Stepped}
use Rattle.straight_meaning.specs.declared.session.Stepped.TheVariants as stepped
use Rattle.straight_meaning.specs.declared.session.Root.{Root}
use Rattle.straight_meaning.specs.declared.session.Reply.{Reply}
use Rattle.straight_meaning.specs.declared.session.Session.{Session}
use Rattle.straight_meaning.specs.declared.session.Event.{Event}
use Rattle.straight_meaning.specs.declared.session.Event.TheVariants as event
use Rattle.straight_meaning.specs.declared.session.Phase.{Phase}
use Rattle.straight_meaning.specs.declared.session.Phase.TheVariants as phase
use Rattle.straight_meaning.specs.declared.session.Run.{Run}
use Rattle.straight_meaning.specs.State.{Memory, State}
use Rattle.straight_meaning.specs.Step.{Next, call_start, step}

-- A run between two steps: its state, the roots and the replies to come, what the outside has seen, the phase, and
-- how many steps were completed.
pub record Moment : Type 0 where
  pub state : State
  pub roots : List Root
  pub replies : List Reply
  pub trace : List Event
  pub phase : Phase
  pub steps : ℕ

-- The next root is called, which is no step. Where none is left the run is finished.
abbrev pub enter : Module → Memory → List Root → List Reply → List Event → ℕ → Option Moment
enter m memory [] replies trace steps =
    Some (record { state = record { frames = []; memory = memory }; roots = []; replies = replies; trace = trace; phase = phase.Finished; steps = steps })
enter m memory (root ∷ roots) replies trace steps =
    option_map (λ f. record { state = record { frames = f ∷ []; memory = memory }; roots = roots; replies = replies; trace = trace; phase = phase.Running; steps = steps })
    (call_start m root.func.item (map (λ n. val.Num n) root.args))

-- a program of the form has no variables
abbrev pub first_memory : Memory
first_memory = record { blocks = []; made = 0 }

abbrev pub start : Module → Session → Option Moment
start m s = enter m first_memory s.roots s.replies [] 0

-- the moment after a step that ended so
abbrev pub after : Module → Moment → Stepped → State → Option Moment
after m x stepped.Went s = Some (record x { state = s; steps = suc x.steps })
after m x (stepped.Returned v) s = enter m s.memory x.roots x.replies (x.trace ++ event.Returned v ∷ []) (suc x.steps)
after m x other s = None

abbrev pub is_running : Phase → Bool
is_running phase.Running = true
is_running other = false

-- One step more, where the run goes on.
abbrev pub advance : Module → Moment → Option Moment
advance m x = if is_running x.phase then option_and_then (λ (next : Next). after m x next.0 next.1) (step m x.state) else Some x

-- the run of a session after at most n steps; None where no case fits
abbrev pub moment : Module → Session → ℕ → Option Moment
moment m s zero = start m s
moment m s (suc n) = option_and_then (advance m) (moment m s n)

abbrev pub run : Module → Session → ℕ → Option Run
run m s n = option_map (λ x. record { trace = x.trace; phase = x.phase; steps = x.steps }) (moment m s n)

abbrev pub begins : Option Moment → Bool
begins None = false
begins (Some x) = is_running x.phase

-- how many of the first n steps are begun
abbrev pub begun : Module → Session → ℕ → ℕ
begun m s zero = 0
begun m s (suc n) = begun m s n + (if begins (moment m s n) then 1 else 0)

-- An argument is a number of 32 bits; a known one is that number.
abbrev pub SuitsKnown : Known → ℕ → Type 0
SuitsKnown Unknown n = n < 2 ^ 32
SuitsKnown (Num k) n = (n ≡ k) × (n < 2 ^ 32)
SuitsKnown Null n = ⊥

-- A call of the entry with the arguments that are known of it.
pub record IsCallOf (entry : ℕ) (args : List Known) (root : Root) : Type 0 where
  pub home : root.func.«module» ≡ 0
  pub entered : root.func.item ≡ entry
  pub suits : AllZip SuitsKnown args root.args

-- Each root is such a call of the entry.
abbrev pub Conforms : ℕ → List Known → Session → Type 0
Conforms entry args s = All (IsCallOf entry args) s.roots
