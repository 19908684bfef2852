-- A run beside that of a reduced program: which of its begun steps the reduced program makes too.
use Rattle.std.specs.Prelude.{◌≡◌, ℕ, zero, suc, ◌-◌, Bool, false, nat_lt, List, [], ◌∷◌, length, drop, Option, Some, None, option_map, option_and_then, if◌then◌else◌}
use Rattle.std.specs.List.{AllZip}
use Rattle.ir_syntax.specs.declared.symbol.Sym.{Sym}
use Rattle.ir_syntax.specs.declared.symbol.SymName.{SymName}
use Rattle.ir_syntax.specs.declared.body.Inst.{Inst}
use Rattle.ir_syntax.specs.Programs.{ProgramData}
use Rattle.ir_syntax.specs.Symbols.{item_at, symbol_name, IsDefinedFunction}
use Rattle.ir_steps.specs.States.{Frame}
use Rattle.session_runs.specs.declared.session.Root.{Root}
use Rattle.session_runs.specs.declared.session.Session.{Session}
use Rattle.session_runs.specs.declared.session.Event.{Event}
use Rattle.session_runs.specs.declared.session.Phase.{Phase}
use Rattle.session_runs.specs.declared.session.Phase.TheVariants as phase
use Rattle.session_runs.specs.Runs.{Moment, is_running, moment}
use Rattle.session_runs.specs.Runs as runs

-- How a reduced program reads the calls that are running: each is of a kind.
pub record View (K : Type 0) : Type 0 where
  pub of_root : Root → K
  -- from the caller's kind, by which call, of which function
  pub of_call : K → Inst → Sym → K
  -- whether the instruction or the terminator at hand is left
  pub stays : K → Frame → Bool

-- A run so far, the kinds of its calls from the innermost on, how many steps were begun, and how many of these stay.
pub record Followed (K : Type 0) : Type 0 where
  pub at : Moment
  pub kinds : List K
  pub begun : ℕ
  pub kept : ℕ

-- ---- the kinds behind a step

-- the kind of a root that was entered, where one was
abbrev pub root_kinds : {K : Type 0} → View K → List Root → List K
root_kinds v [] = []
root_kinds v (root ∷ roots) = v.of_root root ∷ []

-- A call runs the instruction at its caller's head.
abbrev pub called_kinds : {K : Type 0} → View K → List K → List Inst → List Frame → List K
called_kinds v [] insts frames = []
called_kinds v (k ∷ kinds) [] frames = []
called_kinds v (k ∷ kinds) (i ∷ insts) [] = []
called_kinds v (k ∷ kinds) (i ∷ insts) (f ∷ frames) = v.of_call k i f.func ∷ k ∷ kinds

abbrev pub deeper_kinds : {K : Type 0} → View K → List K → List Frame → List Frame → List K
deeper_kinds v kinds [] after = []
deeper_kinds v kinds (f ∷ below) after = called_kinds v kinds f.rest after

-- There is one call more, or as many, or fewer.
abbrev pub kinds_by : {K : Type 0} → View K → List K → List Frame → List Frame → List K
kinds_by v kinds before after = if nat_lt (length before) (length after) then deeper_kinds v kinds before after else drop (length before - length after) kinds

-- Where there are fewer roots to come, the first of those that were to come has been entered.
abbrev pub kinds_after : {K : Type 0} → View K → List K → Moment → Moment → List K
kinds_after v kinds x y = if nat_lt (length y.roots) (length x.roots) then root_kinds v x.roots else kinds_by v kinds x.state.frames y.state.frames

-- ---- which steps stay

abbrev pub stays : {K : Type 0} → View K → List K → List Frame → Bool
stays v [] frames = false
stays v (k ∷ kinds) [] = false
stays v (k ∷ kinds) (f ∷ frames) = v.stays k f

abbrev pub step_followed : {K : Type 0} → View K → Followed K → Moment → Followed K
step_followed v x y = record {
  at = y;
  kinds = kinds_after v x.kinds x.at y;
  begun = suc x.begun;
  kept = if stays v x.kinds x.at.state.frames then suc x.kept else x.kept;
}

-- a run that is at an end, or waits, begins no step
abbrev pub goes_followed : {K : Type 0} → View K → ProgramData → Followed K → Option (Followed K)
goes_followed v p x = if is_running x.at.phase then option_map (step_followed v x) (runs.begun p x.at) else Some x

abbrev pub starts_followed : {K : Type 0} → View K → Session → Moment → Followed K
starts_followed v s x = record { at = x; kinds = root_kinds v s.roots; begun = 0; kept = 0 }

-- nothing from the step on that is undefined
abbrev pub defined : {K : Type 0} → Followed K → Phase → Option (Followed K)
defined x phase.Running = Some x
defined x (phase.Waiting name) = Some x
defined x phase.Finished = Some x
defined x (phase.Exited n) = Some x
defined x phase.Aborted = Some x
defined x (phase.Undefined why) = None

-- The run after at most so many begun steps, in which no undefined behaviour was met.
abbrev pub follow : {K : Type 0} → View K → ProgramData → Session → ℕ → Option (Followed K)
follow v p s zero = option_map (starts_followed v s) (moment p s 0)
follow v p s (suc n) = option_and_then (λ y. defined y y.at.phase) (option_and_then (goes_followed v p) (follow v p s n))

-- ---- agreement

-- The functions have one name, and the other one has a body. Both calls give the same numbers.
pub record IsSameRoot (p w : ProgramData) (root other : Root) : Type 0 where
  pub name : SymName
  pub is : symbol_name p.modules root.func ≡ Some name
  pub other_is : symbol_name w.modules other.func ≡ Some name
  pub defined : IsDefinedFunction (item_at w.modules other.func)
  pub args : other.args ≡ root.args

-- the same session for the other program
pub record IsSameSession (p w : ProgramData) (s t : Session) : Type 0 where
  pub roots : AllZip (IsSameRoot p w) s.roots t.roots
  pub replies : t.replies ≡ s.replies

-- what the outside can tell: the trace and the phase
pub record Seen : Type 0 where
  pub trace : List Event
  pub phase : Phase

abbrev pub seen : Moment → Seen
seen x = record { trace = x.trace; phase = x.phase }

-- After any number of steps in which the program meets no undefined behaviour, the outside sees the same of the reduced one after those that stay.
abbrev pub AgreeOn : {K : Type 0} → View K → ProgramData → ProgramData → Session → Session → Type 0
AgreeOn {K} v p w s t = (n : ℕ) (x : Followed K) → follow v p s n ≡ Some x → option_map seen (moment w t x.kept) ≡ Some (seen x.at)

-- There is a same session for the reduced program, and they agree on it.
abbrev pub Agree : {K : Type 0} → View K → ProgramData → ProgramData → Session → Type 0
Agree v p w s = (t : Session) × IsSameSession p w s t × AgreeOn v p w s t
