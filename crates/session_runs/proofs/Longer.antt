-- A run that doesn't wait is the same where more replies are to come.
use Rattle.std.proofs.Common.{◌≡◌, ◌∙◌, ℕ, zero, suc, Bool, true, false, List, [], ◌∷◌, ◌++◌, Option, Some, None, option_map, option_and_then, refl, sym, ap, subst, true≢false, if◌then◌else◌}
use Rattle.ir_syntax.specs.Programs.{ProgramData}
use Rattle.block_memory.specs.Answers.{Answer, Gives, Undefined, Stuck}
use Rattle.ir_steps.specs.declared.session.Reply.{Reply}
use Rattle.ir_steps.specs.declared.session.Wanted.{Wanted}
use Rattle.ir_steps.specs.declared.session.Stepped.{Stepped}
use Rattle.ir_steps.specs.declared.session.Stepped.TheVariants as stepped
use Rattle.ir_steps.specs.States.{StateData}
use Rattle.ir_steps.specs.Results.{Next}
use Rattle.ir_steps.specs.Steps.{start, enter, step}
use Rattle.session_runs.specs.declared.session.Root.{Root}
use Rattle.session_runs.specs.declared.session.Event.TheVariants as event
use Rattle.session_runs.specs.declared.session.Phase.{Phase}
use Rattle.session_runs.specs.declared.session.Phase.TheVariants as phase
use Rattle.session_runs.specs.Runs.{Moment, is_running, given, enters, starts, wanted, completed, told, after, came, replied, begun_with, begun, goes, moment, call_at, calls}
use Rattle.session_runs.specs.Worlds.{session}

-- the same with more replies behind
abbrev pub longer : List Reply → Moment → Moment
longer more x = record x { replies = x.replies ++ more }

abbrev pub is_waiting : Phase → Bool
is_waiting phase.Running = false
is_waiting (phase.Waiting name) = true
is_waiting phase.Finished = false
is_waiting (phase.Exited n) = false
is_waiting phase.Aborted = false
is_waiting (phase.Undefined why) = false

-- ---- one step

entering : (more : List Reply) (x : Moment) (roots : List Root) (s : Option StateData)
    → option_map (λ t. record (longer more x) { state = t; roots = roots }) s ≡ option_map (longer more) (option_map (λ t. record x { state = t; roots = roots }) s)
entering more x roots None = refl
entering more x roots (Some s) = refl

enters_longer : (p : ProgramData) (more : List Reply) (x : Moment) (roots : List Root) → enters p (longer more x) roots ≡ option_map (longer more) (enters p x roots)
enters_longer p more x [] = refl
enters_longer p more x (root ∷ roots) = entering more x roots (given (enter p x.state root.func root.args))

after_longer : (p : ProgramData) (more : List Reply) (x : Moment) (s : StateData) (a : Stepped) → after p (longer more x) s a ≡ option_map (longer more) (after p x s a)
after_longer p more x s stepped.Went = refl
after_longer p more x s (stepped.Wants call) = refl
after_longer p more x s (stepped.Returned value) = enters_longer p more (told (event.Returned value) (completed x s)) x.roots
after_longer p more x s (stepped.Exited n) = refl
after_longer p more x s stepped.Aborted = refl
after_longer p more x s (stepped.Undefined why) = refl

came_longer : (p : ProgramData) (more : List Reply) (x : Moment) (a : Answer Next) → came p (longer more x) a ≡ option_map (longer more) (came p x a)
came_longer p more x (Gives next) = after_longer p more x next.1 next.0
came_longer p more x (Undefined why) = refl
came_longer p more x Stuck = refl

-- what it comes to doesn't wait
abbrev pub Goes : Option Moment → Type 0
Goes None = Unit {0}
Goes (Some x) = is_waiting x.phase ≡ false

replied_longer : (p : ProgramData) (more : List Reply) (x : Moment) (call : Wanted) (replies : List Reply) → Goes (replied p x call replies)
    → replied p (longer more x) call (replies ++ more) ≡ option_map (longer more) (replied p x call replies)
replied_longer p more x call [] h = absurd (true≢false h)
replied_longer p more x call (r ∷ replies) h = came_longer p more (told (event.Asked call r) (record x { replies = replies })) (step p x.state (Some r))

begun_with_longer : (p : ProgramData) (more : List Reply) (x : Moment) (w : Option Wanted) → Goes (begun_with p x w)
    → begun_with p (longer more x) w ≡ option_map (longer more) (begun_with p x w)
begun_with_longer p more x None h = came_longer p more x (step p x.state None)
begun_with_longer p more x (Some call) h = replied_longer p more x call x.replies h

goes_longer_if : (p : ProgramData) (more : List Reply) (x : Moment) (b : Bool) → Goes (if b then begun p x else Some x)
    → (if b then begun p (longer more x) else Some (longer more x)) ≡ option_map (longer more) (if b then begun p x else Some x)
goes_longer_if p more x true h = begun_with_longer p more x (wanted p x) h
goes_longer_if p more x false h = refl

goes_longer : (p : ProgramData) (more : List Reply) (x : Moment) → Goes (goes p x) → goes p (longer more x) ≡ option_map (longer more) (goes p x)
goes_longer p more x h = goes_longer_if p more x (is_running x.phase) h

-- ---- the start

starts_longer_from : (p : ProgramData) (roots : List Root) (replies more : List Reply) (s : Option StateData)
    → option_and_then (λ st. enters p (record { state = st; roots = roots; replies = replies ++ more; trace = []; phase = phase.Running; steps = 0 }) roots) s
    ≡ option_map (longer more) (option_and_then (λ st. enters p (record { state = st; roots = roots; replies = replies; trace = []; phase = phase.Running; steps = 0 }) roots) s)
starts_longer_from p roots replies more None = refl
starts_longer_from p roots replies more (Some st) = enters_longer p more (record { state = st; roots = roots; replies = replies; trace = []; phase = phase.Running; steps = 0 }) roots

starts_longer : (p : ProgramData) (roots : List Root) (replies more : List Reply) → starts p (session roots (replies ++ more)) ≡ option_map (longer more) (starts p (session roots replies))
starts_longer p roots replies more = starts_longer_from p roots replies more (given (start p))

-- ---- runs

-- a run that waits stays so
still_waits : (p : ProgramData) (x : Moment) (how : Phase) → x.phase ≡ how → is_waiting how ≡ true → goes p x ≡ Some x
still_waits p x phase.Running e h = absurd (true≢false (sym h))
still_waits p x (phase.Waiting name) e h = ap (λ how. if is_running how then begun p x else Some x) e
still_waits p x phase.Finished e h = absurd (true≢false (sym h))
still_waits p x (phase.Exited n) e h = absurd (true≢false (sym h))
still_waits p x phase.Aborted e h = absurd (true≢false (sym h))
still_waits p x (phase.Undefined why) e h = absurd (true≢false (sym h))

-- A run that doesn't wait after a step didn't before.
waited_not : (p : ProgramData) (x : Moment) (b : Bool) → is_waiting x.phase ≡ b → Goes (goes p x) → is_waiting x.phase ≡ false
waited_not p x true e h = subst Goes (still_waits p x x.phase refl e) h
waited_not p x false e h = e

abbrev IsLonger : ProgramData → List Root → List Reply → List Reply → ℕ → Option Moment → Type 0
IsLonger p roots replies more n x = moment p (session roots (replies ++ more)) n ≡ option_map (longer more) x

next_longer : (p : ProgramData) (roots : List Root) (replies more : List Reply) (n : ℕ) (x : Option Moment) → (Goes x → IsLonger p roots replies more n x)
    → Goes (option_and_then (goes p) x) → option_and_then (goes p) (moment p (session roots (replies ++ more)) n) ≡ option_map (longer more) (option_and_then (goes p) x)
next_longer p roots replies more n None same h = ap (option_and_then (goes p)) (same tt)
next_longer p roots replies more n (Some x) same h =
    ap (option_and_then (goes p)) (same (waited_not p x (is_waiting x.phase) refl h)) ∙ goes_longer p more x h

pub moment_longer : (p : ProgramData) (roots : List Root) (replies more : List Reply) (n : ℕ) → Goes (moment p (session roots replies) n)
    → moment p (session roots (replies ++ more)) n ≡ option_map (longer more) (moment p (session roots replies) n)
moment_longer p roots replies more zero h = starts_longer p roots replies more
moment_longer p roots replies more (suc n) h = next_longer p roots replies more n (moment p (session roots replies) n) (moment_longer p roots replies more n) h

-- ---- calls

call_at_longer : (p : ProgramData) (more : List Reply) (x : Option Moment) → call_at p (option_map (longer more) x) ≡ call_at p x
call_at_longer p more None = refl
call_at_longer p more (Some x) = refl

went : (p : ProgramData) (x : Option Moment) → Goes (option_and_then (goes p) x) → Goes x
went p None h = tt
went p (Some x) h = waited_not p x (is_waiting x.phase) refl h

pub calls_longer : (p : ProgramData) (roots : List Root) (replies more : List Reply) (n : ℕ) → Goes (moment p (session roots replies) n)
    → calls p (session roots (replies ++ more)) n ≡ calls p (session roots replies) n
calls_longer p roots replies more zero h = refl
calls_longer p roots replies more (suc n) h =
    let before : Goes (moment p (session roots replies) n) = went p (moment p (session roots replies) n) h in
    ap (λ cs. cs ++ call_at p (moment p (session roots (replies ++ more)) n)) (calls_longer p roots replies more n before)
    ∙ ap (λ at. calls p (session roots replies) n ++ at) (ap (call_at p) (moment_longer p roots replies more n before) ∙ call_at_longer p more (moment p (session roots replies) n))
