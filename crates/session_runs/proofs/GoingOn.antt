-- A run of a linked program is never stuck: each moment is one that the program comes to.
use Rattle.std.proofs.Common.{◌≡◌, ◌≢◌, ◌∙◌, ℕ, zero, suc, Bool, true, false, List, [], ◌∷◌, map, slice_get, Option, Some, None, IsSome, option_map, option_and_then, refl, sym, ap, inl, inr, if◌then◌else◌}
use Rattle.std.proofs.lemmas.List.Elements.{All-head, All-tail}
use Rattle.int_ops.specs.declared.cause.Cause.{Cause}
use Rattle.ir_syntax.specs.declared.symbol.Sym.{Sym}
use Rattle.ir_syntax.specs.declared.body.Body.{Body}
use Rattle.ir_syntax.specs.Programs.{ProgramData, IsProgram}
use Rattle.block_memory.specs.declared.value.Val.{Val}
use Rattle.block_memory.specs.declared.value.Val.TheVariants as val
use Rattle.block_memory.specs.Answers.{Answer, Gives, Undefined, Stuck, and_then, or_stuck}
use Rattle.block_memory.specs.Blocks.{MemoryData}
use Rattle.block_memory.specs.Starts as memory
use Rattle.ir_steps.specs.declared.session.Reply.{Reply}
use Rattle.ir_steps.specs.declared.session.Wanted.{Wanted}
use Rattle.ir_steps.specs.declared.session.Stepped.{Stepped}
use Rattle.ir_steps.specs.declared.session.Stepped.TheVariants as stepped
use Rattle.ir_steps.specs.States.{Frame, StateData}
use Rattle.ir_steps.specs.Results.{Next, state}
use Rattle.ir_steps.specs.Calls.{begins, begins_at, body_of}
use Rattle.ir_steps.specs.Steps.{start, enter, step}
use Rattle.ir_steps.specs.Reached.{Move, Enter, Go, Reaches, IsRoot}
use Rattle.ir_steps.specs.NeverStuck.{ProgramsStart, RootsAreEntered, NeverStuck}
use Rattle.session_runs.specs.declared.session.Root.{Root}
use Rattle.session_runs.specs.declared.session.Session.{Session}
use Rattle.session_runs.specs.declared.session.Event.TheVariants as event
use Rattle.session_runs.specs.declared.session.Phase.TheVariants as phase
use Rattle.session_runs.specs.Runs.{Moment, is_running, given, enters, wanted_in, wanted, completed, told, after, came, replied, begun_with, begun, goes, moment, shown_run, run}
use Rattle.session_runs.specs.Mirrors.Progressing.{AreRoots}
use Rattle.session_runs.proofs.Behind.{BehindOf, behind, entered, idle}

-- what is known of every program
pub record Laws : Type 0 where
  pub starts : ProgramsStart
  pub enters : RootsAreEntered
  pub steps : NeverStuck

-- Moves lead to its state, its roots can be called, and a call is running while it is.
pub record IsReached (p : ProgramData) (x : Moment) : Type 0 where
  pub moves : List Move
  pub reaches : Reaches p moves x.state
  pub roots : AreRoots p x.roots
  pub calls : is_running x.phase ≡ true → x.state.frames ≢ []

-- there is a moment, and it is so
abbrev pub Goes : ProgramData → Option Moment → Type 0
Goes p None = ⊥
Goes p (Some x) = IsReached p x

-- ---- what has no cause of undefined behaviour

some_no_cause : {A : Type 0} (o : Option A) (why : Cause) → or_stuck o ≡ Undefined why → ⊥
some_no_cause None why e = cc
some_no_cause (Some x) why e = cc

then_no_cause : {A B : Type 0} (F : A → B) (a : Answer A) (why : Cause) → ((other : Cause) → a ≡ Undefined other → ⊥) → and_then (λ x. Gives (F x)) a ≡ Undefined why → ⊥
then_no_cause F (Gives x) why h e = cc
then_no_cause F (Undefined other) why h e = h other refl
then_no_cause F Stuck why h e = cc

begins_no_cause : (symbol : Sym) (args : List (Val Sym)) (o : Option Body) (why : Cause) → and_then (λ body. begins symbol body args) (or_stuck o) ≡ Undefined why → ⊥
begins_no_cause symbol args None why e = cc
begins_no_cause symbol args (Some body) why e = then_no_cause (begins_at symbol body args) (or_stuck (slice_get body.blocks 0)) why (some_no_cause (slice_get body.blocks 0)) e

enter_no_cause : (p : ProgramData) (s : StateData) (symbol : Sym) (args : List ℕ) (why : Cause) → enter p s symbol args ≡ Undefined why → ⊥
enter_no_cause p s symbol args why e =
    then_no_cause (λ (f : Frame). state (f ∷ []) s.memory) (and_then (λ body. begins symbol body (map (λ n. val.Num n) args)) (or_stuck (body_of p symbol))) why
    (begins_no_cause symbol (map (λ n. val.Num n) args) (body_of p symbol)) e

start_no_cause : (p : ProgramData) (why : Cause) → start p ≡ Undefined why → ⊥
start_no_cause p why e = then_no_cause (λ (mem : MemoryData). state [] mem) (or_stuck (memory.start p)) why (some_no_cause (memory.start p)) e

ends_so : true ≡ false → ⊥
ends_so e = cc

-- ---- roots

entered_goes : (p : ProgramData) (x : Moment) (root : Root) (roots : List Root) (moves : List Move) (a : Answer StateData) → enter p x.state root.func root.args ≡ a → (a ≡ Stuck → ⊥)
    → ((why : Cause) → a ≡ Undefined why → ⊥) → Reaches p moves x.state → x.state.frames ≡ [] → AreRoots p (root ∷ roots) → Goes p (option_map (λ t. record x { state = t; roots = roots }) (given a))
entered_goes p x root roots moves (Gives t) e h u r none rs = record {
  moves = Enter root.func root.args ∷ moves;
  reaches = (x.state, r, none, All-head (λ (one : Root). IsRoot p one.func one.args) root roots rs, e);
  roots = All-tail (λ (one : Root). IsRoot p one.func one.args) root roots rs;
  calls = λ running. entered p x.state root.func root.args t e;
}
entered_goes p x root roots moves (Undefined why) e h u r none rs = absurd (u why refl)
entered_goes p x root roots moves Stuck e h u r none rs = absurd (h refl)

enters_goes : Laws → (p : ProgramData) → IsProgram p → (x : Moment) (roots : List Root) (moves : List Move) → Reaches p moves x.state → x.state.frames ≡ [] → AreRoots p roots → Goes p (enters p x roots)
enters_goes laws p linked x [] moves r none rs = record { moves = moves; reaches = r; roots = rs; calls = λ running. absurd (ends_so (sym running)) }
enters_goes laws p linked x (root ∷ roots) moves r none rs =
    entered_goes p x root roots moves (enter p x.state root.func root.args) refl
    (laws.enters p moves x.state root.func root.args linked r (All-head (λ (one : Root). IsRoot p one.func one.args) root roots rs))
    (enter_no_cause p x.state root.func root.args) r none rs

-- ---- steps

after_goes : Laws → (p : ProgramData) → IsProgram p → (x : Moment) (reply : Option Reply) (moves : List Move) (s : StateData) (a : Stepped) → Reaches p moves x.state → AreRoots p x.roots
    → step p x.state reply ≡ Gives (a, s) → BehindOf x.state reply s a → ((call : Wanted) → a ≡ stepped.Wants call → ⊥) → Goes p (after p x s a)
after_goes laws p linked x reply moves s stepped.Went r rs e b unasked =
    record { moves = Go reply ∷ moves; reaches = (x.state, r, inl (stepped.Went, e)); roots = rs; calls = λ running. b }
after_goes laws p linked x reply moves s (stepped.Wants call) r rs e b unasked = absurd (unasked call refl)
after_goes laws p linked x reply moves s (stepped.Returned value) r rs e b unasked =
    enters_goes laws p linked (told (event.Returned value) (completed x s)) x.roots (Go reply ∷ moves) (x.state, r, inl (stepped.Returned value, e)) b rs
after_goes laws p linked x reply moves s (stepped.Exited n) r rs e b unasked =
    record { moves = Go reply ∷ moves; reaches = (x.state, r, inl (stepped.Exited n, e)); roots = rs; calls = λ running. absurd (ends_so (sym running)) }
after_goes laws p linked x reply moves s stepped.Aborted r rs e b unasked =
    record { moves = Go reply ∷ moves; reaches = (x.state, r, inl (stepped.Aborted, e)); roots = rs; calls = λ running. absurd (ends_so (sym running)) }
after_goes laws p linked x reply moves s (stepped.Undefined why) r rs e b unasked = absurd b

came_goes : Laws → (p : ProgramData) → IsProgram p → (x : Moment) (reply : Option Reply) (moves : List Move) (a : Answer Next) → Reaches p moves x.state → AreRoots p x.roots
    → step p x.state reply ≡ a → (a ≡ Stuck → ⊥) → ((call : Wanted) (s : StateData) → a ≡ Gives (stepped.Wants call, s) → ⊥) → Goes p (came p x a)
came_goes laws p linked x reply moves (Gives next) r rs e h unasked =
    after_goes laws p linked x reply moves next.1 next.0 r rs e (behind p x.state reply next.0 next.1 e)
    (λ call is. unasked call next.1 (ap (λ (what : Stepped). Gives (what, next.1)) is))
came_goes laws p linked x reply moves (Undefined why) r rs e h unasked =
    record { moves = Go reply ∷ moves; reaches = (x.state, r, inr (why, e, refl)); roots = rs; calls = λ running. absurd (ends_so (sym running)) }
came_goes laws p linked x reply moves Stuck r rs e h unasked = absurd (h refl)

some_is_none : (r : Reply) → Some r ≡ None → ⊥
some_is_none r e = cc

some_call : (c : Wanted) → Some c ≡ None → ⊥
some_call c e = cc

-- a step that has its reply wants none
no_second : (p : ProgramData) (s : StateData) (reply : Reply) (call : Wanted) (t : StateData) → step p s (Some reply) ≡ Gives (stepped.Wants call, t) → ⊥
no_second p s reply call t e = some_is_none reply (behind p s (Some reply) (stepped.Wants call) t e).1

-- and one that wants none wants none
no_first : (p : ProgramData) (x : Moment) → wanted p x ≡ None → (call : Wanted) (t : StateData) → step p x.state None ≡ Gives (stepped.Wants call, t) → ⊥
no_first p x none call t e = some_call call (sym (ap wanted_in e) ∙ none)

replied_goes : Laws → (p : ProgramData) → IsProgram p → (x : Moment) (call : Wanted) (replies : List Reply) → IsReached p x → x.state.frames ≢ [] → Goes p (replied p x call replies)
replied_goes laws p linked x call [] so calls = record { moves = so.moves; reaches = so.reaches; roots = so.roots; calls = λ running. absurd (ends_so (sym running)) }
replied_goes laws p linked x call (reply ∷ replies) so calls =
    came_goes laws p linked (told (event.Asked call reply) (record x { replies = replies })) (Some reply) so.moves (step p x.state (Some reply)) so.reaches so.roots refl
    (laws.steps p so.moves x.state (Some reply) linked so.reaches calls) (no_second p x.state reply)

begun_goes : Laws → (p : ProgramData) → IsProgram p → (x : Moment) (w : Option Wanted) → wanted p x ≡ w → IsReached p x → x.state.frames ≢ [] → Goes p (begun_with p x w)
begun_goes laws p linked x None e so calls =
    came_goes laws p linked x None so.moves (step p x.state None) so.reaches so.roots refl (laws.steps p so.moves x.state None linked so.reaches calls) (no_first p x e)
begun_goes laws p linked x (Some call) e so calls = replied_goes laws p linked x call x.replies so calls

goes_if : Laws → (p : ProgramData) → IsProgram p → (x : Moment) (b : Bool) → is_running x.phase ≡ b → IsReached p x → Goes p (if b then begun p x else Some x)
goes_if laws p linked x true e so = begun_goes laws p linked x (wanted p x) refl so (so.calls e)
goes_if laws p linked x false e so = so

-- ---- runs

next_goes : Laws → (p : ProgramData) → IsProgram p → (x : Option Moment) → Goes p x → Goes p (option_and_then (goes p) x)
next_goes laws p linked None so = so
next_goes laws p linked (Some x) so = goes_if laws p linked x (is_running x.phase) refl so

started_goes : Laws → (p : ProgramData) → IsProgram p → (s : Session) → AreRoots p s.roots → (a : Answer StateData) → start p ≡ a → (a ≡ Stuck → ⊥) → ((why : Cause) → a ≡ Undefined why → ⊥)
    → Goes p (option_and_then (λ st. enters p (record { state = st; roots = s.roots; replies = s.replies; trace = []; phase = phase.Running; steps = 0 }) s.roots) (given a))
started_goes laws p linked s rs (Gives st) e h u =
    enters_goes laws p linked (record { state = st; roots = s.roots; replies = s.replies; trace = []; phase = phase.Running; steps = 0 }) s.roots [] e (idle p st e) rs
started_goes laws p linked s rs (Undefined why) e h u = absurd (u why refl)
started_goes laws p linked s rs Stuck e h u = absurd (h refl)

moment_goes : Laws → (p : ProgramData) → IsProgram p → (s : Session) → AreRoots p s.roots → (n : ℕ) → Goes p (moment p s n)
moment_goes laws p linked s rs zero = started_goes laws p linked s rs (start p) refl (laws.starts p linked) (start_no_cause p)
moment_goes laws p linked s rs (suc n) = next_goes laws p linked (moment p s n) (moment_goes laws p linked s rs n)

some_run : (p : ProgramData) (x : Option Moment) → Goes p x → IsSome (option_map shown_run x)
some_run p None so = absurd so
some_run p (Some x) so = refl

pub a_run_goes_on : Laws → (p : ProgramData) (s : Session) (n : ℕ) → IsProgram p → AreRoots p s.roots → IsSome (run p s n)
a_run_goes_on laws p s n linked rs = some_run p (moment p s n) (moment_goes laws p linked s rs n)
