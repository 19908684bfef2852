-- In each run of a session that conforms, calls are as they are read.
use Rattle.std.proofs.Common.{◌≡◌, ◌∙◌, ℕ, zero, suc, Bool, true, false, List, [], ◌∷◌, length, All, Option, Some, None, option_and_then, option_map, refl, sym, ap, subst, arith, if◌then◌else◌}
use Rattle.std.specs.Prelude.{IfSome}
use Rattle.std.specs.List.{AllZip}
use Rattle.std.proofs.lemmas.Bool.{lt-ltb, le-ltb}
use Rattle.std.proofs.lemmas.List.Elements.{All-head, All-tail, All-nil}
use Rattle.ir_syntax.specs.Programs.{ProgramData, IsProgram}
use Rattle.block_memory.specs.Answers.{Answer, Gives, Undefined, Stuck, or_stuck}
use Rattle.block_memory.specs.Blocks.{MemoryData}
use Rattle.block_memory.specs.Starts as memory
use Rattle.ir_steps.specs.declared.session.Reply.{Reply}
use Rattle.ir_steps.specs.declared.session.Wanted.{Wanted}
use Rattle.ir_steps.specs.declared.session.Stepped.{Stepped}
use Rattle.ir_steps.specs.declared.session.Stepped.TheVariants as stepped
use Rattle.ir_steps.specs.States.{StateData}
use Rattle.ir_steps.specs.Results.{Next, state}
use Rattle.ir_steps.specs.Steps.{start, enter, step}
use Rattle.session_runs.specs.declared.session.Root.{Root}
use Rattle.session_runs.specs.declared.session.Session.{Session}
use Rattle.session_runs.specs.declared.session.Event.TheVariants as event
use Rattle.session_runs.specs.declared.session.Phase.{Phase}
use Rattle.session_runs.specs.declared.session.Phase.TheVariants as phase
use Rattle.session_runs.specs.Events.{exit_call, abort_call}
use Rattle.session_runs.specs.Conforming.{IsConformingRoot, Conforms}
use Rattle.session_runs.specs.Following.{View, Followed, root_kinds, kinds_by, kinds_after, step_followed, goes_followed, starts_followed, defined, follow}
use Rattle.session_runs.specs.Runs.{Moment, is_running, given, enters, starts, wanted, completed, told, ended, after, came, replied, begun_with, begun}
use Rattle.known_values.specs.Readings.{Reading, IsReading}
use Rattle.known_values.specs.Frames.{IsFrameAs}
use Rattle.known_values.specs.Views.{view}
use Rattle.known_values.proofs.Giving.{IfGives, gives_any, then_some, map_some}
use Rattle.known_values.proofs.Depths.{AreFramesAs, IsAfter, unchanged}
use Rattle.known_values.proofs.Rooting.{root_entered}
use Rattle.known_values.proofs.Stepping.{step_as}

-- ---- options

some_is_so : {A : Type 0} (P : A → Type 0) (o : Option A) (x : A) → o ≡ Some x → IfSome o P → P x
some_is_so P o x e h = subst (λ y. IfSome y P) e h

given_so : {A : Type 0} (P : A → Type 0) (a : Answer A) → IfGives P a → IfSome (given a) P
given_so P (Gives x) h = h
given_so P (Undefined why) h = tt
given_so P Stuck h = tt

map_so : {A B : Type 0} (P : A → Type 0) (Q : B → Type 0) (F : A → B) (o : Option A) → IfSome o P → ((x : A) → P x → Q (F x)) → IfSome (option_map F o) Q
map_so P Q F None h k = tt
map_so P Q F (Some x) h k = k x h

-- ---- roots

enters_so : (p : ProgramData) (cycles : List (List Bool)) (readings : List Reading) → All (IsReading p) readings → (Q : Moment → Type 0) (x : Moment) (roots : List Root) → All (IsConformingRoot p) roots
    → (roots ≡ [] → Q (record x { roots = []; phase = phase.Finished }))
    → ((root : Root) (more : List Root) → roots ≡ root ∷ more → (t : StateData) → AreFramesAs p (root_kinds (view p cycles readings) roots) t.frames → Q (record x { state = t; roots = more })) → IfSome (enters p x roots) Q
enters_so p cycles readings all Q x [] conform none some = none refl
enters_so p cycles readings all Q x (root ∷ more) conform none some =
    map_so (λ (t : StateData). AreFramesAs p ((view p cycles readings).of_root root ∷ []) t.frames) Q (λ t. record x { state = t; roots = more }) (given (enter p x.state root.func root.args))
    (given_so (λ (t : StateData). AreFramesAs p ((view p cycles readings).of_root root ∷ []) t.frames) (enter p x.state root.func root.args)
    (root_entered p cycles readings all x.state root (All-head (IsConformingRoot p) root more conform)))
    (λ t is. some root more refl t is)

tail_conforms : (p : ProgramData) (roots : List Root) (root : Root) (more : List Root) → roots ≡ root ∷ more → All (IsConformingRoot p) roots → All (IsConformingRoot p) more
tail_conforms p roots root more e h = All-tail (IsConformingRoot p) root more (subst (All (IsConformingRoot p)) e h)

-- ---- the readings behind a step

-- Behind it calls are as they are read, and the roots to come conform.
record IsNextSo (p : ProgramData) (v : View (Option Reading)) (kinds : List (Option Reading)) (x y : Moment) : Type 0 where
  frames : AreFramesAs p (kinds_after v kinds x y) y.state.frames
  roots : All (IsConformingRoot p) y.roots

-- No root was entered.
same_roots : (v : View (Option Reading)) (kinds : List (Option Reading)) (x y : Moment) → y.roots ≡ x.roots → kinds_after v kinds x y ≡ kinds_by v kinds x.state.frames y.state.frames
same_roots v kinds x y e =
    let long : length y.roots ≡ length x.roots = ap length e in
    ap (λ b. if b then root_kinds v x.roots else kinds_by v kinds x.state.frames y.state.frames) (le-ltb (length y.roots) (length x.roots) (omega arith))

-- One was.
next_root : (v : View (Option Reading)) (kinds : List (Option Reading)) (x y : Moment) (root : Root) → x.roots ≡ root ∷ y.roots → kinds_after v kinds x y ≡ root_kinds v x.roots
next_root v kinds x y root e =
    let long : length x.roots ≡ suc (length y.roots) = ap length e in
    ap (λ b. if b then root_kinds v x.roots else kinds_by v kinds x.state.frames y.state.frames) (lt-ltb (length y.roots) (length x.roots) (omega arith))

same_so : (p : ProgramData) (v : View (Option Reading)) (kinds : List (Option Reading)) (x y : Moment) → y.roots ≡ x.roots → All (IsConformingRoot p) x.roots → AreFramesAs p (kinds_by v kinds x.state.frames y.state.frames) y.state.frames
    → IsNextSo p v kinds x y
same_so p v kinds x y e conform h = record {
  frames = subst (λ ks. AreFramesAs p ks y.state.frames) (sym (same_roots v kinds x y e)) h;
  roots = subst (All (IsConformingRoot p)) (sym e) conform;
}

-- ---- a step

-- no undefined behaviour was met
abbrev IsDefined : Phase → Type 0
IsDefined phase.Running = Unit {0}
IsDefined (phase.Waiting name) = Unit {0}
IsDefined phase.Finished = Unit {0}
IsDefined (phase.Exited n) = Unit {0}
IsDefined phase.Aborted = Unit {0}
IsDefined (phase.Undefined why) = ⊥

defined_is : (x y : Followed (Option Reading)) (how : Phase) → defined x how ≡ Some y → IsDefined how × (x ≡ y)
defined_is x y phase.Running e = (tt, cc)
defined_is x y (phase.Waiting name) e = (tt, cc)
defined_is x y phase.Finished e = (tt, cc)
defined_is x y (phase.Exited n) e = (tt, cc)
defined_is x y phase.Aborted e = (tt, cc)
defined_is x y (phase.Undefined why) e = cc

-- It is so, if no undefined behaviour was met.
abbrev IsGoing : ProgramData → View (Option Reading) → List (Option Reading) → Moment → Moment → Type 0
IsGoing p v kinds x y = IsDefined y.phase → IsNextSo p v kinds x y

returned_so : (p : ProgramData) (cycles : List (List Bool)) (readings : List Reading) → All (IsReading p) readings → (kinds : List (Option Reading)) (x m : Moment) → All (IsConformingRoot p) x.roots
    → AreFramesAs p (kinds_by (view p cycles readings) kinds x.state.frames m.state.frames) m.state.frames → (roots : List Root) → x.roots ≡ roots
    → IfSome (enters p m roots) (IsGoing p (view p cycles readings) kinds x)
returned_so p cycles readings all kinds x m conform h roots e =
    let v = view p cycles readings in
    enters_so p cycles readings all (IsGoing p v kinds x) m roots (subst (All (IsConformingRoot p)) e conform)
    (λ none defined_so. same_so p v kinds x (record m { roots = []; phase = phase.Finished }) (sym none ∙ sym e) conform h)
    (λ root more is t new defined_so. record {
      frames = subst (λ ks. AreFramesAs p ks t.frames) (ap (root_kinds v) (sym e) ∙ sym (next_root v kinds x (record m { state = t; roots = more }) root (e ∙ is))) new;
      roots = tail_conforms p x.roots root more (e ∙ is) conform;
    })

after_so : (p : ProgramData) (cycles : List (List Bool)) (readings : List Reading) → All (IsReading p) readings → (kinds : List (Option Reading)) (x m : Moment) (s : StateData) (a : Stepped) → m.roots ≡ x.roots → All (IsConformingRoot p) x.roots
    → AreFramesAs p (kinds_by (view p cycles readings) kinds x.state.frames s.frames) s.frames → IfSome (after p m s a) (IsGoing p (view p cycles readings) kinds x)
after_so p cycles readings all kinds x m s stepped.Went e conform h = λ defined_so. same_so p (view p cycles readings) kinds x (completed m s) e conform h
after_so p cycles readings all kinds x m s (stepped.Wants call) e conform h = tt
after_so p cycles readings all kinds x m s (stepped.Returned value) e conform h =
    returned_so p cycles readings all kinds x (told (event.Returned value) (completed m s)) conform h m.roots (sym e)
after_so p cycles readings all kinds x m s (stepped.Exited n) e conform h = λ defined_so. same_so p (view p cycles readings) kinds x (ended (phase.Exited n) (told (exit_call n) (completed m s))) e conform h
after_so p cycles readings all kinds x m s stepped.Aborted e conform h = λ defined_so. same_so p (view p cycles readings) kinds x (ended phase.Aborted (told abort_call (completed m s))) e conform h
after_so p cycles readings all kinds x m s (stepped.Undefined why) e conform h = tt

came_so : (p : ProgramData) (cycles : List (List Bool)) (readings : List Reading) → All (IsReading p) readings → (kinds : List (Option Reading)) (x m : Moment) (a : Answer Next) → m.roots ≡ x.roots → All (IsConformingRoot p) x.roots
    → IfGives (IsAfter p (view p cycles readings) kinds x.state.frames) a → IfSome (came p m a) (IsGoing p (view p cycles readings) kinds x)
came_so p cycles readings all kinds x m (Gives next) e conform h = after_so p cycles readings all kinds x m next.1 next.0 e conform h
came_so p cycles readings all kinds x m (Undefined why) e conform h = λ defined_so. absurd defined_so
came_so p cycles readings all kinds x m Stuck e conform h = tt

replied_so : (p : ProgramData) → IsProgram p → (cycles : List (List Bool)) (readings : List Reading) → All (IsReading p) readings → (kinds : List (Option Reading)) (x : Moment) (call : Wanted) (replies : List Reply)
    → All (IsConformingRoot p) x.roots → AreFramesAs p kinds x.state.frames → IfSome (replied p x call replies) (IsGoing p (view p cycles readings) kinds x)
replied_so p program cycles readings all kinds x call [] conform h =
    λ defined_so. same_so p (view p cycles readings) kinds x (ended (phase.Waiting call.name) x) refl conform (unchanged p (view p cycles readings) kinds x.state.frames h)
replied_so p program cycles readings all kinds x call (r ∷ replies) conform h =
    came_so p cycles readings all kinds x (told (event.Asked call r) (record x { replies = replies })) (step p x.state (Some r)) refl conform (step_as p program cycles readings all kinds x.state (Some r) h)

begun_so : (p : ProgramData) → IsProgram p → (cycles : List (List Bool)) (readings : List Reading) → All (IsReading p) readings → (kinds : List (Option Reading)) (x : Moment) (w : Option Wanted) → All (IsConformingRoot p) x.roots
    → AreFramesAs p kinds x.state.frames → IfSome (begun_with p x w) (IsGoing p (view p cycles readings) kinds x)
begun_so p program cycles readings all kinds x None conform h = came_so p cycles readings all kinds x x (step p x.state None) refl conform (step_as p program cycles readings all kinds x.state None h)
begun_so p program cycles readings all kinds x (Some call) conform h = replied_so p program cycles readings all kinds x call x.replies conform h

-- ---- runs

-- The calls are as they are read, and the roots to come conform.
record IsSo (p : ProgramData) (x : Followed (Option Reading)) : Type 0 where
  frames : AreFramesAs p x.kinds x.at.state.frames
  roots : All (IsConformingRoot p) x.at.roots

idle : (p : ProgramData) → IfGives (λ s. AreFramesAs p [] s.frames) (start p)
idle p = gives_any (λ (s : StateData). AreFramesAs p [] s.frames) (λ (mem : MemoryData). Gives (state [] mem)) (or_stuck (memory.start p)) (λ mem. tt)

starts_so : (p : ProgramData) (cycles : List (List Bool)) (readings : List Reading) → All (IsReading p) readings → (s : Session) → Conforms p s → (m : Moment) → starts p s ≡ Some m → IsSo p (starts_followed (view p cycles readings) s m)
starts_so p cycles readings all s conform m e =
    let v = view p cycles readings in
    let first : StateData → Moment = λ st. record { state = st; roots = s.roots; replies = s.replies; trace = []; phase = phase.Running; steps = 0 } in
    let st = then_some (λ (st : StateData). enters p (first st) s.roots) (given (start p)) m e in
    let none = some_is_so (λ (t : StateData). AreFramesAs p [] t.frames) (given (start p)) st.0 st.1 (given_so (λ (t : StateData). AreFramesAs p [] t.frames) (start p) (idle p)) in
    some_is_so (λ y. IsSo p (starts_followed v s y)) (enters p (first st.0) s.roots) m st.2
    (enters_so p cycles readings all (λ y. IsSo p (starts_followed v s y)) (first st.0) s.roots conform
    (λ is. record { frames = subst (λ roots. AreFramesAs p (root_kinds v roots) st.0.frames) (sym is) none; roots = All-nil (IsConformingRoot p) })
    (λ root more is t new. record { frames = new; roots = tail_conforms p s.roots root more is conform }))

goes_so : (p : ProgramData) → IsProgram p → (cycles : List (List Bool)) (readings : List Reading) → All (IsReading p) readings → (x y : Followed (Option Reading)) (running : Bool)
    → (if running then option_map (step_followed (view p cycles readings) x) (begun p x.at) else Some x) ≡ Some y → IsDefined y.at.phase → IsSo p x → IsSo p y
goes_so p program cycles readings all x y true e defined_so so =
    let v = view p cycles readings in
    let m = map_some (step_followed v x) (begun p x.at) y e in
    let next = some_is_so (IsGoing p v x.kinds x.at) (begun p x.at) m.0 m.1 (begun_so p program cycles readings all x.kinds x.at (wanted p x.at) so.roots so.frames) in
    let phase_is : IsDefined m.0.phase = subst (λ (z : Followed (Option Reading)). IsDefined z.at.phase) (sym m.2) defined_so in
    subst (IsSo p) m.2 (record { frames = (next phase_is).frames; roots = (next phase_is).roots })
goes_so p program cycles readings all x y false e defined_so so = subst (IsSo p) one so
  where
    one : x ≡ y
    one = cc

run_so : (p : ProgramData) → IsProgram p → (cycles : List (List Bool)) (readings : List Reading) → All (IsReading p) readings → (s : Session) → Conforms p s → (n : ℕ) (x : Followed (Option Reading))
    → follow (view p cycles readings) p s n ≡ Some x → IsSo p x
run_so p program cycles readings all s conform zero x e =
    let v = view p cycles readings in
    let m = map_some (starts_followed v s) (starts p s) x e in
    subst (IsSo p) m.2 (starts_so p cycles readings all s conform m.0 m.1)
run_so p program cycles readings all s conform (suc n) x e =
    let v = view p cycles readings in
    let y = then_some (λ (y : Followed (Option Reading)). defined y y.at.phase) (option_and_then (goes_followed v p) (follow v p s n)) x e in
    let z = then_some (goes_followed v p) (follow v p s n) y.0 y.1 in
    let how = defined_is y.0 x y.0.at.phase y.2 in
    subst (IsSo p) how.1 (goes_so p program cycles readings all z.0 y.0 (is_running z.0.at.phase) z.2 how.0 (run_so p program cycles readings all s conform n z.0 z.1))

pub runs_as : (p : ProgramData) (cycles : List (List Bool)) (readings : List Reading) (s : Session) (n : ℕ) (x : Followed (Option Reading)) → IsProgram p → All (IsReading p) readings → Conforms p s
    → follow (view p cycles readings) p s n ≡ Some x → AllZip (IsFrameAs p) x.kinds x.at.state.frames
runs_as p cycles readings s n x program all conform e = (run_so p program cycles readings all s conform n x e).frames
