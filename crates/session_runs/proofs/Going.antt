-- What the code learns of a step is what came of it.
use Rattle.std.proofs.Common.{◌≡◌, ◌≢◌, ◌∙◌, ℕ, true, true≢false, List, [], ◌∷◌, ◌++◌, length, Option, Some, None, Result, Ok, Err, OnOk, OnErr, arith, refl, sym, ap, subst, inr, IsSome}
use Rattle.ir_syntax.specs.Programs.{ProgramData}
use Rattle.ir_steps.specs.declared.session.Reply.{Reply}
use Rattle.ir_steps.specs.declared.session.Wanted.{Wanted}
use Rattle.ir_steps.specs.declared.session.Stepped.{Stepped}
use Rattle.ir_steps.specs.declared.session.Stepped.TheVariants as stepped
use Rattle.ir_steps.specs.States.{StateData}
use Rattle.ir_steps.specs.Steps.{step}
use Rattle.ir_meaning.specs.Models.{StateModel, StackData, frames_of, state_of}
use Rattle.ir_meaning.specs.Kept.{IsStateOf, IsRunning, IsStepOf}
use Rattle.session_runs.specs.declared.session.Event.{Event}
use Rattle.session_runs.specs.declared.session.Event.TheVariants as event
use Rattle.session_runs.specs.declared.session.Phase.{Phase}
use Rattle.session_runs.specs.declared.session.Phase.TheVariants as phase
use Rattle.session_runs.specs.declared.progress.Progress.{Progress}
use Rattle.session_runs.specs.Runs.{Moment, is_running, wanted_by, wanted_in, wanted, told, ended, came, begun_with, begun}
use Rattle.session_runs.specs.Mirrors.Progressing.{standing, AreRoots, IsGoing, Wants, Begins, Replies, Waits, IsBehind, CompletesAt, Completes}
use Rattle.session_runs.proofs.Behind.{behind}

-- what a step answers of a state, and the state behind it
abbrev pub AnswersStep : ProgramData → StateData → Option Reply → Stepped → StateData → Type 0
AnswersStep p s given a t = IsStepOf (step p s given) a t s.memory

-- ---- whether a call is running

stack_none : (p : ProgramData) (stack : Option StackData) → frames_of p stack ≡ [] → stack ≡ None
stack_none p None e = refl
stack_none p (Some calls) e = cc

-- where there is no call, none is running
pub no_call_runs : (p : ProgramData) (s : StateModel) → (state_of p s).frames ≡ [] → s.stack ≡ None
no_call_runs p s e = stack_none p s.stack e

stack_some : (p : ProgramData) (stack : Option StackData) → frames_of p stack ≢ [] → IsSome stack
stack_some p None h = absurd (h refl)
stack_some p (Some calls) h = refl

pub call_runs : (p : ProgramData) (s : StateModel) → (state_of p s).frames ≢ [] → IsRunning s
call_runs p s h = inr (stack_some p s.stack h)

-- ---- whether a reply is wanted

pub answers_wanted : (p : ProgramData) (s : StateData) (given : Option Reply) (a : Stepped) (t : StateData) → AnswersStep p s given a t → wanted_in (step p s given) ≡ wanted_by a
answers_wanted p s given stepped.Went t e = ap wanted_in e
answers_wanted p s given (stepped.Wants call) t e = ap wanted_in e
answers_wanted p s given (stepped.Returned value) t e = ap wanted_in e
answers_wanted p s given (stepped.Exited n) t e = ap wanted_in e
answers_wanted p s given stepped.Aborted t e = ap wanted_in e
answers_wanted p s given (stepped.Undefined why) t e = ap wanted_in e.0

-- ---- what stands behind the step

pub is_behind : (p : ProgramData) (s : StateData) (given : Option Reply) (a : Stepped) (t : StateData) → AnswersStep p s given a t → wanted_by a ≡ None → IsBehind t a
is_behind p s given stepped.Went t e h = behind p s given stepped.Went t e
is_behind p s given (stepped.Wants call) t e h = cc
is_behind p s given (stepped.Returned value) t e h = behind p s given (stepped.Returned value) t e
is_behind p s given (stepped.Exited n) t e h = tt
is_behind p s given stepped.Aborted t e h = tt
is_behind p s given (stepped.Undefined why) t e h = tt

-- A step that has its reply wants none.
none_wanted : (r : Reply) (s t : StateData) → (t ≡ s) × (Some r ≡ None) → ⊥
none_wanted r s t (e, h) = cc

pub is_behind_reply : (p : ProgramData) (s : StateData) (r : Reply) (a : Stepped) (t : StateData) → AnswersStep p s (Some r) a t → IsBehind t a
is_behind_reply p s r stepped.Went t e = behind p s (Some r) stepped.Went t e
is_behind_reply p s r (stepped.Wants call) t e = none_wanted r s t (behind p s (Some r) (stepped.Wants call) t e)
is_behind_reply p s r (stepped.Returned value) t e = behind p s (Some r) (stepped.Returned value) t e
is_behind_reply p s r (stepped.Exited n) t e = tt
is_behind_reply p s r stepped.Aborted t e = tt
is_behind_reply p s r (stepped.Undefined why) t e = tt

pub unchanged : (p : ProgramData) (s : StateData) (call : Wanted) (t : StateData) → AnswersStep p s None (stepped.Wants call) t → t ≡ s
unchanged p s call t e = (behind p s None (stepped.Wants call) t e).0

-- ---- what came of it

abbrev pub at_state : StateData → Moment → Moment
at_state t x = record x { state = t }

pub came_of : (p : ProgramData) (x : Moment) (given : Option Reply) (a : Stepped) (t : StateData) (y : Moment) → AnswersStep p x.state given a t → CompletesAt p (at_state t x) a y
    → came p x (step p x.state given) ≡ Some y
came_of p x given stepped.Went t y e h = ap (came p x) e ∙ h
came_of p x given (stepped.Wants call) t y e h = absurd h
came_of p x given (stepped.Returned value) t y e h = ap (came p x) e ∙ h
came_of p x given (stepped.Exited n) t y e h = ap (came p x) e ∙ h
came_of p x given stepped.Aborted t y e h = ap (came p x) e ∙ h
came_of p x given (stepped.Undefined why) t y e h =
    ap (came p x) e.0 ∙ ap (λ (m : Moment). Some m) (ap (λ t. ended (phase.Undefined why) (at_state t x)) (sym e.1) ∙ sym h)

pub begun_alone : (p : ProgramData) (x y : Moment) → wanted p x ≡ None → came p x (step p x.state None) ≡ Some y → begun p x ≡ Some y
begun_alone p x y h e = ap (begun_with p x) h ∙ e

pub begun_replied : (p : ProgramData) (q : Progress) (call : Wanted) (r : Reply) (replies : List Reply) (y : Moment) → wanted p (standing p q (r ∷ replies)) ≡ Some call
    → came p (told (event.Asked call r) (standing p q replies)) (step p (state_of p q.state) (Some r)) ≡ Some y → begun p (standing p q (r ∷ replies)) ≡ Some y
begun_replied p q call r replies y h e = ap (begun_with p (standing p q (r ∷ replies))) h ∙ e

pub waits_now : (p : ProgramData) (q : Progress) (call : Wanted) (y : Moment) → wanted p (standing p q []) ≡ Some call → y ≡ ended (phase.Waiting call.name) (standing p q []) → begun p (standing p q []) ≡ Some y
waits_now p q call y h e = ap (begun_with p (standing p q [])) h ∙ ap (λ (m : Moment). Some m) (sym e)

pub runs : (how : Phase) → how ≡ phase.Running → is_running how ≡ true
runs how e = ap is_running e

-- ---- where a call is at hand, nothing has changed

pub phase_same : (p : ProgramData) (q r : Progress) (call : Wanted) → Begins p q (Some call) r → r.phase ≡ q.phase
phase_same p q r call b = ap (λ (m : Moment). m.phase) (b [])

pub steps_same : (p : ProgramData) (q r : Progress) (call : Wanted) → Begins p q (Some call) r → r.steps ≡ q.steps
steps_same p q r call b = ap (λ (m : Moment). m.steps) (b [])

pub wants_same : (p : ProgramData) (q r : Progress) (call : Wanted) → Begins p q (Some call) r → Wants p q (Some call) → Wants p r (Some call)
wants_same p q r call b w replies = ap (wanted p) (b replies) ∙ w replies

pub replies_same : (p : ProgramData) (q r t : Progress) (call : Wanted) (reply : Reply) → Begins p q (Some call) r → Replies p r reply t → Replies p q reply t
replies_same p q r t call reply b h replies = ap (begun p) (sym (b (reply ∷ replies))) ∙ h replies

pub waits_same : (p : ProgramData) (q r t : Progress) (call : Wanted) → Begins p q (Some call) r → Waits p call r t → Waits p call q t
waits_same p q r t call b h replies = h replies ∙ ap (ended (phase.Waiting call.name)) (b replies)

not_running : (how : Phase) (name : List ℕ) → how ≡ phase.Waiting name → is_running how ≡ true → ⊥
not_running how name e h = true≢false (sym h ∙ ap is_running e)

-- a run that waits can go on
pub waiting_going : (p : ProgramData) (q r : Progress) (name : List ℕ) → r.state ≡ q.state → r.roots.now ≡ q.roots.now → r.phase ≡ phase.Waiting name → IsGoing p q → IsGoing p r
waiting_going p q r name state_is roots_are how so = record {
  state = subst (IsStateOf p) (sym state_is) so.state;
  roots = subst (AreRoots p) (sym roots_are) so.roots;
  calls = λ h. absurd (not_running r.phase name how h);
}

-- no reply is left
pub waits_when : (p : ProgramData) (q r t : Progress) (call : Wanted) (replies : List Reply) → length replies ≡ 0 → Begins p q (Some call) r → Wants p q (Some call) → Waits p call r t
    → begun p (standing p q replies) ≡ Some (standing p t replies)
waits_when p q r t call [] e b w h = waits_now p q call (standing p t []) (w []) (waits_same p q r t call b h [])
waits_when p q r t call (reply ∷ replies) e b w h = absurd (omega (arith, e))

-- the first of the replies is taken
pub takes_first : (p : ProgramData) (q t : Progress) (copy first : Reply) (left replies : List Reply) → copy ≡ first → replies ≡ first ∷ left → Replies p q copy t
    → begun p (standing p q replies) ≡ Some (standing p t left)
takes_first p q t copy first left replies same e h =
    ap (λ rs. begun p (standing p q rs)) e ∙ ap (λ x. begun p (standing p q (x ∷ left))) (sym same) ∙ h left

-- what isn't a call that wants a reply
pub no_call : (a : Stepped) → ((call : Wanted) → a ≡ stepped.Wants call → ⊥) → wanted_by a ≡ None
no_call stepped.Went h = refl
no_call (stepped.Wants call) h = absurd (h call refl)
no_call (stepped.Returned value) h = refl
no_call (stepped.Exited n) h = refl
no_call stepped.Aborted h = refl
no_call (stepped.Undefined why) h = refl

-- a call is at hand, and nothing has changed
pub at_call : (p : ProgramData) (s : StateData) (a : Stepped) (call : Wanted) (t : StateData) → a ≡ stepped.Wants call → AnswersStep p s None a t → t ≡ s
at_call p s a call t is e = unchanged p s call t (subst (λ x. AnswersStep p s None x t) is e)

-- a step without a reply
pub begins_alone : (p : ProgramData) (q r : Progress) (a : Stepped) (m : StateModel) → AnswersStep p (state_of p q.state) None a (state_of p m) → wanted_by a ≡ None
    → Completes p (record q { state = m }) a r → Begins p q None r
begins_alone p q r a m e none h replies =
    begun_alone p (standing p q replies) (standing p r replies) (answers_wanted p (state_of p q.state) None a (state_of p m) e ∙ none)
    (came_of p (standing p q replies) None a (state_of p m) (standing p r replies) e (h replies))

-- and one with it
pub replies_now : (p : ProgramData) (q r : Progress) (call : Wanted) (reply : Reply) (trace : List Event) (a : Stepped) (m : StateModel) → Wants p q (Some call)
    → AnswersStep p (state_of p q.state) (Some reply) a (state_of p m) → trace ≡ q.trace ++ event.Asked call reply ∷ [] → Completes p (record q { state = m; trace = trace }) a r → Replies p q reply r
replies_now p q r call reply trace a m w e told_is h replies =
    let completes : Completes p (record q { state = m; trace = q.trace ++ event.Asked call reply ∷ [] }) a r =
    subst (λ (events : List Event). Completes p (record q { state = m; trace = events }) a r) told_is h in
    begun_replied p q call reply replies (standing p r replies) (w (reply ∷ replies))
    (came_of p (told (event.Asked call reply) (standing p q replies)) (Some reply) a (state_of p m) (standing p r replies) e (completes replies))

pub on_ok : {A E : Type 0} {P Q : Type 0} (r : Result A E) → (P → Q) → OnOk r P → OnOk r Q
on_ok (Ok x) f h = f h
on_ok (Err e) f h = tt

pub on_err : {A E : Type 0} {P : Type 0} (r : Result A E) → P → OnErr r P
on_err (Ok x) h = tt
on_err (Err e) h = h

pub calls_still : (s t : StateData) → t ≡ s → s.frames ≢ [] → t.frames ≢ []
calls_still s t e h none = h (ap (λ (x : StateData). x.frames) (sym e) ∙ none)
