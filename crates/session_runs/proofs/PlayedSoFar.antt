-- A play so far, and what one step more makes of it.
use Rattle.std.proofs.Common.{◌≡◌, ◌∙◌, ℕ, suc, ◌+◌, ◌<◌, true, false, List, [], ◌∷◌, ◌++◌, map, Option, Some, None, option_map, option_and_then, refl, sym, ap, subst, inl, inr, arith, append-nil, if◌then◌else◌}
use Rattle.ir_syntax.specs.Programs.{ProgramData}
use Rattle.block_memory.specs.Answers.{Answer, Gives, Undefined, Stuck}
use Rattle.ir_steps.specs.declared.session.Reply.{Reply}
use Rattle.ir_steps.specs.declared.session.Wanted.{Wanted}
use Rattle.ir_steps.specs.declared.session.Stepped.{Stepped}
use Rattle.ir_steps.specs.declared.session.Stepped.TheVariants as stepped
use Rattle.ir_steps.specs.States.{StateData}
use Rattle.ir_steps.specs.Results.{Next}
use Rattle.ir_steps.specs.Steps.{start, enter, step}
use Rattle.session_runs.specs.declared.session.Root.{Root}
use Rattle.session_runs.specs.declared.session.Session.{Session}
use Rattle.session_runs.specs.declared.session.Event.TheVariants as event
use Rattle.session_runs.specs.declared.session.Phase.{Phase}
use Rattle.session_runs.specs.declared.session.Phase.TheVariants as phase
use Rattle.session_runs.specs.declared.progress.Progress.{Progress}
use Rattle.session_runs.specs.declared.world.WorldFault.{WorldFault}
use Rattle.session_runs.specs.declared.world.WorldFault.TheVariants as fault
use Rattle.session_runs.specs.Runs.{Moment, is_running, given, enters, starts, wanted, completed, told, after, came, begun_with, begun, moment, call_of, call_at, calls}
use Rattle.session_runs.specs.Worlds.{Answered, replies_among, session, last_answer, answers_in, Stops, Breaks, Fails}
use Rattle.session_runs.specs.Mirrors.Progressing.{standing, Wants, Begins, Replies, Waits}
use Rattle.session_runs.specs.Mirrors.Playing.{PlaysOn, WorldFails, FailsBehind, PlayFails}
use Rattle.session_runs.proofs.Ended.{goes_on}
use Rattle.session_runs.proofs.Going.{waits_now}
use Rattle.session_runs.proofs.Longer.{is_waiting, Goes, moment_longer, calls_longer}

-- ---- only a call without a reply waits

entered_goes : (x : Moment) (roots : List Root) (s : Option StateData) → is_waiting x.phase ≡ false → Goes (option_map (λ t. record x { state = t; roots = roots }) s)
entered_goes x roots None h = tt
entered_goes x roots (Some t) h = h

enters_goes : (p : ProgramData) (x : Moment) (roots : List Root) → is_waiting x.phase ≡ false → Goes (enters p x roots)
enters_goes p x [] h = refl
enters_goes p x (root ∷ roots) h = entered_goes x roots (given (enter p x.state root.func root.args)) h

after_goes : (p : ProgramData) (x : Moment) (s : StateData) (a : Stepped) → is_waiting x.phase ≡ false → Goes (after p x s a)
after_goes p x s stepped.Went h = h
after_goes p x s (stepped.Wants call) h = tt
after_goes p x s (stepped.Returned value) h = enters_goes p (told (event.Returned value) (completed x s)) x.roots h
after_goes p x s (stepped.Exited n) h = refl
after_goes p x s stepped.Aborted h = refl
after_goes p x s (stepped.Undefined why) h = tt

came_goes : (p : ProgramData) (x : Moment) (a : Answer Next) → is_waiting x.phase ≡ false → Goes (came p x a)
came_goes p x (Gives next) h = after_goes p x next.1 next.0 h
came_goes p x (Undefined why) h = refl
came_goes p x Stuck h = tt

no_wait : (how : Phase) → is_running how ≡ true → is_waiting how ≡ false
no_wait phase.Running h = refl
no_wait (phase.Waiting name) h = cc
no_wait phase.Finished h = refl
no_wait (phase.Exited n) h = refl
no_wait phase.Aborted h = refl
no_wait (phase.Undefined why) h = refl

none_last : (how : Phase) → is_waiting how ≡ false → last_answer how ≡ []
none_last phase.Running h = refl
none_last (phase.Waiting name) h = cc
none_last phase.Finished h = refl
none_last (phase.Exited n) h = refl
none_last phase.Aborted h = refl
none_last (phase.Undefined why) h = refl

-- ---- answers

abbrev pub some_of : List Reply → List (Option Reply)
some_of replies = map (λ r. Some r) replies

only_replies : (replies : List Reply) (how : Phase) → is_waiting how ≡ false → answers_in replies how ≡ some_of replies
only_replies replies how h = ap (λ last. some_of replies ++ last) (none_last how h) ∙ append-nil (some_of replies)

some_more : (replies : List Reply) (r : Reply) → some_of (replies ++ r ∷ []) ≡ some_of replies ++ Some r ∷ []
some_more [] r = refl
some_more (x ∷ replies) r = ap (λ rest. Some x ∷ rest) (some_more replies r)

among_some : (replies : List Reply) → replies_among (some_of replies) ≡ replies
among_some [] = refl
among_some (r ∷ replies) = ap (λ rest. r ∷ rest) (among_some replies)

among_more : (replies : List Reply) (r : Reply) → replies_among (some_of replies ++ Some r ∷ []) ≡ replies ++ r ∷ []
among_more replies r = ap replies_among (sym (some_more replies r)) ∙ among_some (replies ++ r ∷ [])

pub answered_more : {W : Type 0} (answers : W → Wanted → Option Reply → W → Type 0) (w : W) (cs : List Wanted) (given : List (Option Reply)) (u : W) (c : Wanted) (a : Option Reply) (v : W)
    → Answered answers w cs given u → answers u c a v → Answered answers w (cs ++ c ∷ []) (given ++ a ∷ []) v
answered_more answers w [] [] u c a v so h = (v, subst (λ at. answers at c a v) (sym so) h, refl)
answered_more answers w [] (x ∷ given) u c a v so h = absurd so
answered_more answers w (b ∷ cs) [] u c a v so h = absurd so
answered_more answers w (b ∷ cs) (x ∷ given) u c a v so h = (so.0, so.1, answered_more answers so.0 cs given u c a v so.2 h)

-- ---- calls

pub next_calls : (p : ProgramData) (s : Session) (n : ℕ) (x : Moment) (w : Option Wanted) → moment p s n ≡ Some x → is_running x.phase ≡ true → wanted p x ≡ w
    → calls p s (n + 1) ≡ calls p s n ++ call_of w
next_calls p s n x w e h same =
    let next : n + 1 ≡ suc n = omega arith in
    ap (calls p s) next ∙ ap (λ at. calls p s n ++ call_at p at) e ∙ ap (λ b. calls p s n ++ (if b then call_of (wanted p x) else [])) h ∙ ap (λ found. calls p s n ++ call_of found) same

-- ---- a play so far

pub record IsPlayed {W : Type 0} (answers : W → Wanted → Option Reply → W → Type 0) (p : ProgramData) (roots : List Root) (at : ℕ) (w u : W) (q : Progress) (replies : List Reply) : Type 0 where
  pub moment_is : moment p (session roots replies) at ≡ Some (standing p q [])
  pub answered : Answered answers w (calls p (session roots replies) at) (answers_in replies q.phase) u

-- with the reply that has come
with_reply : (p : ProgramData) (roots : List Root) (at : ℕ) (q : Progress) (replies : List Reply) (r : Reply) → is_running q.phase ≡ true
    → moment p (session roots replies) at ≡ Some (standing p q []) → moment p (session roots (replies ++ r ∷ [])) at ≡ Some (standing p q (r ∷ []))
with_reply p roots at q replies r h e =
    moment_longer p roots replies (r ∷ []) at (subst Goes (sym e) (no_wait q.phase h)) ∙ ap (option_map _) e

calls_with_reply : (p : ProgramData) (roots : List Root) (at : ℕ) (q : Progress) (replies : List Reply) (r : Reply) → is_running q.phase ≡ true
    → moment p (session roots replies) at ≡ Some (standing p q []) → calls p (session roots (replies ++ r ∷ [])) at ≡ calls p (session roots replies) at
calls_with_reply p roots at q replies r h e = calls_longer p roots replies (r ∷ []) at (subst Goes (sym e) (no_wait q.phase h))

-- the answers so far
so_far : {W : Type 0} (answers : W → Wanted → Option Reply → W → Type 0) (p : ProgramData) (roots : List Root) (at : ℕ) (w u : W) (q : Progress) (replies : List Reply)
    → is_running q.phase ≡ true → IsPlayed answers p roots at w u q replies → Answered answers w (calls p (session roots replies) at) (some_of replies) u
so_far answers p roots at w u q replies h so =
    subst (λ given. Answered answers w (calls p (session roots replies) at) given u) (only_replies replies q.phase (no_wait q.phase h)) so.answered

alone : {W : Type 0} (answers : W → Wanted → Option Reply → W → Type 0) (p : ProgramData) (roots : List Root) (at : ℕ) (w u : W) (q r : Progress) (replies : List Reply)
    → is_running q.phase ≡ true → IsPlayed answers p roots at w u q replies → Wants p q None → Begins p q None r → IsPlayed answers p roots (at + 1) w u r replies
alone answers p roots at w u q r replies h so wants begins =
    let x : Moment = standing p q [] in
    let goes : Goes (begun p x) = subst Goes (sym (ap (begun_with p x) (wants []))) (came_goes p x (step p x.state None) (no_wait q.phase h)) in
    let goes_so : is_waiting r.phase ≡ false = subst Goes (begins []) goes in
    let same : calls p (session roots replies) (at + 1) ≡ calls p (session roots replies) at =
    next_calls p (session roots replies) at x None so.moment_is h (wants []) ∙ append-nil (calls p (session roots replies) at) in
    record {
      moment_is = goes_on p (session roots replies) at x (Some (standing p r [])) so.moment_is h (begins []);
      answered = subst (λ cs. Answered answers w cs (answers_in replies r.phase) u) (sym same)
          (subst (λ given. Answered answers w (calls p (session roots replies) at) given u) (sym (only_replies replies r.phase goes_so)) (so_far answers p roots at w u q replies h so));
    }

out : {W : Type 0} (answers : W → Wanted → Option Reply → W → Type 0) (p : ProgramData) (roots : List Root) (at : ℕ) (w u v : W) (q r : Progress) (replies : List Reply) (call : Wanted)
    → is_running q.phase ≡ true → IsPlayed answers p roots at w u q replies → Wants p q (Some call) → answers u call None v → Waits p call q r → IsPlayed answers p roots (at + 1) w v r replies
out answers p roots at w u v q r replies call h so wants gave waits =
    let x : Moment = standing p q [] in
    let how : r.phase ≡ phase.Waiting call.name = ap (λ (m : Moment). m.phase) (waits []) in
    record {
      moment_is = goes_on p (session roots replies) at x (Some (standing p r [])) so.moment_is h (waits_now p q call (standing p r []) (wants []) (waits []));
      answered = subst (λ cs. Answered answers w cs (answers_in replies r.phase) v) (sym (next_calls p (session roots replies) at x (Some call) so.moment_is h (wants [])))
          (subst (λ last. Answered answers w (calls p (session roots replies) at ++ call ∷ []) (some_of replies ++ last_answer last) v) (sym how)
          (answered_more answers w _ _ u call None v (so_far answers p roots at w u q replies h so) gave));
    }

replied_one : {W : Type 0} (answers : W → Wanted → Option Reply → W → Type 0) (p : ProgramData) (roots : List Root) (at : ℕ) (w u v : W) (q : Progress) (replies : List Reply) (call : Wanted) (reply : Reply)
    → is_running q.phase ≡ true → IsPlayed answers p roots at w u q replies → Wants p q (Some call) → answers u call (Some reply) v
    → Answered answers w (calls p (session roots (replies ++ reply ∷ [])) (at + 1)) (some_of replies ++ Some reply ∷ []) v
replied_one answers p roots at w u v q replies call reply h so wants gave =
    let s : Session = session roots (replies ++ reply ∷ []) in
    let same : calls p s (at + 1) ≡ calls p (session roots replies) at ++ call ∷ [] =
    next_calls p s at (standing p q (reply ∷ [])) (Some call) (with_reply p roots at q replies reply h so.moment_is) h (wants (reply ∷ []))
    ∙ ap (λ cs. cs ++ call ∷ []) (calls_with_reply p roots at q replies reply h so.moment_is) in
    subst (λ cs. Answered answers w cs (some_of replies ++ Some reply ∷ []) v) (sym same) (answered_more answers w _ _ u call (Some reply) v (so_far answers p roots at w u q replies h so) gave)

reply_one : {W : Type 0} (answers : W → Wanted → Option Reply → W → Type 0) (p : ProgramData) (roots : List Root) (at : ℕ) (w u v : W) (q r : Progress) (replies : List Reply) (call : Wanted) (reply : Reply)
    → is_running q.phase ≡ true → IsPlayed answers p roots at w u q replies → Wants p q (Some call) → answers u call (Some reply) v → Replies p q reply r
    → IsPlayed answers p roots (at + 1) w v r (replies ++ reply ∷ [])
reply_one answers p roots at w u v q r replies call reply h so wants gave replied =
    let x : Moment = standing p q (reply ∷ []) in
    let goes : Goes (begun p x) = subst Goes (sym (ap (begun_with p x) (wants (reply ∷ []))))
    (came_goes p (told (event.Asked call reply) (standing p q [])) (step p x.state (Some reply)) (no_wait q.phase h)) in
    let goes_so : is_waiting r.phase ≡ false = subst Goes (replied []) goes in
    record {
      moment_is = goes_on p (session roots (replies ++ reply ∷ [])) at x (Some (standing p r [])) (with_reply p roots at q replies reply h so.moment_is) h (replied []);
      answered = subst (λ given. Answered answers w (calls p (session roots (replies ++ reply ∷ [])) (at + 1)) given v)
          (sym (only_replies (replies ++ reply ∷ []) r.phase goes_so ∙ some_more replies reply)) (replied_one answers p roots at w u v q replies call reply h so wants gave);
    }

pub plays_on : {W : Type 0} (answers : W → Wanted → Option Reply → W → Type 0) (p : ProgramData) (roots : List Root) (at : ℕ) (w u v : W) (q r : Progress) (replies now : List Reply)
    → is_running q.phase ≡ true → IsPlayed answers p roots at w u q replies → PlaysOn answers p q replies u r now v → IsPlayed answers p roots (at + 1) w v r now
plays_on answers p roots at w u v q r replies now h so (inl a) =
    subst (λ rs. IsPlayed answers p roots (at + 1) w v r rs) (sym a.replies_are)
    (subst (λ x. IsPlayed answers p roots (at + 1) w x r replies) (sym a.world_is) (alone answers p roots at w u q r replies h so a.wants a.begins))
plays_on answers p roots at w u v q r replies now h so (inr (inl a)) =
    subst (λ rs. IsPlayed answers p roots (at + 1) w v r rs) (sym a.replies_are) (out answers p roots at w u v q r replies a.call h so a.wants a.answered a.waits)
plays_on answers p roots at w u v q r replies now h so (inr (inr a)) =
    subst (λ rs. IsPlayed answers p roots (at + 1) w v r rs) (sym a.replies_are) (reply_one answers p roots at w u v q r replies a.call a.reply h so a.wants a.answered a.replied)

-- ---- a play that fails

stops_now : {W : Type 0} (answers : W → Wanted → Option Reply → W → Type 0) (p : ProgramData) (roots : List Root) (n at : ℕ) (w u : W) (q : Progress) (replies : List Reply)
    → is_running q.phase ≡ true → IsPlayed answers p roots at w u q replies → at < n → Stops answers p roots n w u
stops_now answers p roots n at w u q replies h so less = record {
  given = some_of replies;
  at = at;
  within = omega (arith, less);
  answered = subst (λ rs. Answered answers w (calls p (session roots rs) at) (some_of replies) u) (sym (among_some replies)) (so_far answers p roots at w u q replies h so);
}

stops_behind : {W : Type 0} (answers : W → Wanted → Option Reply → W → Type 0) (p : ProgramData) (roots : List Root) (n at : ℕ) (w u v : W) (q : Progress) (replies : List Reply)
    → is_running q.phase ≡ true → IsPlayed answers p roots at w u q replies → at < n → FailsBehind answers p q u v → Stops answers p roots n w v
stops_behind answers p roots n at w u v q replies h so less b = record {
  given = some_of replies ++ Some b.reply ∷ [];
  at = at + 1;
  within = omega (arith, less);
  answered = subst (λ rs. Answered answers w (calls p (session roots rs) (at + 1)) (some_of replies ++ Some b.reply ∷ []) v) (sym (among_more replies b.reply))
      (replied_one answers p roots at w u v q replies b.call b.reply h so b.wants b.answered);
}

breaks_now : {W : Type 0} (answers : W → Wanted → Option Reply → W → Type 0) (breaks : W → Wanted → W → Type 0) (p : ProgramData) (roots : List Root) (n at : ℕ) (w u v : W) (q : Progress) (replies : List Reply)
    → is_running q.phase ≡ true → IsPlayed answers p roots at w u q replies → at < n → WorldFails breaks p q u v → Breaks answers breaks p roots n w v
breaks_now answers breaks p roots n at w u v q replies h so less b = record {
  given = some_of replies;
  at = at + 1;
  within = omega (arith, less);
  before = calls p (session roots replies) at;
  call = b.call;
  are = ap (λ rs. calls p (session roots rs) (at + 1)) (among_some replies) ∙ next_calls p (session roots replies) at (standing p q []) (Some b.call) so.moment_is h (b.wants []);
  until = u;
  answered = so_far answers p roots at w u q replies h so;
  broke = b.broke;
}

pub play_fails : {W : Type 0} (answers : W → Wanted → Option Reply → W → Type 0) (breaks : W → Wanted → W → Type 0) (p : ProgramData) (roots : List Root) (n at : ℕ) (w u v : W) (q : Progress)
    (replies : List Reply) (f : WorldFault) → is_running q.phase ≡ true → IsPlayed answers p roots at w u q replies → at < n → PlayFails answers breaks p q u v f → Fails answers breaks p roots n w v f
play_fails answers breaks p roots n at w u v q replies fault.Source h so less b = breaks_now answers breaks p roots n at w u v q replies h so less b
play_fails answers breaks p roots n at w u v q replies fault.Sink h so less b = breaks_now answers breaks p roots n at w u v q replies h so less b
play_fails answers breaks p roots n at w u v q replies fault.OutOfMemory h so less (inl e) = inl (subst (λ x. Stops answers p roots n w x) (sym e) (stops_now answers p roots n at w u q replies h so less))
play_fails answers breaks p roots n at w u v q replies fault.OutOfMemory h so less (inr (inl b)) = inr (breaks_now answers breaks p roots n at w u v q replies h so less b)
play_fails answers breaks p roots n at w u v q replies fault.OutOfMemory h so less (inr (inr b)) = inl (stops_behind answers p roots n at w u v q replies h so less b)

-- ---- the start

-- Nothing was asked yet.
pub stops_first : {W : Type 0} (answers : W → Wanted → Option Reply → W → Type 0) (p : ProgramData) (roots : List Root) (n : ℕ) (w : W) → Stops answers p roots n w w
stops_first answers p roots n w = record { given = []; at = 0; within = omega arith; answered = refl }

-- The world failed at the call at hand.
pub fails_at : {W : Type 0} (answers : W → Wanted → Option Reply → W → Type 0) (breaks : W → Wanted → W → Type 0) (p : ProgramData) (q : Progress) (w u : W) (f : WorldFault)
    → WorldFails breaks p q w u → PlayFails answers breaks p q w u f
fails_at answers breaks p q w u fault.Source b = b
fails_at answers breaks p q w u fault.Sink b = b
fails_at answers breaks p q w u fault.OutOfMemory b = inr (inl b)

-- the first root is entered
starts_goes_from : (p : ProgramData) (roots : List Root) (s : Option StateData)
    → Goes (option_and_then (λ st. enters p (record { state = st; roots = roots; replies = []; trace = []; phase = phase.Running; steps = 0 }) roots) s)
starts_goes_from p roots None = tt
starts_goes_from p roots (Some st) = enters_goes p (record { state = st; roots = roots; replies = []; trace = []; phase = phase.Running; steps = 0 }) roots refl

pub first_played : {W : Type 0} (answers : W → Wanted → Option Reply → W → Type 0) (p : ProgramData) (roots : List Root) (w : W) (q : Progress) (replies : List Reply) → replies ≡ []
    → starts p (session roots []) ≡ Some (standing p q []) → IsPlayed answers p roots 0 w w q replies
first_played answers p roots w q replies none e =
    let goes_so : is_waiting q.phase ≡ false = subst Goes e (starts_goes_from p roots (given (start p))) in
    subst (λ rs. IsPlayed answers p roots 0 w w q rs) (sym none) (record {
      moment_is = e;
      answered = subst (λ given. Answered answers w [] given w) (sym (only_replies [] q.phase goes_so)) refl;
    })
