-- What a play with the small world gives, and what its failures leave.
use Rattle.std.proofs.Common.{◌≡◌, ◌∙◌, inl, inr, ℕ, ◌≤◌, List, [], ◌∷◌, ◌++◌, take, drop, Option, Some, Result, Ok, Err, refl, sym, ap, subst, append_assoc, append-nil}
use Rattle.std.specs.Prelude.{IfOk, IfErr, OnErr}
use Rattle.std.proofs.lemmas.List.{take-append-drop}
use Rattle.ir_syntax.specs.Programs.{ProgramData}
use Rattle.ir_steps.specs.declared.session.Reply.{Reply}
use Rattle.ir_steps.specs.declared.session.Wanted.{Wanted}
use Rattle.session_runs.specs.declared.session.Root.{Root}
use Rattle.session_runs.specs.declared.session.Run.{Run}
use Rattle.session_runs.specs.declared.plays.Played.{Played}
use Rattle.session_runs.specs.declared.session.Phase.{Phase}
use Rattle.session_runs.specs.declared.session.Phase.TheVariants as phase
use Rattle.session_runs.specs.declared.world.WorldFault.{WorldFault}
use Rattle.session_runs.specs.declared.world.WorldFault.TheVariants as fault
use Rattle.session_runs.specs.Runs.{run, calls}
use Rattle.session_runs.specs.Tiny.{TinyData, Written, BreaksAt, deed, text_written}
use Rattle.session_runs.specs.Worlds.{Answered, replies_among, session, last_answer, answers_in, Stops, Breaks, Fails}
use Rattle.program_runner.specs.TinyRuns.{AreAnswers, text_of}
use Rattle.program_runner.specs.Mirrors.Playing.{IsPlayed, IsBroken}
use Rattle.program_runner.proofs.Texts.{AreTiny, all_answers, all_written, writes_two, took_all, TookFront, took_front, text_of_more}

-- ---- replies among answers

none_among : (how : Phase) → replies_among (last_answer how) ≡ []
none_among phase.Running = refl
none_among (phase.Waiting name) = refl
none_among phase.Finished = refl
none_among (phase.Exited n) = refl
none_among phase.Aborted = refl
none_among (phase.Undefined why) = refl

among_answers : (replies : List Reply) (how : Phase) → replies_among (answers_in replies how) ≡ replies
among_answers [] how = none_among how
among_answers (r ∷ replies) how = ap (λ rest. r ∷ rest) (among_answers replies how)

-- ---- a play that comes to an end

-- all is written behind it
pub played : (p : ProgramData) (roots : List Root) (n : ℕ) (source taken mid now : Option (List ℕ)) (waits : List ℕ) (replies : List Reply) (shown : Run) → run p (session roots replies) n ≡ Some shown
    → AreAnswers source (calls p (session roots replies) n) (answers_in replies shown.phase) → Written taken mid [] waits (text_of (calls p (session roots replies) n)) → Written mid now waits [] []
    → IsPlayed p roots n source taken now shown
played p roots n source taken mid now waits replies shown is answered written flushed =
    let text : List ℕ = text_of (calls p (session roots replies) n) in
    let all : Written taken now [] [] (text ++ []) = writes_two taken mid now [] waits [] text [] written flushed in
    record {
      text = text;
      is = record { replies = replies; run_is = is; answered = answered; text_is = refl };
      took = took_all taken now text (subst (λ (s : List ℕ). Written taken now [] [] s) (append-nil text) all);
    }

-- ---- a play that fails, or whose last bytes aren't written

-- the calls that were asked, whose texts the sink took a front of
broken_at : (p : ProgramData) (roots : List Root) (n : ℕ) (source taken now : Option (List ℕ)) (waits : List ℕ) (asked next : List Wanted) (given : List (Option Reply)) (at : ℕ) (text behind : List ℕ) → at ≤ n
    → AreAnswers source asked given → calls p (session roots (replies_among given)) at ≡ asked ++ next → text ++ behind ≡ text_of (asked ++ next) → Written taken now [] waits text
    → IsBroken p roots n source taken now
broken_at p roots n source taken now waits asked next given at text behind within answered first whole written =
    let t : TookFront taken now text = took_front taken now waits text written in
    record {
      text = t.front;
      is = record {
        asked = asked;
        given = given;
        answered = answered;
        next = next;
        at = at;
        within = within;
        first = first;
        behind = t.behind ++ behind;
        front = sym (append_assoc t.front t.behind behind) ∙ ap (λ s. s ++ behind) t.is ∙ whole;
      };
      took = t.took;
    }

-- where it comes to an end, but a part waits still
pub unwritten : (p : ProgramData) (roots : List Root) (n : ℕ) (source taken mid now : Option (List ℕ)) (waits later : List ℕ) (replies : List Reply) (how : Phase) → n ≤ n
    → AreAnswers source (calls p (session roots replies) n) (answers_in replies how) → Written taken mid [] waits (text_of (calls p (session roots replies) n)) → Written mid now waits later []
    → IsBroken p roots n source taken now
unwritten p roots n source taken mid now waits later replies how within answered written flushed =
    let asked = calls p (session roots replies) n in
    let all : Written taken now [] later (text_of asked ++ []) = writes_two taken mid now [] waits later (text_of asked) [] written flushed in
    broken_at p roots n source taken now later asked [] (answers_in replies how) n (text_of asked) [] within answered
    (ap (λ rs. calls p (session roots rs) n) (among_answers replies how) ∙ sym (append-nil asked))
    (append-nil (text_of asked) ∙ ap text_of (sym (append-nil asked))) (subst (λ (s : List ℕ). Written taken now [] later s) (append-nil (text_of asked)) all)

stopped : {W : Type 0} (answers : W → Wanted → Option Reply → W → Type 0) (view : W → TinyData) (tiny : AreTiny answers view) (p : ProgramData) (roots : List Root) (n : ℕ) (w u : W)
    → (view w).pending ≡ [] → Stops answers p roots n w u → IsBroken p roots n (view w).left (view w).taken (view u).taken
stopped answers view tiny p roots n w u none so =
    let asked = calls p (session roots (replies_among so.given)) so.at in
    let from : Written (view w).taken (view u).taken [] (view u).pending (text_of asked) = subst (λ (s : List ℕ). Written (view w).taken (view u).taken s (view u).pending (text_of asked)) none
    (all_written answers view tiny w asked so.given u so.answered) in
    broken_at p roots n (view w).left (view w).taken (view u).taken (view u).pending asked [] so.given so.at (text_of asked) [] so.within
    (all_answers answers view tiny w asked so.given u so.answered) (sym (append-nil asked))
    (append-nil (text_of asked) ∙ ap text_of (sym (append-nil asked))) from

-- What a world's failures leave, as a small one's.
pub record BreakTiny {W : Type 0} (breaks : W → Wanted → W → Type 0) (view : W → TinyData) : Type 0 where
  pub shows : (w : W) (call : Wanted) (u : W) → breaks w call u → BreaksAt (text_written (deed call)) (view w) (view u)

broke : {W : Type 0} (answers : W → Wanted → Option Reply → W → Type 0) (breaks : W → Wanted → W → Type 0) (view : W → TinyData) (tiny : AreTiny answers view) (tiny_breaks : BreakTiny breaks view) (p : ProgramData)
    (roots : List Root) (n : ℕ) (w u : W) → (view w).pending ≡ [] → Breaks answers breaks p roots n w u → IsBroken p roots n (view w).left (view w).taken (view u).taken
broke answers breaks view tiny tiny_breaks p roots n w u none so =
    let b = tiny_breaks.shows so.until so.call u so.broke in
    let last : List ℕ = text_written (deed so.call) in
    let both : Written (view w).taken (view u).taken (view w).pending (view u).pending (text_of so.before ++ take b.many last) =
    writes_two (view w).taken (view so.until).taken (view u).taken (view w).pending (view so.until).pending (view u).pending (text_of so.before) (take b.many last)
    (all_written answers view tiny w so.before so.given so.until so.answered) b.written in
    let from : Written (view w).taken (view u).taken [] (view u).pending (text_of so.before ++ take b.many last) =
    subst (λ (s : List ℕ). Written (view w).taken (view u).taken s (view u).pending (text_of so.before ++ take b.many last)) none both in
    broken_at p roots n (view w).left (view w).taken (view u).taken (view u).pending so.before (so.call ∷ []) so.given so.at (text_of so.before ++ take b.many last) (drop b.many last) so.within
    (all_answers answers view tiny w so.before so.given so.until so.answered) so.are
    (append_assoc (text_of so.before) (take b.many last) (drop b.many last) ∙ ap (λ s. text_of so.before ++ s) (take-append-drop b.many last ∙ sym (append-nil last))
    ∙ sym (text_of_more so.before (so.call ∷ []))) from

pub failed : {W : Type 0} (answers : W → Wanted → Option Reply → W → Type 0) (breaks : W → Wanted → W → Type 0) (view : W → TinyData) (tiny : AreTiny answers view) (tiny_breaks : BreakTiny breaks view) (p : ProgramData)
    (roots : List Root) (n : ℕ) (w u : W) (f : WorldFault) → (view w).pending ≡ [] → Fails answers breaks p roots n w u f → IsBroken p roots n (view w).left (view w).taken (view u).taken
failed answers breaks view tiny tiny_breaks p roots n w u fault.Source none so = broke answers breaks view tiny tiny_breaks p roots n w u none so
failed answers breaks view tiny tiny_breaks p roots n w u fault.Sink none so = broke answers breaks view tiny tiny_breaks p roots n w u none so
failed answers breaks view tiny tiny_breaks p roots n w u fault.OutOfMemory none (inl so) = stopped answers view tiny p roots n w u none so
failed answers breaks view tiny tiny_breaks p roots n w u fault.OutOfMemory none (inr so) = broke answers breaks view tiny tiny_breaks p roots n w u none so

-- ---- what stays the same through a play

-- a part of a world that no call and no failure changes
pub record Stays {W A : Type 0} (answers : W → Wanted → Option Reply → W → Type 0) (breaks : W → Wanted → W → Type 0) (part : W → A) : Type 0 where
  pub answer : (w : W) (call : Wanted) (a : Option Reply) (u : W) → answers w call a u → part u ≡ part w
  pub break : (w : W) (call : Wanted) (u : W) → breaks w call u → part u ≡ part w

pub stays_answered : {W A : Type 0} (answers : W → Wanted → Option Reply → W → Type 0) (breaks : W → Wanted → W → Type 0) (part : W → A) (stays : Stays answers breaks part) (w : W) (asked : List Wanted)
    (given : List (Option Reply)) (u : W) → Answered answers w asked given u → part u ≡ part w
stays_answered answers breaks part stays w [] [] u so = ap part (sym so)
stays_answered answers breaks part stays w [] (a ∷ more) u so = absurd so
stays_answered answers breaks part stays w (call ∷ rest) [] u so = absurd so
stays_answered answers breaks part stays w (call ∷ rest) (a ∷ more) u (v, one, later) = stays_answered answers breaks part stays v rest more u later ∙ stays.answer w call a v one

stays_broken : {W A : Type 0} (answers : W → Wanted → Option Reply → W → Type 0) (breaks : W → Wanted → W → Type 0) (part : W → A) (stays : Stays answers breaks part) (p : ProgramData) (roots : List Root) (n : ℕ) (w u : W)
    → Breaks answers breaks p roots n w u → part u ≡ part w
stays_broken answers breaks part stays p roots n w u so = stays.break so.until so.call u so.broke ∙ stays_answered answers breaks part stays w so.before so.given so.until so.answered

pub stays_failed : {W A : Type 0} (answers : W → Wanted → Option Reply → W → Type 0) (breaks : W → Wanted → W → Type 0) (part : W → A) (stays : Stays answers breaks part) (p : ProgramData) (roots : List Root) (n : ℕ) (w u : W) (f : WorldFault)
    → Fails answers breaks p roots n w u f → part u ≡ part w
stays_failed answers breaks part stays p roots n w u fault.Source so = stays_broken answers breaks part stays p roots n w u so
stays_failed answers breaks part stays p roots n w u fault.Sink so = stays_broken answers breaks part stays p roots n w u so
stays_failed answers breaks part stays p roots n w u fault.OutOfMemory (inl so) =
    stays_answered answers breaks part stays w (calls p (session roots (replies_among so.given)) so.at) so.given u so.answered
stays_failed answers breaks part stays p roots n w u fault.OutOfMemory (inr so) = stays_broken answers breaks part stays p roots n w u so

-- ---- a play's answer

pub small_stays : {W A : Type 0} (answers : W → Wanted → Option Reply → W → Type 0) (breaks : W → Wanted → W → Type 0) (part : W → A) (stays : Stays answers breaks part) (p : ProgramData) (roots : List Root) (n : ℕ) (w u : W)
    (result : Result Played WorldFault) → IfOk result (λ played. Answered answers w (calls p (session roots played.replies) n) (answers_in played.replies played.run.phase) u)
    → IfErr result (λ f. Fails answers breaks p roots n w u f) → part u ≡ part w
small_stays answers breaks part stays p roots n w u (Ok played) world fails =
    stays_answered answers breaks part stays w (calls p (session roots played.replies) n) (answers_in played.replies played.run.phase) u world
small_stays answers breaks part stays p roots n w u (Err f) world fails = stays_failed answers breaks part stays p roots n w u f fails

pub small_answered : {W : Type 0} (answers : W → Wanted → Option Reply → W → Type 0) (view : W → TinyData) (tiny : AreTiny answers view) (p : ProgramData) (roots : List Root) (n : ℕ) (w u : W) (result : Result Played WorldFault)
    → IfOk result (λ played. Answered answers w (calls p (session roots played.replies) n) (answers_in played.replies played.run.phase) u)
    → IfOk result (λ played. AreAnswers (view w).left (calls p (session roots played.replies) n) (answers_in played.replies played.run.phase))
small_answered answers view tiny p roots n w u (Ok played) world =
    all_answers answers view tiny w (calls p (session roots played.replies) n) (answers_in played.replies played.run.phase) u world
small_answered answers view tiny p roots n w u (Err f) world = tt

pub small_written : {W : Type 0} (answers : W → Wanted → Option Reply → W → Type 0) (view : W → TinyData) (tiny : AreTiny answers view) (p : ProgramData) (roots : List Root) (n : ℕ) (w u : W) (result : Result Played WorldFault)
    → (view w).pending ≡ [] → IfOk result (λ played. Answered answers w (calls p (session roots played.replies) n) (answers_in played.replies played.run.phase) u)
    → IfOk result (λ played. Written (view w).taken (view u).taken [] (view u).pending (text_of (calls p (session roots played.replies) n)))
small_written answers view tiny p roots n w u (Ok played) none world =
    let asked = calls p (session roots played.replies) n in
    subst (λ (s : List ℕ). Written (view w).taken (view u).taken s (view u).pending (text_of asked)) none
    (all_written answers view tiny w asked (answers_in played.replies played.run.phase) u world)
small_written answers view tiny p roots n w u (Err f) none world = tt

pub small_broken : {W : Type 0} (answers : W → Wanted → Option Reply → W → Type 0) (breaks : W → Wanted → W → Type 0) (view : W → TinyData) (tiny : AreTiny answers view) (tiny_breaks : BreakTiny breaks view) (p : ProgramData)
    (roots : List Root) (n : ℕ) (w u : W) (result : Result Played WorldFault) → (view w).pending ≡ [] → IfErr result (λ f. Fails answers breaks p roots n w u f)
    → OnErr result (IsBroken p roots n (view w).left (view w).taken (view u).taken)
small_broken answers breaks view tiny tiny_breaks p roots n w u (Ok played) none fails = tt
small_broken answers breaks view tiny tiny_breaks p roots n w u (Err f) none fails = failed answers breaks view tiny tiny_breaks p roots n w u f none fails
