use Rattle.std.proofs.Common.{◌≡◌, ◌∙◌, ◌<◌, true, [], Some, option_map, refl, inl, sym, ap, subst, arith}
use Rattle.session_runs.specs.declared.session.Run.{Run}
use Rattle.session_runs.specs.Runs.{is_running, shown_run, calls}
use Rattle.session_runs.specs.Worlds.{session, Answered, answers_in}
use Rattle.session_runs.specs.Mirrors.Progressing.{standing}
use Rattle.session_runs.proofs.Ended.{comes_to, calls_come_to, goes_so}
use Rattle.session_runs.proofs.PlayedSoFar.{stops_first, first_played, plays_on, play_fails}
use Rattle.session_runs.proofs.plays.play.Goals as goal

pub returns-in-Err-clause-fails : goal.returns-in-Err-clause-fails
returns-in-Err-clause-fails g c = inl (stops_first g.W.World.answers c.args.p.now c.args.roots.now c.args.n c.args.world.now)

pub steps-init : goal.steps-init
steps-init g c = record {
  played = first_played g.W.World.answers c.args.p.now c.args.roots.now c.args.world.now c.in-Ok.progress c.new-replies.result c.new-replies.ensures (c.in-Ok.ensures.starts []);
  going = c.in-Ok.ensures.going;
  steps = omega (arith, c.in-Ok.ensures.steps);
  within = omega arith;
  source = refl;
  sink = refl;
}

pub steps-preserved : goal.steps-preserved
steps-preserved g c =
    let so : (c.steps.at < c.args.n) × (is_running c.steps.progress.phase ≡ true) =
    goes_so c.steps.at c.args.n (is_running c.steps.progress.phase) c.goes_on.result c.goes_on.ensures c.steps-test.true in
    record {
      played = plays_on g.W.World.answers c.args.p.now c.args.roots.now c.steps.at c.args.world.now c.steps.world c.play_on.new.world c.steps.progress c.play_on.new.progress c.steps.replies
          c.play_on.new.replies so.1 c.steps.invariant.played c.in-Ok-play_on.ensures.goes;
      going = c.in-Ok-play_on.ensures.going;
      steps = omega (arith, c.in-Ok-play_on.ensures.steps, c.steps.invariant.steps);
      within = omega (arith, so.0);
      source = c.in-Ok-play_on.ensures.source_stays (λ e. cc) ∙ c.steps.invariant.source;
      sink = c.in-Ok-play_on.ensures.sink_stays (λ e. cc) ∙ c.steps.invariant.sink;
    }

pub returns-in-Err-play_on-clause-fails : goal.returns-in-Err-play_on-clause-fails
returns-in-Err-play_on-clause-fails g c =
    let so : (c.steps.at < c.args.n) × (is_running c.steps.progress.phase ≡ true) =
    goes_so c.steps.at c.args.n (is_running c.steps.progress.phase) c.goes_on.result c.goes_on.ensures c.steps-test.true in
    play_fails g.W.World.answers g.W.World.breaks c.args.p.now c.args.roots.now c.args.n c.steps.at c.args.world.now c.steps.world c.play_on.new.world c.steps.progress c.steps.replies
    c.in-Err-play_on.fault so.1 c.steps.invariant.played so.0 c.in-Err-play_on.ensures.fails

pub returns-clause-run : goal.returns-clause-run
returns-clause-run g c =
    ap (option_map shown_run) (comes_to c.args.p.now (session c.args.roots.now c.steps.replies) c.steps.at c.args.n (standing c.args.p.now c.steps.progress []) c.steps.invariant.within
    (sym c.goes_on.ensures ∙ c.steps-test.false) c.steps.invariant.played.moment_is)
    ∙ ap (λ (r : Run). Some r) (sym c.into_run.ensures)

pub returns-clause-world : goal.returns-clause-world
returns-clause-world g c =
    let shown : c.into_run.result.phase ≡ c.steps.progress.phase = ap (λ (r : Run). r.phase) c.into_run.ensures in
    subst (λ cs. Answered g.W.World.answers c.args.world.now cs (answers_in c.steps.replies c.into_run.result.phase) c.steps.world)
    (sym (calls_come_to c.args.p.now (session c.args.roots.now c.steps.replies) c.steps.at c.args.n (standing c.args.p.now c.steps.progress []) c.steps.invariant.within
    (sym c.goes_on.ensures ∙ c.steps-test.false) c.steps.invariant.played.moment_is))
    (subst (λ how. Answered g.W.World.answers c.args.world.now (calls c.args.p.now (session c.args.roots.now c.steps.replies) c.steps.at) (answers_in c.steps.replies how) c.steps.world)
    (sym shown) c.steps.invariant.played.answered)
