use Rattle.std.proofs.Common.{◌∙◌, Some, option_map, sym, ap, arith}
use Rattle.session_runs.specs.declared.session.Run.{Run}
use Rattle.session_runs.specs.Runs.{shown_run}
use Rattle.session_runs.specs.Mirrors.Progressing.{standing}
use Rattle.session_runs.proofs.Ended.{comes_to}
use Rattle.session_runs.proofs.Entering.{starts_with}
use Rattle.session_runs.proofs.running.run_session.Goals as goal

pub steps-init : goal.steps-init
steps-init c = record {
  moment_is = starts_with c.args.p.now c.args.session.now c.as_slice.result.now c.as_slice-replies.result.now c.in_ok-progress.progress c.as_slice.ensures c.as_slice-replies.ensures
      c.in_ok-progress.ensures.starts;
  going = c.in_ok-progress.ensures.going;
  steps = omega (arith, c.in_ok-progress.ensures.steps);
  within = omega arith;
}

pub returns : goal.returns
returns c =
    ap (option_map shown_run) (comes_to c.args.p.now c.args.session.now c.steps.at c.args.n (standing c.args.p.now c.steps.progress c.steps.replies.now) c.steps.invariant.within
    (sym c.goes_on.ensures ∙ c.steps-test.false) c.steps.invariant.moment_is)
    ∙ ap (λ (r : Run). Some r) (sym c.into_run.ensures)
