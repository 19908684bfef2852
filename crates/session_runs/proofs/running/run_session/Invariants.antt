-- the run after as many begun steps, with the replies that are left
use Rattle.std.proofs.Common.{◌≡◌, ◌≤◌, ◌-◌, Some}
use Rattle.session_runs.specs.Runs.{moment}
use Rattle.session_runs.specs.Mirrors.Progressing.{standing, IsGoing}
use Rattle.session_runs.proofs.running.run_session.Given as goal

abbrev pub invariant-steps : goal.invariant-steps
invariant-steps l = record {
  moment_is : moment l.p l.session l.at ≡ Some (standing l.p l.progress l.replies);
  going : IsGoing l.p l.progress;
  steps : l.progress.steps ≤ l.at;
  within : l.at ≤ l.n;
}

abbrev pub decreases-steps : goal.decreases-steps
decreases-steps l = l.n - l.at
