-- the play so far, and that no count has risen
use Rattle.std.proofs.Common.{◌≡◌, ◌≤◌, ◌-◌}
use Rattle.session_runs.specs.Mirrors.Progressing.{IsGoing}
use Rattle.session_runs.proofs.PlayedSoFar.{IsPlayed}
use Rattle.session_runs.proofs.plays.play.Given as goal

abbrev pub invariant-steps : goal.invariant-steps
invariant-steps g l = record {
  played : IsPlayed g.W.World.answers l.p l.roots l.at l.fn.world l.world l.progress l.replies;
  going : IsGoing l.p l.progress;
  steps : l.progress.steps ≤ l.at;
  within : l.at ≤ l.n;
  source : g.W.World.source_faults l.world ≡ g.W.World.source_faults l.fn.world;
  sink : g.W.World.sink_faults l.world ≡ g.W.World.sink_faults l.fn.world;
}

abbrev pub decreases-steps : goal.decreases-steps
decreases-steps g l = l.n - l.at
