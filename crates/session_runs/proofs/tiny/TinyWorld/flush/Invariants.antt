-- what waited has been written so far, and the rest waits
use Rattle.std.proofs.Common.{◌≡◌, [], length}
use Rattle.session_runs.specs.Tiny.{Written}
use Rattle.session_runs.proofs.tiny.TinyWorld.flush.Given as goal

abbrev pub invariant-writing : goal.invariant-writing
invariant-writing g l = record {
  same_source : l.self.source.ghost_name ≡ l.fn.self.source.ghost_name;
  same_sink : l.self.sink.ghost_name ≡ l.fn.self.sink.ghost_name;
  same_pending : l.self.pending.ghost_name ≡ l.fn.self.pending.ghost_name;
  source : l.self.source.now ≡ l.fn.self.source.now;
  written : Written (g.O.Sink.taken l.fn.self.sink.now) (g.O.Sink.taken l.self.sink.now) l.fn.self.pending.now l.self.pending.now [];
  faults : g.O.Sink.faults l.self.sink.now ≡ g.O.Sink.faults l.fn.self.sink.now;
}

abbrev pub decreases-writing : goal.decreases-writing
decreases-writing g l = length l.self.pending.now
