use Rattle.std.proofs.Common.{ap}
use Rattle.session_runs.proofs.Going.{on_err}
use Rattle.session_runs.proofs.Writing.{goes_behind, breaks_behind}
use Rattle.session_runs.proofs.tiny.TinyWorld.write.Goals as goal

pub returns-then-as_slice-ge-ROOM-clause-broke : goal.returns-then-as_slice-ge-ROOM-clause-broke
returns-then-as_slice-ge-ROOM-clause-broke g c =
    on_err c.pass.result (breaks_behind c.args.text.now
    (record { left = g.I.Source.left c.args.self.now.source.now; taken = g.O.Sink.taken c.args.self.now.sink.now; pending = c.args.self.now.pending.now })
    (record { left = g.I.Source.left c.pass.new.self.source.now; taken = g.O.Sink.taken c.pass.new.self.sink.now; pending = c.pass.new.self.pending.now })
    (goes_behind (g.O.Sink.taken c.args.self.now.sink.now) (g.O.Sink.taken c.pass.new.self.sink.now) c.args.self.now.pending.now c.append.new.self c.pass.new.self.pending.now c.args.text.now
    c.in_ok-append.ensures.ok c.pass.ensures.written)
    (ap g.I.Source.left c.pass.ensures.source))
