use Rattle.std.proofs.Common.{rules, subst, arith, []}
use Rattle.program_runner.specs.Mirrors.Playing.{IsPlayed, IsBroken}
use Rattle.session_runs.specs.Tiny.{Written}
use Rattle.program_runner.proofs.Played.{played, unwritten}
use Rattle.program_runner.proofs.playing.play_roots.Goals as goal

pub returns-in-Ok-flush-clause-played : goal.returns-in-Ok-flush-clause-played
returns-in-Ok-flush-clause-played g c =
    let h : IsPlayed c.args.p.now c.args.roots.now c.args.n (g.I.Source.left c.new-world.result.source.now) (g.O.Sink.taken c.new-world.result.sink.now) (g.O.Sink.taken c.flush.new.self.sink.now) c.in-Ok.played.run =
    played c.args.p.now c.args.roots.now c.args.n (g.I.Source.left c.new-world.result.source.now) (g.O.Sink.taken c.new-world.result.sink.now) (g.O.Sink.taken c.play_small.new.world.sink.now)
    (g.O.Sink.taken c.flush.new.self.sink.now) c.play_small.new.world.pending.now c.in-Ok.played.replies c.in-Ok.played.run c.in-Ok.ensures.run c.in-Ok.ensures.answered c.in-Ok.ensures.written
    (subst (λ s. Written (g.O.Sink.taken c.play_small.new.world.sink.now) (g.O.Sink.taken c.flush.new.self.sink.now) c.play_small.new.world.pending.now s []) c.in-Ok-flush.ensures.none_waits c.flush.ensures.written) in
    search rules

pub returns-in-Err-Failed-clause-broken : goal.returns-in-Err-Failed-clause-broken
returns-in-Err-Failed-clause-broken g c =
    let h : IsBroken c.args.p.now c.args.roots.now c.args.n (g.I.Source.left c.new-world.result.source.now) (g.O.Sink.taken c.new-world.result.sink.now) (g.O.Sink.taken c.flush.new.self.sink.now) =
    unwritten c.args.p.now c.args.roots.now c.args.n (g.I.Source.left c.new-world.result.source.now) (g.O.Sink.taken c.new-world.result.sink.now) (g.O.Sink.taken c.play_small.new.world.sink.now)
    (g.O.Sink.taken c.flush.new.self.sink.now) c.play_small.new.world.pending.now c.flush.new.self.pending.now c.in-Ok.played.replies c.in-Ok.played.run.phase (omega arith) c.in-Ok.ensures.answered c.in-Ok.ensures.written c.flush.ensures.written in
    search rules

pub returns-clause-broken : goal.returns-clause-broken
returns-clause-broken g c =
    let h : IsBroken c.args.p.now c.args.roots.now c.args.n (g.I.Source.left c.new-world.result.source.now) (g.O.Sink.taken c.new-world.result.sink.now) (g.O.Sink.taken c.flush.new.self.sink.now) =
    unwritten c.args.p.now c.args.roots.now c.args.n (g.I.Source.left c.new-world.result.source.now) (g.O.Sink.taken c.new-world.result.sink.now) (g.O.Sink.taken c.play_small.new.world.sink.now)
    (g.O.Sink.taken c.flush.new.self.sink.now) c.play_small.new.world.pending.now c.flush.new.self.pending.now c.in-Ok.played.replies c.in-Ok.played.run.phase (omega arith) c.in-Ok.ensures.answered c.in-Ok.ensures.written c.flush.ensures.written in
    search rules
