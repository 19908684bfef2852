use Rattle.program_runner.proofs.Played.{small_stays, small_answered, small_written, small_broken}
use Rattle.program_runner.proofs.playing.play_small.Goals as goal

pub returns-clause-same_source : goal.returns-clause-same_source
returns-clause-same_source g c =
    small_stays _ _ (λ w. w.source.ghost_name) (record { answer = λ w call a u so. so.0; break = λ w call u so. so.0 }) c.args.p.now c.args.roots.now c.args.n c.args.world.now c.play.new.world c.play.result
    c.play.ensures.world c.play.ensures.fails

pub returns-clause-same_sink : goal.returns-clause-same_sink
returns-clause-same_sink g c =
    small_stays _ _ (λ w. w.sink.ghost_name) (record { answer = λ w call a u so. so.1; break = λ w call u so. so.1 }) c.args.p.now c.args.roots.now c.args.n c.args.world.now c.play.new.world c.play.result
    c.play.ensures.world c.play.ensures.fails

pub returns-clause-same_pending : goal.returns-clause-same_pending
returns-clause-same_pending g c =
    small_stays _ _ (λ w. w.pending.ghost_name) (record { answer = λ w call a u so. so.2; break = λ w call u so. so.2 }) c.args.p.now c.args.roots.now c.args.n c.args.world.now c.play.new.world c.play.result
    c.play.ensures.world c.play.ensures.fails

pub returns-clause-answered : goal.returns-clause-answered
returns-clause-answered g c =
    small_answered _ (λ w. record { left = g.I.Source.left w.source.now; taken = g.O.Sink.taken w.sink.now; pending = w.pending.now }) (record { shows = λ w call a u so. so.3 })
    c.args.p.now c.args.roots.now c.args.n c.args.world.now c.play.new.world c.play.result c.play.ensures.world

pub returns-clause-written : goal.returns-clause-written
returns-clause-written g c =
    small_written _ (λ w. record { left = g.I.Source.left w.source.now; taken = g.O.Sink.taken w.sink.now; pending = w.pending.now }) (record { shows = λ w call a u so. so.3 })
    c.args.p.now c.args.roots.now c.args.n c.args.world.now c.play.new.world c.play.result c.requires.none_waits c.play.ensures.world

pub returns-clause-broken : goal.returns-clause-broken
returns-clause-broken g c =
    small_broken _ _ (λ w. record { left = g.I.Source.left w.source.now; taken = g.O.Sink.taken w.sink.now; pending = w.pending.now }) (record { shows = λ w call a u so. so.3 }) (record { shows = λ w call u so. so.3 })
    c.args.p.now c.args.roots.now c.args.n c.args.world.now c.play.new.world c.play.result c.requires.none_waits c.play.ensures.fails
