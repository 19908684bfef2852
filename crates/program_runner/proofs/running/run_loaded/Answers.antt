use Rattle.program_runner.proofs.Gives.{entry_gives, run_gives, break_gives}
use Rattle.program_runner.proofs.running.run_loaded.Goals as goal

pub returns-in-Err-clause-gives : goal.returns-in-Err-clause-gives
returns-in-Err-clause-gives g c = λ files name loaded.
    entry_gives files name c.args.steps c.args.loaded.now.manifest c.args.loaded.now.program c.args.args.now (g.I.Source.left c.args.input.now) (g.O.Sink.taken c.args.out.now) c.in-Err.refusal loaded c.in-Err.ensures.refused

pub returns-in-Ok-play_roots-clause-gives : goal.returns-in-Ok-play_roots-clause-gives
returns-in-Ok-play_roots-clause-gives g c = λ files name loaded.
    run_gives files name c.args.steps c.args.loaded.now.manifest c.args.loaded.now.program c.entry_of-func.result.now c.in-Ok.root c.from_ref-roots.result.now c.args.args.now (g.I.Source.left c.args.input.now)
    (g.O.Sink.taken c.args.out.now) (g.O.Sink.taken c.play_roots.new.out) c.in-Ok-play_roots.shown c.ended_of.result loaded c.in-Ok.ensures.root c.from_ref-roots.ensures.value c.in-Ok-play_roots.ensures.played c.ended_of.ensures

pub returns-clause-gives : goal.returns-clause-gives
returns-clause-gives g c = λ files name loaded.
    break_gives files name c.args.steps c.args.loaded.now.manifest c.args.loaded.now.program c.entry_of-func.result.now c.in-Ok.root c.from_ref-roots.result.now c.args.args.now (g.I.Source.left c.args.input.now)
    (g.O.Sink.taken c.args.out.now) (g.O.Sink.taken c.play_roots.new.out) c.in-Err-play_roots.fault c.broken.result loaded c.in-Ok.ensures.root c.from_ref-roots.ensures.value c.in-Err-play_roots.ensures.broken c.broken.ensures
