use Rattle.program_runner.proofs.Gives.{load_gives, loaded_gives}
use Rattle.program_runner.proofs.running.run.Goals as goal

pub returns-in-Err-clause-gives : goal.returns-in-Err-clause-gives
returns-in-Err-clause-gives g c =
    load_gives (g.S.Shelf.files c.args.shelf.now) c.as_slice.result.now c.args.manifest.now c.args.steps c.args.args.now (g.I.Source.left c.args.input.now) (g.O.Sink.taken c.args.out.now) c.in-Err.refusal
    c.as_slice.ensures c.in-Err.ensures.gives

pub returns-in-Ok-clause-gives : goal.returns-in-Ok-clause-gives
returns-in-Ok-clause-gives g c =
    loaded_gives (g.S.Shelf.files c.args.shelf.now) c.as_slice.result.now c.args.manifest.now c.args.steps c.args.args.now (g.I.Source.left c.args.input.now) (g.O.Sink.taken c.args.out.now)
    (g.O.Sink.taken c.run_loaded.new.out) c.in-Ok.loaded c.run_loaded.result c.as_slice.ensures c.in-Ok.ensures.gives c.run_loaded.ensures.gives
