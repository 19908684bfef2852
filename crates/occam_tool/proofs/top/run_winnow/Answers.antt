use Rattle.std.proofs.Common.{refl}
use Rattle.occam_tool.proofs.Outcomes.{done_ends, refused_ends}
use Rattle.occam_tool.proofs.top.run_winnow.Goals as goal

pub returns-in-Ok-winnow-clause-outcome : goal.returns-in-Ok-winnow-clause-outcome
returns-in-Ok-winnow-clause-outcome g c = λ f.
    done_ends (g.S.Shelf.files c.args.shelf.now) (g.S.Shelf.files c.winnow.new.shelf) c.args.manifest.now c.args.outdir.now c.in-Ok.job.manifest c.in-Ok.job.outdir
    (g.O.Sink.taken c.args.out.now) (g.O.Sink.taken c.report_done.new.out) (g.O.Sink.faults c.args.out.now) (g.O.Sink.faults c.report_done.new.out) c.in-Ok-winnow.report c.report_done.result
    c.in-Ok.ensures (c.in-Ok-winnow.ensures.answer refl) c.report_done.ensures.code c.report_done.ensures.taken f

pub returns-clause-outcome : goal.returns-clause-outcome
returns-clause-outcome g c = λ f.
    refused_ends (g.S.Shelf.files c.args.shelf.now) (g.S.Shelf.files c.winnow.new.shelf) c.args.manifest.now c.args.outdir.now c.in-Ok.job.manifest c.in-Ok.job.outdir
    (g.O.Sink.taken c.args.out.now) (g.O.Sink.taken c.refuse-in-Err-winnow.new.out) (g.O.Sink.faults c.args.out.now) (g.O.Sink.faults c.refuse-in-Err-winnow.new.out) c.in-Err-winnow.refusal
    c.refuse-in-Err-winnow.result c.in-Ok.ensures c.in-Err-winnow.ensures.answer c.in-Err-winnow.ensures.never_done c.refuse-in-Err-winnow.ensures.code c.refuse-in-Err-winnow.ensures.taken f
