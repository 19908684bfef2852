use Rattle.std.proofs.Common.{◌∙◌, refl, ap}
use Rattle.occam_tool.proofs.RunOutcomes.{ran_ends, refused_run_ends, can_run, run_never_usage, run_unread, source_broke, sink_broke, line_broke, run_refusal, stays_but_print, falls_with_source, source_is_quiet, falls_with_print}
use Rattle.occam_tool.proofs.running.run_program.Goals as goal

pub returns-in-Ok-run-clause-outcome : goal.returns-in-Ok-run-clause-outcome
returns-in-Ok-run-clause-outcome g c = λ f.
    ran_ends (g.S.Shelf.files c.args.shelf.now) (g.S.Shelf.files c.run.new.shelf) c.args.manifest.now c.in-Ok.name c.args.steps c.args.args.now c.args.args.now (g.I.Source.left c.args.input.now)
    (g.O.Sink.taken c.args.out.now) (g.O.Sink.taken c.run.new.out) (g.O.Sink.taken c.run_done.new.out) (g.O.Sink.faults c.args.out.now) (g.O.Sink.faults c.run_done.new.out) c.in-Ok-run.ended c.run_done.result
    (c.in-Ok.ensures ∙ c.as_bytes.ensures.value) refl c.in-Ok-run.ensures.alone.files c.in-Ok-run.ensures.gives c.run_done.ensures.code c.run_done.ensures.taken f

pub returns-in-Ok-run-clause-print_broken : goal.returns-in-Ok-run-clause-print_broken
returns-in-Ok-run-clause-print_broken g c = λ e.
    line_broke (g.S.Shelf.files c.args.shelf.now) c.args.manifest.now c.in-Ok.name c.args.steps c.args.args.now (g.I.Source.left c.args.input.now)
    (g.O.Sink.taken c.args.out.now) (g.O.Sink.taken c.run.new.out) (g.O.Sink.taken c.run_done.new.out) c.in-Ok-run.ended
    (c.in-Ok.ensures ∙ c.as_bytes.ensures.value) c.in-Ok-run.ensures.gives (c.run_done.ensures.front e)

pub returns-clause-outcome : goal.returns-clause-outcome
returns-clause-outcome g c = λ f.
    refused_run_ends (g.S.Shelf.files c.args.shelf.now) (g.S.Shelf.files c.run.new.shelf) c.args.manifest.now c.in-Ok.name c.args.steps c.args.args.now c.args.args.now (g.I.Source.left c.args.input.now)
    (g.O.Sink.taken c.args.out.now) (g.O.Sink.taken c.run.new.out) (g.O.Sink.taken c.refuse_run.new.out) (g.O.Sink.faults c.args.out.now) (g.O.Sink.faults c.run.new.out) (g.O.Sink.faults c.refuse_run.new.out)
    c.in-Err-run.refusal c.refuse_run.result (c.in-Ok.ensures ∙ c.as_bytes.ensures.value) refl c.in-Err-run.ensures.alone.files c.in-Err-run.ensures.gives c.in-Err-run.ensures.codes c.refuse_run.ensures.code
    (stays_but_print c.in-Err-run.refusal.code c.in-Err-run.ensures.sink_stays) c.refuse_run.ensures.taken f

pub returns-clause-unread : goal.returns-clause-unread
returns-clause-unread g c = λ e quiet.
    run_unread (g.S.Shelf.files c.args.shelf.now) c.args.manifest.now c.in-Ok.name c.args.steps c.args.args.now (g.I.Source.left c.args.input.now)
    (g.O.Sink.taken c.args.out.now) (g.O.Sink.taken c.run.new.out) (g.O.Sink.taken c.refuse_run.new.out) (g.O.Sink.faults c.args.out.now) (g.O.Sink.faults c.run.new.out) (g.O.Sink.faults c.refuse_run.new.out)
    c.in-Err-run.refusal c.refuse_run.result (c.in-Ok.ensures ∙ c.as_bytes.ensures.value) c.in-Err-run.ensures.gives c.refuse_run.ensures.code
    (stays_but_print c.in-Err-run.refusal.code c.in-Err-run.ensures.sink_stays) c.refuse_run.ensures.taken e quiet

pub returns-clause-source_broken : goal.returns-clause-source_broken
returns-clause-source_broken g c = λ e quiet.
    source_broke (g.S.Shelf.files c.args.shelf.now) c.args.manifest.now c.in-Ok.name c.args.steps c.args.args.now (g.I.Source.left c.args.input.now)
    (g.O.Sink.taken c.args.out.now) (g.O.Sink.taken c.run.new.out) (g.O.Sink.taken c.refuse_run.new.out) (g.O.Sink.faults c.args.out.now) (g.O.Sink.faults c.run.new.out) (g.O.Sink.faults c.refuse_run.new.out)
    c.in-Err-run.refusal c.refuse_run.result (c.in-Ok.ensures ∙ c.as_bytes.ensures.value) c.in-Err-run.ensures.gives c.refuse_run.ensures.code
    (stays_but_print c.in-Err-run.refusal.code c.in-Err-run.ensures.sink_stays) c.refuse_run.ensures.taken e quiet

pub returns-clause-print_broken : goal.returns-clause-print_broken
returns-clause-print_broken g c = λ e.
    sink_broke (g.S.Shelf.files c.args.shelf.now) c.args.manifest.now c.in-Ok.name c.args.steps c.args.args.now (g.I.Source.left c.args.input.now)
    (g.O.Sink.taken c.args.out.now) (g.O.Sink.taken c.run.new.out) (g.O.Sink.taken c.refuse_run.new.out) c.in-Err-run.refusal c.refuse_run.result
    (c.in-Ok.ensures ∙ c.as_bytes.ensures.value) c.in-Err-run.ensures.gives c.refuse_run.ensures.code (λ d. ap g.O.Sink.taken (c.refuse_run.ensures.cut d).1) e

pub returns-clause-refusal : goal.returns-clause-refusal
returns-clause-refusal g c = λ not_done no_print no_source some quiet.
    run_refusal (g.O.Sink.taken c.args.out.now) (g.O.Sink.taken c.run.new.out) (g.O.Sink.taken c.refuse_run.new.out) (g.O.Sink.faults c.args.out.now) (g.O.Sink.faults c.run.new.out) (g.O.Sink.faults c.refuse_run.new.out)
    c.in-Err-run.refusal c.refuse_run.result c.in-Err-run.ensures.codes c.refuse_run.ensures.code c.in-Err-run.ensures.untouched
    (stays_but_print c.in-Err-run.refusal.code c.in-Err-run.ensures.sink_stays) c.refuse_run.ensures.taken no_print no_source some quiet

pub returns-clause-print_fault : goal.returns-clause-print_fault
returns-clause-print_fault g c = λ e.
    falls_with_print (g.O.Sink.faults c.args.out.now) (g.O.Sink.faults c.run.new.out) (g.O.Sink.faults c.refuse_run.new.out) c.in-Err-run.refusal.code c.refuse_run.result c.refuse_run.ensures.code
    c.in-Err-run.ensures.sink_rose (λ d. ap g.O.Sink.faults (c.refuse_run.ensures.cut d).1) e

pub returns-clause-source_rose : goal.returns-clause-source_rose
returns-clause-source_rose g c = λ e. falls_with_source c.in-Err-run.refusal.code c.refuse_run.result c.refuse_run.ensures.code c.in-Err-run.ensures.source_rose e

pub returns-clause-source_stays : goal.returns-clause-source_stays
returns-clause-source_stays g c = λ no_source some. source_is_quiet c.in-Err-run.refusal.code c.refuse_run.result c.refuse_run.ensures.code c.in-Err-run.ensures.source_stays no_source some

pub returns-clause-statuses : goal.returns-clause-statuses
returns-clause-statuses g c = can_run c.in-Err-run.refusal c.refuse_run.result c.in-Err-run.ensures.codes c.refuse_run.ensures.code

pub returns-clause-not_usage : goal.returns-clause-not_usage
returns-clause-not_usage g c = run_never_usage c.in-Err-run.refusal c.refuse_run.result c.in-Err-run.ensures.codes c.refuse_run.ensures.code
