use Rattle.std.proofs.Common.{◌∙◌, refl}
use Rattle.occam_tool.proofs.Outcomes.{checked_ends, check_refused_ends, can_check, never_usage, unread_told}
use Rattle.occam_tool.proofs.top.run_check.Goals as goal

pub returns-in-Ok-check-clause-outcome : goal.returns-in-Ok-check-clause-outcome
returns-in-Ok-check-clause-outcome g c = λ f.
    checked_ends (g.S.Shelf.files c.args.shelf.now) (g.S.Shelf.files c.check.new.shelf) c.args.manifest.now c.in-Ok.name
    (g.O.Sink.taken c.args.out.now) (g.O.Sink.taken c.check_done.new.out) (g.O.Sink.faults c.args.out.now) (g.O.Sink.faults c.check_done.new.out) c.in-Ok-check.counts c.check_done.result
    (c.in-Ok.ensures ∙ c.as_bytes.ensures.value) c.in-Ok-check.ensures.alone.files (c.in-Ok-check.ensures.answer refl) c.check_done.ensures.code c.check_done.ensures.taken f

pub returns-clause-outcome : goal.returns-clause-outcome
returns-clause-outcome g c = λ f.
    check_refused_ends (g.S.Shelf.files c.args.shelf.now) (g.S.Shelf.files c.check.new.shelf) c.args.manifest.now c.in-Ok.name
    (g.O.Sink.taken c.args.out.now) (g.O.Sink.taken c.refuse-in-Err-check.new.out) (g.O.Sink.faults c.args.out.now) (g.O.Sink.faults c.refuse-in-Err-check.new.out) c.in-Err-check.refusal
    c.refuse-in-Err-check.result (c.in-Ok.ensures ∙ c.as_bytes.ensures.value) c.in-Err-check.ensures.alone.files c.in-Err-check.ensures.answer c.in-Err-check.ensures.codes c.refuse-in-Err-check.ensures.code c.refuse-in-Err-check.ensures.taken f

pub returns-clause-unread : goal.returns-clause-unread
returns-clause-unread g c = λ e quiet.
    unread_told (g.S.Shelf.files c.args.shelf.now) c.args.manifest.now c.in-Ok.name
    (g.O.Sink.taken c.args.out.now) (g.O.Sink.taken c.refuse-in-Err-check.new.out) (g.O.Sink.faults c.args.out.now) (g.O.Sink.faults c.refuse-in-Err-check.new.out) c.in-Err-check.refusal
    c.refuse-in-Err-check.result (c.in-Ok.ensures ∙ c.as_bytes.ensures.value) c.in-Err-check.ensures.unread c.refuse-in-Err-check.ensures.code c.refuse-in-Err-check.ensures.taken e quiet

pub returns-clause-statuses : goal.returns-clause-statuses
returns-clause-statuses g c = can_check c.in-Err-check.refusal c.refuse-in-Err-check.result c.in-Err-check.ensures.codes c.refuse-in-Err-check.ensures.code

pub returns-clause-not_usage : goal.returns-clause-not_usage
returns-clause-not_usage g c = never_usage c.in-Err-check.refusal c.refuse-in-Err-check.result c.in-Err-check.ensures.codes c.refuse-in-Err-check.ensures.code
