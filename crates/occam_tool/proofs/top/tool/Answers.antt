use Rattle.std.proofs.Common.{◌∙◌, Some, map, string_bytes, sym, ap}
use Rattle.std.specs.Prelude.{option_map}
use Rattle.command_words.specs.Told.{told}
use Rattle.command_words.specs.Words.Command.{Run}
use Rattle.occam_tool.specs.Outcome.{is_free}
use Rattle.occam_tool.proofs.Outcomes.{told_winnow, told_check, told_usage, usage_taken}
use Rattle.occam_tool.proofs.RunOutcomes.{told_run}
use Rattle.occam_tool.proofs.KeptPrograms.{Laws, kept_command}
use Rattle.occam_tool.proofs.top.tool.Goals as goal

pub returns-in-Ok-Some-Winnow-clause-outcome : goal.returns-in-Ok-Some-Winnow-clause-outcome
returns-in-Ok-Some-Winnow-clause-outcome g c = λ f.
    told_winnow (g.S.Shelf.files c.args.shelf.now) (g.S.Shelf.files c.run_winnow.new.shelf) (map (λ w. string_bytes w) c.args.words.now) c.in-Ok-Some-Winnow.manifest.now c.in-Ok-Some-Winnow.outdir.now (g.I.Source.left c.args.input.now)
    (g.O.Sink.taken c.args.out.now) (g.O.Sink.taken c.run_winnow.new.out) (g.O.Sink.faults c.args.out.now) (g.O.Sink.faults c.run_winnow.new.out) c.run_winnow.result
    (sym c.in-Ok-Some-Winnow.ensures ∙ ap (option_map told) c.in-Ok-Some-Winnow.field-0-is ∙ ap (λ h. Some (told h)) c.in-Ok-Some-Winnow.field-0-0-is) (c.run_winnow.ensures.outcome f)

pub returns-in-Ok-None-clause-outcome : goal.returns-in-Ok-None-clause-outcome
returns-in-Ok-None-clause-outcome g c = λ f.
    told_usage (g.S.Shelf.files c.args.shelf.now) (map (λ w. string_bytes w) c.args.words.now) (g.I.Source.left c.args.input.now)
    (g.O.Sink.taken c.args.out.now) (g.O.Sink.taken c.refuse.new.out) (g.O.Sink.faults c.args.out.now) (g.O.Sink.faults c.refuse.new.out) c.refuse.result
    (sym c.in-Ok-None.ensures ∙ ap (option_map told) c.in-Ok-None.field-0-is) c.refuse.ensures.code c.refuse.ensures.taken f

pub returns-in-Ok-None-clause-refusal : goal.returns-in-Ok-None-clause-refusal
returns-in-Ok-None-clause-refusal g c = λ a b no_source some quiet.
    usage_taken (g.O.Sink.taken c.args.out.now) (g.O.Sink.taken c.refuse.new.out) c.refuse.result c.refuse.ensures.code some (c.refuse.ensures.taken some quiet)

pub returns-in-Ok-Some-Winnow-clause-kept : goal.returns-in-Ok-Some-Winnow-clause-kept
returns-in-Ok-Some-Winnow-clause-kept g c = λ winnows done.
    let laws : Laws = record {
      straight = c.the_form_is_straight.ensures.straight;
      entered = c.the_form_is_straight.ensures.entered;
      plain = c.the_form_is_straight.ensures.plain;
      is_plan = c.least_plan_is_a_plan.ensures;
      left_straight = c.what_is_left_is_straight.ensures.straight;
      left_names = c.what_is_left_is_straight.ensures.names;
      formed = c.straight_modules_are_written.ensures.formed;
      in_range = c.straight_modules_are_written.ensures.in_range;
      spells = c.what_is_written_is_read_again.ensures;
      one = c.a_text_spells_one_module.ensures;
      agree = c.meaning_is_kept.ensures.agree;
      bound = c.meaning_is_kept.ensures.bound;
      goes_on = c.run_goes_on.ensures.run;
      never_undefined = c.run_goes_on.ensures.phase;
    } in
    kept_command laws (g.S.Shelf.files c.args.shelf.now) (g.S.Shelf.files c.run_winnow.new.shelf) (map (λ w. string_bytes w) c.args.words.now) c.in-Ok-Some-Winnow.manifest.now c.in-Ok-Some-Winnow.outdir.now
    (g.O.Sink.taken c.args.out.now) (g.O.Sink.taken c.run_winnow.new.out) (g.O.Sink.faults c.args.out.now) (g.O.Sink.faults c.run_winnow.new.out) c.run_winnow.result
    (sym c.in-Ok-Some-Winnow.ensures ∙ ap (option_map told) c.in-Ok-Some-Winnow.field-0-is ∙ ap (λ h. Some (told h)) c.in-Ok-Some-Winnow.field-0-0-is) (c.run_winnow.ensures.outcome (ap is_free done)) done

pub returns-in-Ok-Some-Check-clause-outcome : goal.returns-in-Ok-Some-Check-clause-outcome
returns-in-Ok-Some-Check-clause-outcome g c = λ f.
    told_check (g.S.Shelf.files c.args.shelf.now) (g.S.Shelf.files c.run_check.new.shelf) (map (λ w. string_bytes w) c.args.words.now) c.in-Ok-Some-Check.manifest.now (g.I.Source.left c.args.input.now)
    (g.O.Sink.taken c.args.out.now) (g.O.Sink.taken c.run_check.new.out) (g.O.Sink.faults c.args.out.now) (g.O.Sink.faults c.run_check.new.out) c.run_check.result
    (sym c.in-Ok-Some-Check.ensures ∙ ap (option_map told) c.in-Ok-Some-Check.field-0-is ∙ ap (λ h. Some (told h)) c.in-Ok-Some-Check.field-0-0-is) (c.run_check.ensures.outcome f)

pub returns-in-Ok-Some-Run-clause-outcome : goal.returns-in-Ok-Some-Run-clause-outcome
returns-in-Ok-Some-Run-clause-outcome g c = λ f.
    told_run (g.S.Shelf.files c.args.shelf.now) (g.S.Shelf.files c.run_program.new.shelf) (map (λ w. string_bytes w) c.args.words.now) c.in-Ok-Some-Run.manifest.now c.in-Ok-Some-Run.steps c.as_slice.result.now
    (g.I.Source.left c.args.input.now) (g.O.Sink.taken c.args.out.now) (g.O.Sink.taken c.run_program.new.out) (g.O.Sink.faults c.args.out.now) (g.O.Sink.faults c.run_program.new.out) c.run_program.result
    (sym c.in-Ok-Some-Run.ensures ∙ ap (option_map told) c.in-Ok-Some-Run.field-0-is ∙ ap (λ h. Some (told h)) c.in-Ok-Some-Run.field-0-0-is ∙ ap (λ args. Some (Run c.in-Ok-Some-Run.manifest.now c.in-Ok-Some-Run.steps args)) (sym c.as_slice.ensures)) (c.run_program.ensures.outcome f)
