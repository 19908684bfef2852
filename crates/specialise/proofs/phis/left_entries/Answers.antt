use Rattle.std.proofs.Common.{◌∙◌, ◌+◌, ◌++◌, drop, ap}
use Rattle.ir_types.proofs.ListSteps.{drop_at}
use Rattle.specialise.specs.Residual.{left_entry}
use Rattle.specialise.specs.Mirrors.Shown.{shown}
use Rattle.specialise.proofs.Entering.{entries_step}
use Rattle.specialise.proofs.phis.left_entries.Goals as goal

pub loop-entry-preserved : goal.loop-entry-preserved
loop-entry-preserved c =
    entries_step (shown c.args.left.now) c.args.place c.args.entries.now (drop c.loop-entry.entry-index c.args.entries.now) (drop (c.loop-entry.entry-index + 1) c.args.entries.now) c.loop-entry.made c.add_entry.new.made
    c.loop-entry.before c.add.new.self c.loop-entry.entry-index c.entry-item.result c.loop-entry.invariant (drop_at c.args.entries.now c.loop-entry.entry-index c.entry-item.result c.loop-entry-test.true c.entry-item.is)
    (c.in_ok-add_entry.ensures ∙ ap (λ j. c.loop-entry.made ++ left_entry (shown c.args.left.now) c.args.place j c.entry-item.result) c.of.ensures) c.in_ok-add.ensures
