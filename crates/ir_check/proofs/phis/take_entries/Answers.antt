use Rattle.std.proofs.lemmas.List.{get_or_past}
use Rattle.ir_check.proofs.Counting.{runs_out}
use Rattle.ir_check.proofs.phis.take_entries.Goals as goal
use Rattle.ir_check.proofs.phis.take_entries.Goals.{then-from-counts-via-then-from-counts, then-from-counts-via-else-from-counts+then-counts-from-eq0}

pub returns-then-from-counts-clause-too_many : goal.returns-then-from-counts-clause-too_many
returns-then-from-counts-clause-too_many c =
    let counts = c.loop-entry.counts in
    λ e. elim c.then-from-counts.branch [
      | then-from-counts-via-then-from-counts w ↦ runs_out c.args.entries.now c.loop-entry.entry-index c.entry-item.result counts c.args.counts.now c.loop-entry-test.true c.entry-item.is (get_or_past counts _ 0 w.if-from-counts.true) c.loop-entry.invariant
      | then-from-counts-via-else-from-counts+then-counts-from-eq0 w ↦ runs_out c.args.entries.now c.loop-entry.entry-index c.entry-item.result counts c.args.counts.now c.loop-entry-test.true c.entry-item.is w.if-counts-from-eq0.true c.loop-entry.invariant
    ]
