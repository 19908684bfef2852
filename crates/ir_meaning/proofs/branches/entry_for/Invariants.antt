use Rattle.std.proofs.Common.{◌≡◌, drop}
use Rattle.ir_steps.specs.Branches.{entry_for}
use Rattle.ir_meaning.proofs.branches.entry_for.Given as goal

abbrev pub invariant-loop-entry : goal.invariant-loop-entry
invariant-loop-entry l = entry_for l.from (drop l.entry-index l.entries) ≡ entry_for l.from l.entries
