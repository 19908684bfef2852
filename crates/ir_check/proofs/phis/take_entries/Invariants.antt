-- what is left of each count, and the entries so far, are what was counted
use Rattle.std.proofs.Common.{◌≡◌, ℕ, ◌+◌, get_or, take}
use Rattle.ir_check.specs.Suited.{entries_for}
use Rattle.ir_check.proofs.phis.take_entries.Given as goal

abbrev pub invariant-loop-entry : goal.invariant-loop-entry
invariant-loop-entry l = (from : ℕ) → get_or l.counts from 0 + entries_for from (take l.entry-index l.entries) ≡ get_or l.initial.counts from 0
