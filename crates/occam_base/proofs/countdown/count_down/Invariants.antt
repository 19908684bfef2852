use Rattle.std.proofs.Common.{◌≡◌, ◌++◌, take, drop, length}
use Rattle.occam_base.specs.Failing.{after_call}
use Rattle.occam_base.proofs.countdown.count_down.Given as goal

abbrev pub invariant-loop-at : goal.invariant-loop-at
invariant-loop-at l = (length l.numbers ≡ length l.initial.numbers) × (l.numbers ≡ after_call (take l.at l.initial.numbers) ++ drop l.at l.initial.numbers)
