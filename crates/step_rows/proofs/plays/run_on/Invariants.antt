-- the state is one of the program
use Rattle.std.proofs.Common.{◌-◌}
use Rattle.ir_meaning.specs.Kept.{IsStateOf}
use Rattle.step_rows.proofs.plays.run_on.Given as goal

abbrev pub invariant-steps : goal.invariant-steps
invariant-steps l = IsStateOf l.p l.state

abbrev pub decreases-steps : goal.decreases-steps
decreases-steps l = l.limit - l.steps
