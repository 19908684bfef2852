use Rattle.ir_meaning.specs.Kept.{IsStateOf}
use Rattle.step_rows.proofs.plays.played.Given as goal

-- the state is one of the program
abbrev pub invariant-loop-call : goal.invariant-loop-call
invariant-loop-call l = IsStateOf l.p l.state
