-- the first entry for the block of each entry so far stands before, and has its operand
use Rattle.ir_check.proofs.Agreeing.{Firsts}
use Rattle.ir_check.proofs.phis.agree.Given as goal

abbrev pub invariant-loop-i : goal.invariant-loop-i
invariant-loop-i l = Firsts l.firsts l.entries l.i
