-- the elements so far are equal
use Rattle.std.proofs.Common.{◌≡◌, take}
use Rattle.ir_check.proofs.constants.+constants.Given as goal

abbrev pub invariant-same_consts-loop-i : goal.invariant-same_consts-loop-i
invariant-same_consts-loop-i l = take l.i l.a ≡ take l.i l.b
