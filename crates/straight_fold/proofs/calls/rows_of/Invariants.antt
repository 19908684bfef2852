-- the rows so far, with those of what is left
use Rattle.std.proofs.Common.{◌≡◌, ◌++◌, drop}
use Rattle.straight_fold.specs.Calls.{rows_of}
use Rattle.straight_fold.proofs.calls.rows_of.Given as goal

abbrev pub invariant-loop-inst : goal.invariant-loop-inst
invariant-loop-inst l = l.rows ++ rows_of l.items l.pattern l.facts (drop l.inst-index l.insts) ≡ rows_of l.items l.pattern l.facts l.insts
