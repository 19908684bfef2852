-- the facts so far, with those of what is left
use Rattle.std.proofs.Common.{◌≡◌, drop}
use Rattle.straight_fold.specs.Facts.{facts_of, facts_from}
use Rattle.straight_fold.proofs.facts.facts_of.Given as goal

abbrev pub invariant-loop-inst : goal.invariant-loop-inst
invariant-loop-inst l = facts_from l.pattern l.facts (drop l.inst-index l.insts) ≡ facts_of l.pattern l.insts
