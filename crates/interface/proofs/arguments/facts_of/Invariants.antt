-- the facts so far, and then those that are left
use Rattle.std.proofs.Common.{◌≡◌, ◌++◌, drop}
use Rattle.interface.proofs.arguments.facts_of.Given as goal

abbrev pub invariant-loop-k : goal.invariant-loop-k
invariant-loop-k l = l.facts ++ drop l.k l.a.facts ≡ l.a.facts
