-- none was found, so what is left decides
use Rattle.std.proofs.Common.{◌≡◌, drop}
use Rattle.straight_plan.specs.Asked.{is_named}
use Rattle.straight_fold.proofs.items.is_named.Given as goal

abbrev pub invariant-loop-k : goal.invariant-loop-k
invariant-loop-k l = is_named (drop l.k l.items) l.place ≡ is_named l.items l.place
