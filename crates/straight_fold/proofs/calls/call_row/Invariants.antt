-- what is known of the arguments so far, with what is known of those that are left
use Rattle.std.proofs.Common.{◌≡◌, ◌++◌, take, drop, map, length}
use Rattle.straight_fold.specs.Calls.{arg_value}
use Rattle.straight_fold.proofs.calls.call_row.Given as goal

abbrev pub invariant-loop-k : goal.invariant-loop-k
invariant-loop-k l = (take l.k l.known ++ map (arg_value l.pattern l.facts) (drop l.k l.args) ≡ map (arg_value l.pattern l.facts) l.args) × (length l.known ≡ 32)
