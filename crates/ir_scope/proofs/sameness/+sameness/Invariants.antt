-- the types that are left decide
use Rattle.std.proofs.Common.{◌≡◌, map, drop, length}
use Rattle.ir_syntax.specs.Suits.{each_takes}
use Rattle.ir_scope.specs.Types.{same_type}
use Rattle.ir_scope.proofs.sameness.+sameness.Given as goal

abbrev pub invariant-same_types-loop-at : goal.invariant-same_types-loop-at
invariant-same_types-loop-at l = each_takes (map same_type (drop l.at l.ones)) (drop l.at l.others) ≡ each_takes (map same_type l.ones) l.others
