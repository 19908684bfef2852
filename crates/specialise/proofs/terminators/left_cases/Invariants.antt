-- the cases so far, and then those that are left
use Rattle.std.proofs.Common.{◌≡◌, ◌++◌, drop, map}
use Rattle.interface.specs.Masks.{rank}
use Rattle.specialise.proofs.terminators.left_cases.Given as goal

abbrev pub invariant-loop-case : goal.invariant-loop-case
invariant-loop-case l = l.made ++ map (λ case. (case.0, rank l.reached case.1)) (drop l.case-index l.cases) ≡ map (λ case. (case.0, rank l.reached case.1)) l.cases
