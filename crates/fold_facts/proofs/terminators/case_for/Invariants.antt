use Rattle.std.proofs.Common.{◌≡◌, drop}
use Rattle.std.specs.Prelude.{◌==◌}
use Rattle.std.specs.List.{position_from}
use Rattle.fold_facts.proofs.terminators.case_for.Given as goal

abbrev pub invariant-loop-k : goal.invariant-loop-k
invariant-loop-k l = position_from (λ case. case.0 == l.number) l.k (drop l.k l.cases) ≡ position_from (λ case. case.0 == l.number) 0 l.cases
