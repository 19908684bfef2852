use Rattle.std.proofs.Common.{take}
use Rattle.std.specs.List.{AllZip}
use Rattle.fold_facts.specs.Operands.{known_fact}
use Rattle.fold_facts.specs.OfFunction.{IsFactOf}
use Rattle.fold_rows.proofs.known.known_of.Given as goal

-- one item for each parameter so far
abbrev pub invariant-loop-param : goal.invariant-loop-param
invariant-loop-param l = AllZip (λ param item. IsFactOf param.ty (known_fact item)) (take l.param-index l.params) l.known
