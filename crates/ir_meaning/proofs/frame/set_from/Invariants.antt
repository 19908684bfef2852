use Rattle.std.proofs.Common.{◌≡◌, ◌+◌, drop}
use Rattle.ir_steps.specs.Branches.{set_from}
use Rattle.ir_meaning.proofs.frame.set_from.Given as goal

abbrev pub invariant-loop-value : goal.invariant-loop-value
invariant-loop-value l = record {
  place : l.k ≡ l.first + l.value-index;
  left : set_from l.k (drop l.value-index l.values) l.results ≡ set_from l.first l.values l.fn.results;
}
