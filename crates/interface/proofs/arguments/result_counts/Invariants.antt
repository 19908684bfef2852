-- the results so far, and then those of what is left
use Rattle.std.proofs.Common.{◌≡◌, ◌+◌, drop, length}
use Rattle.fold_facts.specs.OfFunction.{results_in}
use Rattle.interface.proofs.arguments.result_counts.Given as goal

abbrev pub invariant-loop-block : goal.invariant-loop-block
invariant-loop-block l = l.count + length (results_in (drop l.block-index l.blocks)) ≡ length (results_in l.blocks)
