-- the types so far, and those of the blocks that are left, are all
use Rattle.std.proofs.Common.{◌≡◌, ◌++◌, drop}
use Rattle.std.specs.List.{flat_map}
use Rattle.ir_syntax.specs.Results.{block_results, results}
use Rattle.ir_check.proofs.results.results_of.Given as goal

abbrev pub invariant-loop-block : goal.invariant-loop-block
invariant-loop-block l = l.types.items ++ flat_map block_results (drop l.block-index l.block-items) ≡ results l.body
