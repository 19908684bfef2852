-- what is left to count, over the blocks that are left, is what was to be counted over all
use Rattle.std.proofs.Common.{◌≡◌, drop}
use Rattle.std.specs.List.{slice_get, flat_map}
use Rattle.ir_syntax.specs.Results.{block_results, results}
use Rattle.ir_syntax.proofs.body.Body.reg_type.Given as goal

abbrev pub invariant-loop-block : goal.invariant-loop-block
invariant-loop-block l = slice_get (flat_map block_results (drop l.block-index l.block-items)) l.left ≡ slice_get (results l.self) l.k
