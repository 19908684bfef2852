-- the results so far, and then those of what is left
use Rattle.std.proofs.Common.{◌≡◌, ◌+◌, drop, length}
use Rattle.std.specs.List.{filter_map}
use Rattle.ir_syntax.specs.Results.{result_type, block_results}
use Rattle.interface.proofs.arguments.result_count.Given as goal

abbrev pub invariant-loop-inst : goal.invariant-loop-inst
invariant-loop-inst l = l.count + length (filter_map result_type (drop l.inst-index l.inst-items)) ≡ length (block_results l.block)
