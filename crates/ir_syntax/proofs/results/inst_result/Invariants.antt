-- what is left to count, over the instructions that are left, is what was to be counted over all
use Rattle.std.proofs.Common.{◌≡◌, ◌+◌, drop, length}
use Rattle.std.specs.List.{slice_get, filter_map}
use Rattle.ir_syntax.specs.Results.{result_type}
use Rattle.ir_syntax.proofs.results.inst_result.Given as goal

abbrev pub invariant-loop-inst : goal.invariant-loop-inst
invariant-loop-inst l = record {
  found : slice_get (filter_map result_type (drop l.inst-index l.insts)) l.left ≡ slice_get (filter_map result_type l.insts) l.k;
  count : l.left + length (filter_map result_type l.insts) ≡ l.k + length (filter_map result_type (drop l.inst-index l.insts));
}
