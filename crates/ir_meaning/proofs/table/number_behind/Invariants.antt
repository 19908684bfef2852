use Rattle.std.proofs.Common.{◌≡◌, ◌+◌, length, drop}
use Rattle.std.specs.List.{filter_map}
use Rattle.ir_syntax.specs.Results.{result_type}
use Rattle.ir_meaning.proofs.table.number_behind.Given as goal

abbrev pub invariant-loop-inst : goal.invariant-loop-inst
invariant-loop-inst l =
    l.behind + length (filter_map result_type (drop l.inst-index l.block.insts)) ≡ l.first + (length l.block.phis + length (filter_map result_type l.block.insts))
