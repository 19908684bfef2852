-- the types so far, and those of the instructions that are left, are all
use Rattle.std.proofs.Common.{◌≡◌, ◌++◌, drop}
use Rattle.std.specs.List.{filter_map}
use Rattle.ir_syntax.specs.Results.{result_type}
use Rattle.ir_check.proofs.results.add_insts.Given as goal

abbrev pub invariant-loop-inst : goal.invariant-loop-inst
invariant-loop-inst l = l.types.items ++ filter_map result_type (drop l.inst-index l.insts) ≡ l.initial.types.items ++ filter_map result_type l.insts
