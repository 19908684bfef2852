use Rattle.std.proofs.Common.{◌≡◌, ◌+◌, ◌++◌, drop, length}
use Rattle.std.specs.List.{filter_map}
use Rattle.ir_syntax.specs.Results.{result_type}
use Rattle.ir_paths.specs.FarUses.{insts_far}
use Rattle.ir_paths.proofs.far.add_insts.Given as goal

abbrev pub invariant-loop-inst : goal.invariant-loop-inst
invariant-loop-inst l = record {
  added : l.far.items ++ insts_far l.definers l.place l.until (drop l.inst-index l.insts) l.term ≡ l.fn.far.items ++ insts_far l.definers l.place l.fn.until l.insts l.term;
  count : l.until + length (filter_map result_type (drop l.inst-index l.insts)) ≡ l.fn.until + length (filter_map result_type l.insts);
}
