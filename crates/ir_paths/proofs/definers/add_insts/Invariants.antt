use Rattle.std.proofs.Common.{◌≡◌, ◌++◌, map, drop}
use Rattle.std.specs.List.{filter_map}
use Rattle.ir_syntax.specs.Results.{result_type}
use Rattle.ir_paths.proofs.definers.add_insts.Given as goal

abbrev pub invariant-loop-inst : goal.invariant-loop-inst
invariant-loop-inst l =
    l.definers.items ++ map (λ ty. l.place) (filter_map result_type (drop l.inst-index l.insts)) ≡ l.fn.definers.items ++ map (λ ty. l.place) (filter_map result_type l.insts)
