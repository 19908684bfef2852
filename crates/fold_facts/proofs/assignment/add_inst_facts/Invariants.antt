use Rattle.std.proofs.Common.{◌≡◌, ◌++◌, map, drop}
use Rattle.std.specs.List.{filter_map}
use Rattle.ir_syntax.specs.Results.{result_type}
use Rattle.fold_facts.proofs.assignment.add_inst_facts.Given as goal

abbrev pub invariant-loop-inst : goal.invariant-loop-inst
invariant-loop-inst l = l.facts ++ map (λ ty. l.fact) (filter_map result_type (drop l.inst-index l.insts)) ≡ l.fn.facts ++ map (λ ty. l.fact) (filter_map result_type l.insts)
