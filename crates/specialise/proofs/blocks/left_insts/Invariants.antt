-- the instructions so far, and then what is left of the others, and how many results are before and behind
use Rattle.std.proofs.Common.{◌≡◌, ◌+◌, ◌++◌, drop, length}
use Rattle.std.specs.List.{filter_map}
use Rattle.ir_syntax.specs.Results.{result_type}
use Rattle.specialise.specs.Residual.{left_insts}
use Rattle.specialise.specs.Mirrors.Shown.{shown}
use Rattle.specialise.proofs.blocks.left_insts.Given as goal

abbrev pub invariant-loop-inst : goal.invariant-loop-inst
invariant-loop-inst l =
    (l.made ++ left_insts (shown l.left) l.number (drop l.inst-index l.insts) ≡ left_insts (shown l.left) l.first l.insts)
    × (l.number + length (filter_map result_type (drop l.inst-index l.insts)) ≡ l.first + length (filter_map result_type l.insts))
