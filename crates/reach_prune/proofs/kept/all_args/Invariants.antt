-- the arguments so far, and then those that are left
use Rattle.std.proofs.Common.{◌≡◌, ◌++◌, drop, map}
use Rattle.ir_syntax.specs.Mapped.{map_arg}
use Rattle.winnowed_form.specs.Bodies.{written_operand}
use Rattle.reach_prune.specs.Mirrors.Shown.{shown_setting}
use Rattle.reach_prune.proofs.kept.all_args.Given as goal

abbrev pub invariant-loop-arg : goal.invariant-loop-arg
invariant-loop-arg l = l.made ++ map (map_arg (written_operand (shown_setting l.w))) (drop l.arg-index l.args) ≡ map (map_arg (written_operand (shown_setting l.w))) l.args
