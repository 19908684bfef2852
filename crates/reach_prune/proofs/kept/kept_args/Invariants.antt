-- the arguments so far, and then what is chosen of those that are left
use Rattle.std.proofs.Common.{◌≡◌, ◌++◌, drop, map}
use Rattle.demands.specs.Names.{is_unknown}
use Rattle.ir_syntax.specs.Mapped.{map_arg}
use Rattle.interface.specs.Masks.{chosen}
use Rattle.winnowed_form.specs.Bodies.{written_operand}
use Rattle.reach_prune.specs.Mirrors.Shown.{shown_setting}
use Rattle.reach_prune.proofs.kept.kept_args.Given as goal

abbrev pub invariant-loop-k : goal.invariant-loop-k
invariant-loop-k l =
    l.made ++ map (map_arg (written_operand (shown_setting l.w))) (chosen (drop l.k (map is_unknown l.items)) (drop l.k l.args)) ≡ map (map_arg (written_operand (shown_setting l.w))) (chosen (map is_unknown l.items) l.args)
