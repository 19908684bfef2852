-- the arguments made so far, and then those that are left, mapped, are all, mapped
use Rattle.std.proofs.Common.{◌≡◌, ◌++◌, map, drop}
use Rattle.ir_syntax.specs.Mapped.{map_arg}
use Rattle.ir_syntax.proofs.mapped.map_args.Given as goal

abbrev pub invariant-loop-arg : goal.invariant-loop-arg
invariant-loop-arg g l = l.made ++ map (map_arg (g.M.MapOperand.maps l.mapping)) (drop l.arg-index l.args) ≡ map (map_arg (g.M.MapOperand.maps l.mapping)) l.args
