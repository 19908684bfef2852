-- the names so far, and then those that are left, are those before, and then all
use Rattle.std.proofs.Common.{◌≡◌, ◌++◌, drop, map}
use Rattle.std.specs.List.{flat_map}
use Rattle.ir_syntax.specs.Named.{operand_names}
use Rattle.interface.proofs.names.with_args.Given as goal

abbrev pub invariant-loop-arg : goal.invariant-loop-arg
invariant-loop-arg l = l.named ++ flat_map operand_names (map (λ arg. arg.value) (drop l.arg-index l.args)) ≡ l.fn.named ++ flat_map operand_names (map (λ arg. arg.value) l.args)
