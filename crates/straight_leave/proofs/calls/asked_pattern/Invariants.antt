use Rattle.std.proofs.Common.{◌≡◌, ◌++◌, drop, map, if◌then◌else◌}
use Rattle.ir_types.specs.declared.scalar.Known.TheVariants.{Unknown}
use Rattle.straight_plan.specs.Asked.{known_of}
use Rattle.straight_leave.proofs.calls.asked_pattern.Given as goal

abbrev pub invariant-loop-arg : goal.invariant-loop-arg
invariant-loop-arg l =
    l.pattern.items ++ map (λ arg. if l.copied then known_of arg.value else Unknown) (drop l.arg-index l.args) ≡ map (λ arg. if l.copied then known_of arg.value else Unknown) l.args
