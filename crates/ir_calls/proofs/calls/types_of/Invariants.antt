-- the types so far
use Rattle.std.proofs.Common.{◌≡◌, take}
use Rattle.ir_calls.specs.Mirrors.Shaped.{arg_types}
use Rattle.ir_calls.proofs.calls.types_of.Given as goal

abbrev pub invariant-loop-arg : goal.invariant-loop-arg
invariant-loop-arg l = l.types ≡ arg_types (take l.arg-index l.args)
