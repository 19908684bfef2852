-- the parameters so far have the types so far
use Rattle.std.proofs.Common.{◌≡◌, map, take}
use Rattle.ir_syntax.proofs.function_types.have_types.Given as goal

abbrev pub invariant-loop-i : goal.invariant-loop-i
invariant-loop-i l = map (λ param. param.ty) (take l.i l.params) ≡ take l.i l.types
