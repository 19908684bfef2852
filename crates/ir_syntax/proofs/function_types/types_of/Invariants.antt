-- the types so far, and then those of the parameters that are left, are all
use Rattle.std.proofs.Common.{◌≡◌, ◌++◌, map, drop}
use Rattle.ir_syntax.proofs.function_types.types_of.Given as goal

abbrev pub invariant-loop-param : goal.invariant-loop-param
invariant-loop-param l = l.types ++ map (λ param. param.ty) (drop l.param-index l.params) ≡ map (λ param. param.ty) l.params
