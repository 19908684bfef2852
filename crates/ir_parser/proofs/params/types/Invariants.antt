-- those so far
use Rattle.std.proofs.Common.{◌≡◌, map, take}
use Rattle.ir_parser.proofs.params.types.Given as goal

abbrev pub invariant-loop-param : goal.invariant-loop-param
invariant-loop-param l = l.types ≡ map (λ p. p.0) (take l.param-index l.params)
