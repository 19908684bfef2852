-- the arguments so far have the types so far
use Rattle.std.proofs.Common.{◌≡◌, map, take}
use Rattle.ir_check.proofs.calls.have_args.Given as goal

abbrev pub invariant-loop-i : goal.invariant-loop-i
invariant-loop-i l = map (λ arg. arg.ty) (take l.i l.args) ≡ take l.i l.types
