use Rattle.std.proofs.Common.{sym, refl, arith}
use Rattle.ir_scope.proofs.Measuring.{scalar_measures}
use Rattle.ir_scope.proofs.types.one.Goals as goal

pub invariant_of-result : goal.invariant_of-result
invariant_of-result c =
    let m = scalar_measures _ c.args.scalar refl in
    record { measured = (sym m.nesting, sym m.nodes); fits = (omega arith, omega arith, omega arith) }
