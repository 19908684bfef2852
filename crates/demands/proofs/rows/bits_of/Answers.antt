use Rattle.std.proofs.Common.{◌≤◌, ◌^◌, arith, length-drop, drop}
use Rattle.demands.proofs.Bits.{more-fits}
use Rattle.demands.proofs.rows.bits_of.Goals as goal
use Rattle.demands.proofs.rows.bits_of.Goals.{in-Unknown, in-Num, in-Null}

pub overflow_mul-bits : goal.overflow_mul-bits
overflow_mul-bits c =
    omega (arith, c.loop-k.invariant, more-fits (drop c.loop-k.k c.args.items.now) 0 (omega (arith, length-drop c.loop-k.k c.args.items.now)) (omega arith))

pub overflow_add-bits : goal.overflow_add-bits
overflow_add-bits c =
    let low : c.match-items-k.bit ≤ 2 ^ 32 = elim c.match-items-k.branch [ in-Unknown w ↦ omega arith | in-Num w ↦ omega arith | in-Null w ↦ omega arith ] in
    omega (arith, c.loop-k.invariant, more-fits (drop c.loop-k.k c.args.items.now) c.match-items-k.bit (omega (arith, length-drop c.loop-k.k c.args.items.now)) low)
