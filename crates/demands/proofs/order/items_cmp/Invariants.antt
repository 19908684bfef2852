use Rattle.std.proofs.Common.{◌≡◌, ◌≤◌, length, drop}
use Rattle.demands.specs.Order.{pattern_order}
use Rattle.demands.proofs.order.items_cmp.Given as goal

abbrev pub invariant-loop-k : goal.invariant-loop-k
invariant-loop-k l = (pattern_order (drop l.k l.a) (drop l.k l.b) ≡ pattern_order l.a l.b) × (l.k ≤ length l.b)
