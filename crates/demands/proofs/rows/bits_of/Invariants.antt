use Rattle.std.proofs.Common.{◌≡◌, drop}
use Rattle.demands.specs.Rows.{pattern_bits}
use Rattle.demands.proofs.rows.bits_of.Given as goal

abbrev pub invariant-loop-k : goal.invariant-loop-k
invariant-loop-k l = l.bits ≡ pattern_bits (drop l.k l.items)
