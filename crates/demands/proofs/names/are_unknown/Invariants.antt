use Rattle.std.proofs.Common.{◌≡◌, drop}
use Rattle.demands.specs.Names.{are_unknown}
use Rattle.demands.proofs.names.are_unknown.Given as goal

abbrev pub invariant-loop-item : goal.invariant-loop-item
invariant-loop-item l = are_unknown (drop l.item-index l.items) ≡ are_unknown l.items
