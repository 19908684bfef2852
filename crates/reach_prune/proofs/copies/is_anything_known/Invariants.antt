-- nothing was known so far, so what is left decides
use Rattle.std.proofs.Common.{◌≡◌, drop}
use Rattle.demands.specs.Names.{are_unknown}
use Rattle.reach_prune.proofs.copies.is_anything_known.Given as goal

abbrev pub invariant-loop-item : goal.invariant-loop-item
invariant-loop-item l = are_unknown (drop l.item-index l.items) ≡ are_unknown l.items
