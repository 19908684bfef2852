-- the count so far with that of what is left, as far as it goes
use Rattle.std.proofs.Common.{◌≡◌, ◌+◌, ◌-◌, ◌^◌, ◌<◌, min, drop, map}
use Rattle.std.specs.Prelude.{sum}
use Rattle.winnowed_form.specs.Winnowed.{module_count}
use Rattle.reach_prune.proofs.counts.instruction_count.Given as goal

abbrev pub invariant-loop-module : goal.invariant-loop-module
invariant-loop-module l = (min (l.count + sum (map module_count (drop l.module-index l.modules))) (2 ^ 64 - 1) ≡ min (sum (map module_count l.modules)) (2 ^ 64 - 1)) × (l.count < 2 ^ 64)
