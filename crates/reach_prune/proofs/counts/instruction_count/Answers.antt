use Rattle.std.proofs.Common.{◌-◌, ◌^◌, min, map}
use Rattle.std.specs.Prelude.{sum}
use Rattle.winnowed_form.specs.Winnowed.{module_count}
use Rattle.reach_prune.proofs.Counting.{counted}
use Rattle.reach_prune.proofs.counts.instruction_count.Goals as goal

pub returns : goal.returns
returns c = counted module_count c.args.modules.now c.loop-module.module-index c.loop-module.count (min (sum (map module_count c.args.modules.now)) (2 ^ 64 - 1)) c.loop-module-test.false c.loop-module.invariant.1 c.loop-module.invariant.0
