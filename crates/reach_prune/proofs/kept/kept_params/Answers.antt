use Rattle.interface.specs.Masks.{chosen}
use Rattle.reach_prune.proofs.Choosing.{plain_at, plain_whole}
use Rattle.reach_prune.proofs.kept.kept_params.Goals as goal

pub loop-k-preserved : goal.loop-k-preserved
loop-k-preserved c =
    plain_at c.args.mask.now c.args.params.now c.loop-k.made c.add_if.new.made (chosen c.args.mask.now c.args.params.now) c.loop-k.k _ c.is_chosen.result c.loop-k-test.true c.loop-k.invariant c.is_chosen.ensures c.in_ok-add_if.ensures

pub returns : goal.returns
returns c = plain_whole c.args.mask.now c.args.params.now c.loop-k.made (chosen c.args.mask.now c.args.params.now) c.loop-k.k c.loop-k-test.false c.loop-k.invariant
