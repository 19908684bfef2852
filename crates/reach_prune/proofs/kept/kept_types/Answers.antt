use Rattle.std.proofs.Common.{map}
use Rattle.demands.specs.Names.{is_unknown}
use Rattle.interface.specs.Masks.{chosen}
use Rattle.reach_prune.proofs.Choosing.{plain_at, plain_whole}
use Rattle.reach_prune.proofs.kept.kept_types.Goals as goal

pub loop-k-preserved : goal.loop-k-preserved
loop-k-preserved c =
    plain_at (map is_unknown c.args.items.now) c.args.types.now c.loop-k.made c.add_if.new.made (chosen (map is_unknown c.args.items.now) c.args.types.now) c.loop-k.k _ c.is_open.result c.loop-k-test.true c.loop-k.invariant c.is_open.ensures
    c.in_ok-add_if.ensures

pub returns : goal.returns
returns c = plain_whole (map is_unknown c.args.items.now) c.args.types.now c.loop-k.made (chosen (map is_unknown c.args.items.now) c.args.types.now) c.loop-k.k c.loop-k-test.false c.loop-k.invariant
