use Rattle.std.proofs.Common.{arith}
use Rattle.std.specs.Prelude.{slice_index}
use Rattle.call_cycles.proofs.Lists.{index_there}
use Rattle.call_cycles.proofs.search.close_all.Goals as goal

pub set-requires : goal.set-requires
set-requires c =
    omega (arith, c.requires c.loop-node.node-index (slice_index c.args.nodes.now c.loop-node.node-index) (index_there c.args.nodes.now c.loop-node.node-index c.loop-node-test.true), c.loop-node.invariant.1)
