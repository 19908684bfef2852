use Rattle.fold_facts.proofs.Settling.{settle_start}
use Rattle.fold_facts.proofs.solving.settle.Goals as goal

pub loop-changed-init : goal.loop-changed-init
loop-changed-init c = settle_start (record { known = c.args.known.now }) c.args.blocks.now c.args.a.now c.requires.start
