use Rattle.reach_prune.proofs.Pieces.{demands_sound}
use Rattle.reach_prune.proofs.assembling.assemble_any.Goals as goal

pub assembled-requires : goal.assembled-requires
assembled-requires c = record { pieces = demands_sound c.args.p.now c.args.pieces c.requires.pieces }
