use Rattle.std.proofs.Common.{◌∙◌, Some, ap}
use Rattle.interface.proofs.Listed.{sound_in}
use Rattle.specialise.proofs.expansion.residual.Goals as goal

pub piece_by-requires-clause-sound : goal.piece_by-requires-clause-sound
piece_by-requires-clause-sound c = sound_in c.args.p.now c.in-Func.symbol c.in-Some-Func.func c.item_of.ensures.program (c.in-Some-Func.ensures.item ∙ ap (λ i. Some i) c.in-Some-Func.field-0-is)
