use Rattle.std.proofs.Common.{◌∙◌, Some, ap}
use Rattle.interface.proofs.Listed.{sound_in}
use Rattle.specialise.proofs.Rows.{known_of_demand}
use Rattle.specialise.proofs.expansion.expanded.Goals as goal

pub expand_function-requires-clause-known : goal.expand_function-requires-clause-known
expand_function-requires-clause-known c =
    known_of_demand c.args.p.now c.args.d.now c.in-Func.symbol c.in-Func.pattern c.items.result.now c.in-Some-Func.func c.requires.demand c.in-Func.is
    (c.in-Some-Func.ensures.item ∙ ap (λ i. Some i) c.in-Some-Func.field-0-is) c.items.ensures.items

pub expand_function-requires-clause-sound : goal.expand_function-requires-clause-sound
expand_function-requires-clause-sound c = sound_in c.args.p.now c.in-Func.symbol c.in-Some-Func.func c.item_of.ensures.program (c.in-Some-Func.ensures.item ∙ ap (λ i. Some i) c.in-Some-Func.field-0-is)
