use Rattle.linker.proofs.Judging.{defined_slot}
use Rattle.linker.proofs.slot.Slot.of_defined.Goals as goal

pub returns : goal.returns
returns c = λ name listed is d. defined_slot c.args.modules.now listed name c.args.symbol c.args.group.now.first c.args.group.now.others c.has_other_definition.result c.in_ok-differ.field-0 is d c.has_other_definition.ensures c.in_ok-differ.ensures
