use Rattle.std.proofs.Common.{◌∙◌, ap}
use Rattle.std.specs.Option.{is_some}
use Rattle.linker.proofs.Steps.{among_is}
use Rattle.linker.proofs.slot.is_listed.Goals as goal

pub returns : goal.returns
returns c = c.is_some.ensures ∙ ap is_some c.place_of.ensures.place ∙ among_is c.args.name.now c.args.names.now
