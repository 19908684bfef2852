use Rattle.std.proofs.Common.{sym, ap}
use Rattle.interface.specs.Asked.{definition}
use Rattle.interface.proofs.Listed.{no_entry}
use Rattle.interface.proofs.asked.definition_of.Goals as goal

pub returns-in-None : goal.returns-in-None
returns-in-None c =
    sym (ap definition (no_entry c.args.p.now.targets c.args.p.now.modules (record { «module» = c.args.home; item = c.args.place }) c.in-None.ensures.program.linked.targets.lengths c.in-None.ensures.item))
