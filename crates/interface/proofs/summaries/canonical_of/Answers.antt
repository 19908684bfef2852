use Rattle.std.proofs.Common.{sym}
use Rattle.interface.proofs.Listed.{no_entry}
use Rattle.interface.proofs.summaries.canonical_of.Goals as goal

pub returns-in-None : goal.returns-in-None
returns-in-None c = sym (no_entry c.args.p.now.canonical c.args.p.now.modules (record { «module» = c.args.home; item = c.args.place }) c.in-None.ensures.program.canonical.lengths c.in-None.ensures.item)
