use Rattle.memory_rows.proofs.Covering.{start_covers}
use Rattle.memory_rows.proofs.session.Session.start.Goals as goal

pub invariant_of-result : goal.invariant_of-result
invariant_of-result c = record { covers = start_covers c.args.program c.in_ok-memory.memory c.in_ok-memory.ensures }
