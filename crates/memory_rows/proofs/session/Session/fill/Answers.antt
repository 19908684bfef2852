use Rattle.block_memory.proofs.Known.{keeps_fill}
use Rattle.memory_rows.proofs.Covering.{still_covers}
use Rattle.memory_rows.proofs.session.Session.fill.Goals as goal

pub invariant_of-self : goal.invariant_of-self
invariant_of-self c =
    let s = c.args.self.now in
    record { covers = still_covers s.program s.memory c.fill.new.self s.made (keeps_fill s.memory c.fill.new.self c.args.to.now c.args.byte.now c.args.len c.fill.result c.fill.ensures.answer c.fill.ensures.err) s.covers }
