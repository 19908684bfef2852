use Rattle.block_memory.proofs.Known.{keeps_copy}
use Rattle.memory_rows.proofs.Asked.{copy_is_meant}
use Rattle.memory_rows.proofs.Covering.{still_covers}
use Rattle.memory_rows.proofs.session.Session.copy.Goals as goal

pub copy_bytes-requires : goal.copy_bytes-requires
copy_bytes-requires c =
    let to = c.is_address.ensures in
    let from = c.is_address-then-is_address.ensures in
    record { meant = copy_is_meant c.args.self.now.memory c.args.to.now c.args.from.now c.args.len c.args.may_overlap (to.known c.if-is_address.true) (to.address c.if-is_address.true) (from.known c.if-is_address-2.true) (from.address c.if-is_address-2.true) }

pub invariant_of-self : goal.invariant_of-self
invariant_of-self c =
    let s = c.args.self.now in
    record { covers = still_covers s.program s.memory c.copy_bytes.new.self s.made (keeps_copy s.memory c.copy_bytes.new.self c.args.to.now c.args.from.now c.args.len c.args.may_overlap c.copy_bytes.result c.copy_bytes.ensures.answer c.copy_bytes.ensures.err) s.covers }
