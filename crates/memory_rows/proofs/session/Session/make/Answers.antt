use Rattle.std.proofs.Common.{◌+◌, ◌≤◌, length, arith}
use Rattle.memory_rows.proofs.Covering.{alloc_covers}
use Rattle.memory_rows.proofs.session.Session.make.Goals as goal

pub invariant_of-self-2 : goal.invariant_of-self-2
invariant_of-self-2 c =
    let s = c.args.self.now in
    let few : c.saturating_add-self.result ≤ length s.memory.made + 1 = grind (arith, c.saturating_add-self.ensures, c.in_ok-number.ensures.number) in
    record { covers = alloc_covers s.program s.memory c.alloc.new.self c.args.size c.args.heap c.args.zeroed s.made c.saturating_add-self.result c.in_ok-number.ensures.ok few s.covers }
