use Rattle.memory_rows.proofs.Compared.{compare_is_meant}
use Rattle.memory_rows.proofs.session.Session.compare.Goals as goal

pub compare-requires : goal.compare-requires
compare-requires c =
    record { meant = compare_is_meant c.args.self.now.memory c.args.pred c.args.a.now c.args.b.now (c.is_known.ensures c.if-is_known.true) (c.is_known-then-is_known.ensures c.if-is_known-2.true) }
