use Rattle.specialise.proofs.Sorted.{in_order_of}
use Rattle.specialise.proofs.needs.in_order.Goals as goal

pub returns : goal.returns
returns c = in_order_of c.args.rows.items c.sort_unstable.new.self.items c.dedup.new.self.items _ c.sort_unstable.ensures.permutation c.sort_unstable.ensures.sorted c.dedup.ensures.filtered c.from_vec.ensures
