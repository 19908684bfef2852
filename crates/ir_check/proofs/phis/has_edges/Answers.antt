use Rattle.std.proofs.Common.{refl}
use Rattle.ir_check.proofs.Counting.{has_edges_fits, has_edges_none, has_edges_exceeds}
use Rattle.ir_check.proofs.phis.has_edges.Goals as goal

pub returns-then-not-take_entries-clause-edges : goal.returns-then-not-take_entries-clause-edges
returns-then-not-take_entries-clause-edges c = has_edges_exceeds c.args.blocks.now c.args.entries.now c.count_blocks.new.counts c.count_blocks.ensures (c.if-not-take_entries.ensures.too_many refl)

pub returns-clause-edges : goal.returns-clause-edges
returns-clause-edges c = has_edges_fits c.args.blocks.now c.args.entries.now c.count_blocks.new.counts c.take_entries.new.counts c.are_uncounted.result (c.if-not-take_entries.ensures.taken refl) c.count_blocks.ensures c.are_uncounted.ensures

pub returns-clause-none : goal.returns-clause-none
returns-clause-none c = has_edges_none c.args.blocks.now c.args.entries.now c.count_blocks.new.counts c.take_entries.new.counts c.are_uncounted.result (c.if-not-take_entries.ensures.taken refl) c.count_blocks.ensures c.are_uncounted.ensures
