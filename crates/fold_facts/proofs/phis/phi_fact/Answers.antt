use Rattle.fold_facts.specs.Phis.{entry_fact, phi_fact}
use Rattle.fold_facts.proofs.Orders.{joins_next}
use Rattle.fold_facts.proofs.phis.phi_fact.Goals as goal

pub loop-entry-preserved : goal.loop-entry-preserved
loop-entry-preserved c =
    joins_next (entry_fact (record { known = c.args.known.now }) c.args.a.now c.args.place) c.as_slice-entry-items.result.now c.loop-entry.entry-index c.entry-item.result c.loop-entry.fact c.entry_fact.result c.join-fact.result
    (phi_fact (record { known = c.args.known.now }) c.args.a.now c.args.place c.args.phi.now) c.loop-entry-test.true c.entry-item.is c.entry_fact.ensures c.join-fact.ensures c.loop-entry.invariant
