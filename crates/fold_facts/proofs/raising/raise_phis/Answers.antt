use Rattle.std.proofs.Common.{◌+◌, length, arith, ap, sym, subst}
use Rattle.fold_facts.proofs.Lists.{item_at}
use Rattle.fold_facts.proofs.Visits.{PhisRaised, phi_less, phi_less_facts, phis_step, phis_end}
use Rattle.fold_facts.proofs.raising.raise_phis.Goals as goal

pub overflow_add-first : goal.overflow_add-first
overflow_add-first c =
    omega (
      arith,
      c.requires.few,
      phi_less (record { known = c.args.known.now }) c.args.blocks.now c.args.a.now c.args.place c.args.first c.loop-k.k c.args.block.now c.phi-item.result c.requires
          (item_at c.args.block.now.phis c.as_slice-phi-items.result.now c.loop-k.k c.phi-item.result c.as_slice-phi-items.ensures c.loop-k-test.true c.phi-item.is),
    )

pub raise-raised-requires : goal.raise-raised-requires
raise-raised-requires c =
    phi_less_facts (record { known = c.args.known.now }) c.args.blocks.now c.args.a.now c.loop-k.a c.args.place c.args.first c.loop-k.k c.args.block.now c.phi-item.result c.requires c.loop-k.invariant.raises.fits
    (item_at c.args.block.now.phis c.as_slice-phi-items.result.now c.loop-k.k c.phi-item.result c.as_slice-phi-items.ensures c.loop-k-test.true c.phi-item.is)

pub loop-k-preserved : goal.loop-k-preserved
loop-k-preserved c =
    subst (PhisRaised (record { known = c.args.known.now }) c.args.blocks.now c.args.a.now c.raise-raised.new.self c.args.place c.args.first (c.loop-k.k + 1) c.args.block.now) (sym c.either-changed.ensures)
    (phis_step (record { known = c.args.known.now }) c.args.blocks.now c.args.a.now c.loop-k.a c.raise-raised.new.self c.args.place c.args.first c.loop-k.k c.args.block.now c.phi-item.result c.phi_fact-said.result
    c.loop-k.changed c.raise-raised.result c.requires c.loop-k.invariant
    (item_at c.args.block.now.phis c.as_slice-phi-items.result.now c.loop-k.k c.phi-item.result c.as_slice-phi-items.ensures c.loop-k-test.true c.phi-item.is)
    c.phi_fact-said.ensures c.raise-raised.ensures.value c.raise-raised.ensures.changed)

pub returns-clause-closed : goal.returns-clause-closed
returns-clause-closed c =
    phis_end (record { known = c.args.known.now }) c.args.blocks.now c.args.a.now c.loop-k.a c.args.place c.args.first c.loop-k.k c.args.block.now c.loop-k.changed
    (omega (arith, c.loop-k-test.false, ap length c.as_slice-phi-items.ensures)) c.loop-k.invariant
