use Rattle.std.proofs.Common.{◌+◌, length, arith, ap, sym, subst}
use Rattle.fold_facts.proofs.Lists.{item_at}
use Rattle.fold_facts.proofs.Visits.{InstsRaised, phis_less, inst_less, inst_within, insts_start, insts_step, insts_end}
use Rattle.fold_facts.proofs.raising.raise_insts.Goals as goal

pub overflow_add-number : goal.overflow_add-number
overflow_add-number c =
    omega (arith, c.len.ensures, c.requires.few, phis_less (record { known = c.args.known.now }) c.args.blocks.now c.args.a.now c.args.place c.args.first c.args.block.now c.requires)

pub loop-inst-init : goal.loop-inst-init
loop-inst-init c =
    insts_start (record { known = c.args.known.now }) c.args.blocks.now c.args.a.now c.args.first (c.args.first + c.len.result) c.args.block.now c.requires.fits (ap (λ n. c.args.first + n) c.len.ensures)

pub raise_inst-raised-requires : goal.raise_inst-raised-requires
raise_inst-raised-requires c =
    inst_within (record { known = c.args.known.now }) c.args.blocks.now c.args.a.now c.loop-inst.a c.args.place c.args.first c.loop-inst.inst-index c.loop-inst.number c.args.block.now c.inst-item.result c.loop-inst.changed c.requires c.loop-inst.invariant
    (item_at c.args.block.now.insts c.as_slice-inst-items.result.now c.loop-inst.inst-index c.inst-item.result c.as_slice-inst-items.ensures c.loop-inst-test.true c.inst-item.is)

pub overflow_add-number-in-loop-inst : goal.overflow_add-number-in-loop-inst
overflow_add-number-in-loop-inst c =
    omega (
      arith,
      c.results_of-number.ensures,
      c.requires.few,
      inst_less (record { known = c.args.known.now }) c.args.blocks.now c.args.a.now c.args.place c.args.first c.loop-inst.inst-index c.loop-inst.number c.args.block.now c.inst-item.result c.requires
          (item_at c.args.block.now.insts c.as_slice-inst-items.result.now c.loop-inst.inst-index c.inst-item.result c.as_slice-inst-items.ensures c.loop-inst-test.true c.inst-item.is) c.loop-inst.invariant.numbered,
    )

pub loop-inst-preserved : goal.loop-inst-preserved
loop-inst-preserved c =
    subst (InstsRaised (record { known = c.args.known.now }) c.args.blocks.now c.args.a.now c.raise_inst-raised.new.a c.args.first (c.loop-inst.inst-index + 1) (c.loop-inst.number + c.results_of-number.result) c.args.block.now) (sym c.either-changed.ensures)
    (insts_step (record { known = c.args.known.now }) c.args.blocks.now c.args.a.now c.loop-inst.a c.raise_inst-raised.new.a c.args.place c.args.first c.loop-inst.inst-index c.loop-inst.number (c.loop-inst.number + c.results_of-number.result)
    c.args.block.now c.inst-item.result c.loop-inst.changed c.raise_inst-raised.result c.requires c.loop-inst.invariant
    (item_at c.args.block.now.insts c.as_slice-inst-items.result.now c.loop-inst.inst-index c.inst-item.result c.as_slice-inst-items.ensures c.loop-inst-test.true c.inst-item.is)
    (record { value = c.raise_inst-raised.ensures.value; none = c.raise_inst-raised.ensures.none; changed = c.raise_inst-raised.ensures.changed })
    (ap (λ n. c.loop-inst.number + n) c.results_of-number.ensures))

pub returns-clause-closed : goal.returns-clause-closed
returns-clause-closed c =
    insts_end (record { known = c.args.known.now }) c.args.blocks.now c.args.a.now c.loop-inst.a c.args.first c.loop-inst.inst-index c.loop-inst.number c.args.block.now c.loop-inst.changed
    (omega (arith, c.loop-inst-test.false, ap length c.as_slice-inst-items.ensures)) c.loop-inst.invariant
