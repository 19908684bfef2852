use Rattle.std.proofs.Common.{◌+◌, length, arith, ap}
use Rattle.fold_facts.proofs.Lists.{item_at}
use Rattle.fold_facts.proofs.Numbers.{phis_first}
use Rattle.fold_facts.proofs.Closing.{accepted, refuted, insts_begin, insts_more, insts_done, insts_one, insts_fit}
use Rattle.fold_facts.proofs.closed.are_insts_closed.Goals as goal

pub overflow_add-number : goal.overflow_add-number
overflow_add-number c = omega (arith, c.requires, c.len.ensures, phis_first c.args.block.now)

pub loop-inst-init : goal.loop-inst-init
loop-inst-init c = insts_begin (record { known = c.args.known.now }) c.args.a.now c.args.first (c.args.first + c.len.result) c.args.block.now (ap (λ n. c.args.first + n) c.len.ensures)

pub overflow_add-number-in-loop-inst : goal.overflow_add-number-in-loop-inst
overflow_add-number-in-loop-inst c =
    omega (
      arith,
      c.requires,
      c.results_of-number.ensures,
      insts_fit c.args.first c.loop-inst.inst-index c.loop-inst.number c.args.block.now c.inst-item.result
          (item_at c.args.block.now.insts c.as_slice-inst-items.result.now c.loop-inst.inst-index c.inst-item.result c.as_slice-inst-items.ensures c.loop-inst-test.true c.inst-item.is) c.loop-inst.invariant.numbered,
    )

pub loop-inst-preserved : goal.loop-inst-preserved
loop-inst-preserved c =
    insts_more (record { known = c.args.known.now }) c.args.a.now c.args.first c.loop-inst.inst-index c.loop-inst.number (c.loop-inst.number + c.results_of-number.result) c.args.block.now c.inst-item.result c.loop-inst.invariant
    (item_at c.args.block.now.insts c.as_slice-inst-items.result.now c.loop-inst.inst-index c.inst-item.result c.as_slice-inst-items.ensures c.loop-inst-test.true c.inst-item.is)
    (c.is_inst_closed.ensures.0 c.if-not-is_inst_closed.false) (ap (λ n. c.loop-inst.number + n) c.results_of-number.ensures)

pub returns-then-not-is_inst_closed : goal.returns-then-not-is_inst_closed
returns-then-not-is_inst_closed c =
    refuted c.is_inst_closed.result c.if-not-is_inst_closed.true c.is_inst_closed.ensures
    (insts_one (record { known = c.args.known.now }) c.args.a.now c.args.first c.loop-inst.inst-index c.loop-inst.number c.args.block.now c.inst-item.result c.loop-inst.invariant
    (item_at c.args.block.now.insts c.as_slice-inst-items.result.now c.loop-inst.inst-index c.inst-item.result c.as_slice-inst-items.ensures c.loop-inst-test.true c.inst-item.is))

pub returns : goal.returns
returns c =
    accepted (insts_done (record { known = c.args.known.now }) c.args.a.now c.args.first c.loop-inst.inst-index c.loop-inst.number c.args.block.now
    (omega (arith, c.loop-inst-test.false, ap length c.as_slice-inst-items.ensures)) c.loop-inst.invariant)
