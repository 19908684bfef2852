use Rattle.std.proofs.Common.{sym}
use Rattle.ir_syntax.specs.Operands.{operands}
use Rattle.ir_paths.specs.FarUses.{operand_far}
use Rattle.ir_paths.proofs.Nexts.{adds_next}
use Rattle.ir_paths.proofs.far.add_inst.Goals as goal

pub loop-k-preserved : goal.loop-k-preserved
loop-k-preserved c =
    adds_next (operand_far c.args.definers.now c.args.place c.args.until) (operands c.args.inst.now) c.loop-k.k c.in-Some.operand.now c.loop-k.far.items c.add_operand.new.far.items _
    (sym c.in-Some.ensures) c.in_ok-add_operand-in-Some.ensures c.loop-k.invariant
