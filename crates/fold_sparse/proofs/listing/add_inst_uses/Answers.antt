use Rattle.std.proofs.Common.{sym}
use Rattle.ir_syntax.specs.Operands.{operands}
use Rattle.fold_sparse.proofs.Lists.{uses_next}
use Rattle.fold_sparse.proofs.listing.add_inst_uses.Goals as goal

pub loop-k-preserved : goal.loop-k-preserved
loop-k-preserved c =
    uses_next c.args.l c.loop-k.k (operands c.args.inst.now) c.in-Some.operand.now c.loop-k.pairs c.add_use.new.pairs _ (sym c.in-Some.ensures) c.in_ok-add_use-in-Some.ensures c.loop-k.invariant
