use Rattle.std.proofs.Common.{◌∙◌, sym}
use Rattle.straight_reader.proofs.Resolving.{bad_arg}
use Rattle.straight_reader.proofs.resolve.args.Goals as goal

pub returns-in-None : goal.returns-in-None
returns-in-None c =
    bad_arg c.args.params.now c.args.registers.now c.args.values.now c.loop-value.value-index c.value-item.result c.loop-value.args c.loop-value-test.true c.value-item.is (sym c.in-None.is ∙ c.operand.ensures)
    ∙ c.loop-value.invariant
