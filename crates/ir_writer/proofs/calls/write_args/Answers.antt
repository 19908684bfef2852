use Rattle.std.proofs.Common.{◌+◌, map, arith}
use Rattle.ir_syntax.specs.FormedBody.{item_name}
use Rattle.ir_writer.specs.Instructions.{arg_parts}
use Rattle.ir_writer.proofs.TypeTexts.{list_step}
use Rattle.ir_writer.proofs.calls.write_args.Goals as goal

pub loop-place-preserved : goal.loop-place-preserved
loop-place-preserved c =
    list_step (arg_parts (map item_name c.args.items.now)) c.args.args.now c.loop-place.place (c.loop-place.place + 1) c.index-args-place.result _ _ _ _ c.loop-place-test.true c.index-args-place.is (omega arith)
    c.in_ok-write_separator.ensures c.in_ok-write_arg.ensures c.loop-place.invariant
