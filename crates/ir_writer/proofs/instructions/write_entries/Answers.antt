use Rattle.std.proofs.Common.{◌+◌, map, arith}
use Rattle.ir_syntax.specs.FormedBody.{item_name}
use Rattle.ir_writer.specs.Instructions.{entry_parts}
use Rattle.ir_writer.proofs.TypeTexts.{list_step}
use Rattle.ir_writer.proofs.instructions.write_entries.Goals as goal

pub loop-place-preserved : goal.loop-place-preserved
loop-place-preserved c =
    list_step (entry_parts (map item_name c.args.items.now) c.args.ty) c.args.entries.now c.loop-place.place (c.loop-place.place + 1) c.index-entries-place.result _ _ _ _ c.loop-place-test.true c.index-entries-place.is (omega arith)
    c.in_ok-write_separator.ensures c.in_ok-write_entry.ensures c.loop-place.invariant
