use Rattle.ir_writer.proofs.ItemTexts.{module_written}
use Rattle.ir_writer.proofs.writing.write_module.Goals as goal

pub returns : goal.returns
returns c = record {
  text = module_written c.args.m.now c.as_slice.result.now _ _ _ _ c.new-text.ensures c.as_slice.ensures c.in_ok-write_target.ensures c.in_ok-write_target-2.ensures c.in_ok-write_items.ensures;
}
