use Rattle.std.proofs.Common.{◌+◌, map, arith}
use Rattle.ir_syntax.specs.FormedBody.{item_name}
use Rattle.ir_writer.proofs.LineTexts.{phi_step}
use Rattle.ir_writer.proofs.blocks.write_phis.Goals as goal

pub loop-phi-preserved : goal.loop-phi-preserved
loop-phi-preserved c = record {
  number = omega arith;
  text = phi_step (map item_name c.args.items.now) c.args.phis.now c.loop-phi.phi-index c.loop-phi.number (c.loop-phi.number + 1) c.phi-item.result _ _ _ c.loop-phi-test.true c.phi-item.is (omega arith) c.in_ok-write_phi_line.ensures c.loop-phi.invariant.text;
}
