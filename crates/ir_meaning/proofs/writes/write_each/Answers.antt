use Rattle.std.proofs.Common.{◌∙◌, ◌<◌, length, arith}
use Rattle.ir_meaning.proofs.Opened.{each_next}
use Rattle.ir_meaning.proofs.writes.write_each.Goals as goal

pub loop-write-preserved : goal.loop-write-preserved
loop-write-preserved c =
    let within : c.loop-write.write-index < length c.args.writes.now = omega arith in
    let next = each_next c.args.args.now c.args.writes.now c.loop-write.write-index _ c.loop-write.memory c.write_one.new.memory within c.loop-write.invariant.open_yet c.write_one.ensures in
    record { open_yet = next.0; left = next.1 ∙ c.loop-write.invariant.left }
