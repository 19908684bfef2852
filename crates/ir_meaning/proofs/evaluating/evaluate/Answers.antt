use Rattle.std.proofs.Common.{◌∙◌, ap, sym}
use Rattle.block_memory.specs.Answers.{and_then}
use Rattle.ir_steps.specs.Operands.{value}
use Rattle.ir_steps.specs.Reading.{evaluated, gep}
use Rattle.ir_meaning.specs.Models.{frame_of}
use Rattle.ir_meaning.proofs.evaluating.evaluate.Goals as goal

pub returns-in-Bin : goal.returns-in-Bin
returns-in-Bin c = ap (evaluated c.args.p.now (frame_of c.args.p.now c.args.frame.now) c.args.memory.now) c.in-Bin.is ∙ c.evaluate_bin.ensures

pub returns-in-Icmp : goal.returns-in-Icmp
returns-in-Icmp c = ap (evaluated c.args.p.now (frame_of c.args.p.now c.args.frame.now) c.args.memory.now) c.in-Icmp.is ∙ c.evaluate_icmp.ensures

pub returns-in-Gep : goal.returns-in-Gep
returns-in-Gep c =
    let p = c.args.p.now in
    let f = frame_of p c.args.frame.now in
    ap (evaluated p f c.args.memory.now) c.in-Gep.is
    ∙ ap (λ indices. and_then (gep p f c.args.memory.now c.in-Gep.inbounds c.in-Gep.ty indices) (value p f c.in-Gep.base)) (sym c.as_slice.ensures)
    ∙ c.evaluate_gep.ensures
