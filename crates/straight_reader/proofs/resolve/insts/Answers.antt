use Rattle.std.proofs.Common.{◌∙◌, ◌+◌, ap, sym, drop}
use Rattle.straight_form.specs.Resolved.{insts_of}
use Rattle.straight_reader.specs.Readings.{extended}
use Rattle.straight_reader.proofs.Resolving.{more_insts, more_registers, bad_inst}
use Rattle.straight_reader.proofs.resolve.insts.Goals as goal

pub returns-in-None-clause-insts : goal.returns-in-None-clause-insts
returns-in-None-clause-insts c =
    bad_inst c.args.functions.now c.args.params.now c.loop-line.registers c.args.lines.now c.loop-line.line-index c.line-item.result c.loop-line.insts c.requires.named c.loop-line-test.true c.line-item.is (sym c.in-None.is ∙ c.in_ok-inst.ensures.inst)
    ∙ c.loop-line.invariant.made

pub loop-line-preserved : goal.loop-line-preserved
loop-line-preserved c =
    let added = rw c.in-Some.is at c.in_ok-inst.ensures.registers in
    record {
      made = ap (λ is. extended is (insts_of c.args.functions.now c.args.params.now c.step.new.registers (drop (c.loop-line.line-index + 1) c.args.lines.now))) c.in_ok-push-in-Some.ensures.ok
          ∙ more_insts c.args.functions.now c.args.params.now c.loop-line.registers c.step.new.registers c.args.lines.now c.loop-line.line-index c.line-item.result c.loop-line.insts c.in-Some.inst c.requires.named c.loop-line-test.true c.line-item.is (sym c.in-Some.is ∙ c.in_ok-inst.ensures.inst) added
          ∙ c.loop-line.invariant.made;
      registers = more_registers c.loop-line.registers c.step.new.registers c.args.lines.now c.loop-line.line-index c.line-item.result c.loop-line-test.true c.line-item.is c.loop-line.invariant.registers added;
    }
