use Rattle.call_cycles.specs.Mirrors.Numbering.{rows_of}
use Rattle.call_cycles.proofs.Cycling.{graph_next}
use Rattle.call_cycles.proofs.calls.graph_of.Goals as goal

pub loop-module-preserved : goal.loop-module-preserved
loop-module-preserved c =
    graph_next c.args.program.now.targets c.args.numbers.now c.args.program.now.modules c.modules-m-items.result.now c.loop-module.module c.m-item.result c.as_slice-items.result.now c.in_ok-leads.leads c.as_slice.result.now
    c.loop-module.starts c.add_items.new.starts c.loop-module.ends c.add_items.new.ends (rows_of c.args.program.now.targets c.args.numbers.now 0 c.args.program.now.modules)
    c.modules-m-items.ensures.modules c.loop-module-test.true c.m-item.is c.as_slice-items.ensures c.in_ok-leads.ensures c.as_slice.ensures c.in_ok-add_items.ensures.ends c.in_ok-add_items.ensures.starts c.loop-module.invariant.0 c.loop-module.invariant.1
