use Rattle.call_cycles.proofs.Cycling.{call_graph, call_graph_is, answer_is}
use Rattle.call_cycles.proofs.cycles.on_cycles.Goals as goal

pub marks_of-requires : goal.marks_of-requires
marks_of-requires c =
    call_graph c.args.p.now c.in_ok-graph.graph
    (call_graph_is c.args.p.now c.in_ok-graph.graph c.modules.result.now c.in_ok-numbers.numbers c.modules.ensures.program c.modules.ensures.modules c.in_ok-numbers.ensures c.in_ok-graph.ensures.ends c.in_ok-graph.ensures.starts)

pub returns : goal.returns
returns c =
    answer_is c.args.p.now c.in_ok-graph.graph c.modules.result.now c.in_ok-numbers.numbers c.in_ok-marks.marks c.in_ok-flags.flags c.modules.ensures.program c.modules.ensures.modules c.in_ok-numbers.ensures c.in_ok-graph.ensures.ends
    c.in_ok-graph.ensures.starts c.in_ok-marks.ensures c.in_ok-flags.ensures
