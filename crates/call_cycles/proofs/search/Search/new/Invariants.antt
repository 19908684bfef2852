use Rattle.call_cycles.proofs.Starting.{IsStart}
use Rattle.call_cycles.proofs.search.Search.new.Given as goal

abbrev pub invariant-loop-node : goal.invariant-loop-node
invariant-loop-node l = IsStart l.graph l.marks l.next l.node
