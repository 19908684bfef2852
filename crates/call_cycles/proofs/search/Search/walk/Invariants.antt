use Rattle.call_cycles.specs.Searching.{IsSearch, AreFewerFresh, left}
use Rattle.call_cycles.proofs.search.Search.walk.Given as goal

abbrev pub invariant-loop-bound : goal.invariant-loop-bound
invariant-loop-bound l = IsSearch l.graph l.self.marks l.self.next l.self.stack.items l.self.bounds l.self.waiting × AreFewerFresh l.fn.self.marks l.self.marks

abbrev pub decreases-loop-bound : goal.decreases-loop-bound
decreases-loop-bound l = left l.graph l.self.marks l.self.next l.self.bounds l.self.waiting
