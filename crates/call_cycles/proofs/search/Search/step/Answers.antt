use Rattle.std.proofs.Common.{sym}
use Rattle.call_cycles.proofs.Steps.{last_place, is_done}
use Rattle.call_cycles.proofs.search.Search.step.Goals as goal

pub look-requires-clause-last : goal.look-requires-clause-last
look-requires-clause-last c = last_place c.args.self.now.bounds c.args.bound c.in-Some.place c.requires.search.bounds_rise c.requires.bound c.if-place-bound.true

pub close-requires-clause-done : goal.close-requires-clause-done
close-requires-clause-done c =
    is_done c.args.graph.now c.args.self.now.marks c.args.self.now.next c.args.self.now.stack.items c.args.self.now.bounds c.args.self.now.waiting c.args.bound c.in-Some.place c.requires.search c.requires.bound (sym c.in-Some.ensures) c.if-place-bound.false
