use Rattle.std.proofs.Common.{◌+◌, ◌≤◌, []}
use Rattle.fold_facts.specs.Places.{blocks_of}
use Rattle.fold_sparse.specs.Looks.{looks_of, uses_from}
use Rattle.fold_sparse.specs.Solving.{IsSolving, left}
use Rattle.fold_sparse.proofs.search.Search.run.Given as goal

abbrev pub invariant-loop-l : goal.invariant-loop-l
invariant-loop-l g l = IsSolving (record { known = l.known }) (blocks_of l.f) l.self.a l.self.standing l.self.queue [] []
    × (l.steps + left (uses_from (blocks_of l.f) 0 (looks_of (blocks_of l.f))) l.self.a.facts l.self.standing l.self.queue
    ≤ l.fn.steps + left (uses_from (blocks_of l.f) 0 (looks_of (blocks_of l.f))) l.fn.self.a.facts l.fn.self.standing l.fn.self.queue)

abbrev pub decreases-loop-l : goal.decreases-loop-l
decreases-loop-l g l = left (uses_from (blocks_of l.f) 0 (looks_of (blocks_of l.f))) l.self.a.facts l.self.standing l.self.queue
