use Rattle.std.proofs.Common.{◌≡◌, ◌-◌, drop, length}
use Rattle.fold_sparse.specs.Solving.{Opens}
use Rattle.fold_sparse.proofs.search.Search.open_all.Given as goal

abbrev pub invariant-loop-k : goal.invariant-loop-k
invariant-loop-k l = (l.self.a ≡ l.fn.self.a) × Opens l.blocks l.fn.self.a l.fn.self.standing l.self.standing l.fn.self.queue l.self.queue (drop (length l.group - l.k) l.group)
