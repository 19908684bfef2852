use Rattle.std.proofs.Common.{◌≡◌, List, take}
use Rattle.ir_syntax.specs.declared.body.Block.{Block}
use Rattle.fold_sparse.specs.Solving.{Pushes}
use Rattle.fold_sparse.proofs.search.Search.push_all.Given as goal

abbrev pub invariant-loop-l : goal.invariant-loop-l
invariant-loop-l l = (l.self.a ≡ l.fn.self.a) × ((blocks : List Block) → Pushes blocks l.fn.self.a l.fn.self.standing l.self.standing l.fn.self.queue l.self.queue (take l.l-index l.group))
