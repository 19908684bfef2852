use Rattle.std.proofs.Common.{[], subst}
use Rattle.fold_facts.specs.Places.{blocks_of}
use Rattle.fold_sparse.specs.Solving.{IsSolving}
use Rattle.fold_sparse.proofs.Visiting.{closed_end}
use Rattle.fold_sparse.proofs.search.Search.run.Goals as goal

pub returns-clause-least : goal.returns-clause-least
returns-clause-least g c =
    closed_end (record { known = c.args.known.now }) (blocks_of c.args.f.now) c.loop-l.self.a c.loop-l.self.standing
    (subst (λ q. IsSolving (record { known = c.args.known.now }) (blocks_of c.args.f.now) c.loop-l.self.a c.loop-l.self.standing q [] []) c.in_default.ensures.0 c.loop-l.invariant.0)
