use Rattle.std.proofs.Common.{sym}
use Rattle.fold_facts.specs.Places.{blocks_of}
use Rattle.fold_sparse.specs.Looks.{looks_of, uses_from}
use Rattle.fold_sparse.proofs.Visiting.{taken_left, looked_after}
use Rattle.fold_sparse.proofs.search.Search.visit.Goals as goal

pub returns-clause-looked : goal.returns-clause-looked
returns-clause-looked g c =
    looked_after (record { known = c.args.known.now }) (blocks_of c.args.f.now) c.args.self.now.a c.look_at.new.self.a c.args.self.now.standing c.set.new.self c.look_at.new.self.standing c.args.self.now.queue c.look_at.new.self.queue
    (taken_left (uses_from (blocks_of c.args.f.now) 0 (looks_of (blocks_of c.args.f.now))) c.args.self.now.a.facts c.args.self.now.standing c.set.new.self c.args.self.now.queue c.args.l (sym c.if-not-is_queued.ensures) c.set.ensures)
    c.in_ok-look_at-in-Some.ensures.looked
