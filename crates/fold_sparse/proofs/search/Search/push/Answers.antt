use Rattle.std.proofs.Common.{sym}
use Rattle.fold_sparse.proofs.Opening.{push_yes, push_not}
use Rattle.fold_sparse.proofs.search.Search.push.Goals as goal

pub returns-then-not-is_idle-clause-pushes : goal.returns-then-not-is_idle-clause-pushes
returns-then-not-is_idle-clause-pushes c blocks = push_not blocks c.args.self.now.a c.args.self.now.standing c.args.self.now.queue c.args.l (sym c.if-not-is_idle.ensures)

pub returns-clause-pushes : goal.returns-clause-pushes
returns-clause-pushes c blocks =
    push_yes blocks c.args.self.now.a c.args.self.now.standing c.enqueue.new.self.standing c.args.self.now.queue c.enqueue.new.self.queue c.args.l (sym c.if-not-is_idle.ensures) c.in_ok-enqueue.ensures.standing c.in_ok-enqueue.ensures.queue
