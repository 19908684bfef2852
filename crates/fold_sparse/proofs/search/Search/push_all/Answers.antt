use Rattle.std.proofs.Common.{◌∙◌, [], ◌∷◌, get_or, refl, subst}
use Rattle.fold_sparse.specs.Solving.{Pushes}
use Rattle.fold_sparse.proofs.Opening.{pushes_none, pushes_next, pushes_all}
use Rattle.fold_sparse.proofs.search.Search.push_all.Goals as goal

pub loop-l-init : goal.loop-l-init
loop-l-init c = (refl, λ blocks. pushes_none blocks c.args.self.now.a c.args.self.now.standing c.args.self.now.queue)

pub loop-l-preserved : goal.loop-l-preserved
loop-l-preserved c = (
  c.in_ok-push.ensures.a ∙ c.loop-l.invariant.0,
  λ blocks. pushes_next blocks c.args.self.now.a c.args.self.now.standing c.loop-l.self.standing c.push.new.self.standing c.args.self.now.queue c.loop-l.self.queue c.push.new.self.queue c.args.group.now c.loop-l.l-index
      c.loop-l-test.true (c.loop-l.invariant.1 blocks)
      (subst (λ a. Pushes blocks a c.loop-l.self.standing c.push.new.self.standing c.loop-l.self.queue c.push.new.self.queue (get_or c.args.group.now c.loop-l.l-index 0 ∷ [])) c.loop-l.invariant.0 (c.in_ok-push.ensures.pushes blocks)),
)

pub returns-clause-pushes : goal.returns-clause-pushes
returns-clause-pushes c blocks =
    pushes_all blocks c.args.self.now.a c.args.self.now.standing c.loop-l.self.standing c.args.self.now.queue c.loop-l.self.queue c.args.group.now c.loop-l.l-index c.loop-l-test.false (c.loop-l.invariant.1 blocks)
