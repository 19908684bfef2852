use Rattle.std.proofs.Common.{◌≡◌, ◌∙◌, ◌+◌, ◌-◌, [], ◌∷◌, length, get_or, refl, subst, arith}
use Rattle.fold_sparse.specs.Solving.{Opens}
use Rattle.fold_sparse.proofs.Opening.{opens_start, opens_next, opens_all}
use Rattle.fold_sparse.proofs.search.Search.open_all.Goals as goal

pub loop-k-init : goal.loop-k-init
loop-k-init c = (refl, opens_start c.args.blocks.now c.args.self.now.a c.args.self.now.standing c.args.self.now.queue c.args.group.now)

pub loop-k-preserved : goal.loop-k-preserved
loop-k-preserved c =
    let at : (length c.args.group.now - 1 - c.loop-k.k) + 1 + c.loop-k.k ≡ length c.args.group.now = omega (arith, c.loop-k-test.true) in (
      c.in_ok-open.ensures.a ∙ c.loop-k.invariant.0,
      opens_next c.args.blocks.now c.args.self.now.a c.args.self.now.standing c.loop-k.self.standing c.open.new.self.standing c.args.self.now.queue c.loop-k.self.queue c.open.new.self.queue c.args.group.now c.loop-k.k
          (length c.args.group.now - 1 - c.loop-k.k) (get_or c.args.group.now (length c.args.group.now - 1 - c.loop-k.k) 0) c.loop-k-test.true at refl c.loop-k.invariant.1
          (subst (λ a. Opens c.args.blocks.now a c.loop-k.self.standing c.open.new.self.standing c.loop-k.self.queue c.open.new.self.queue (get_or c.args.group.now (length c.args.group.now - 1 - c.loop-k.k) 0 ∷ [])) c.loop-k.invariant.0
          c.in_ok-open.ensures.opens),
    )

pub returns-clause-opens : goal.returns-clause-opens
returns-clause-opens c =
    opens_all c.args.blocks.now c.args.self.now.a c.args.self.now.standing c.loop-k.self.standing c.args.self.now.queue c.loop-k.self.queue c.args.group.now c.loop-k.k c.loop-k-test.false c.loop-k.invariant.1
