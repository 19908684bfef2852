use Rattle.std.proofs.Common.{◌≡◌, ◌∙◌, sym, subst, cond}
use Rattle.std.specs.Prelude.{IfSome}
use Rattle.fold_facts.specs.Raising.{with_edge}
use Rattle.fold_sparse.specs.Solving.{Reaches}
use Rattle.fold_sparse.proofs.Edges.{edge_of, edge_fits, reaches_old, reaches_new}
use Rattle.fold_sparse.proofs.search.Search.reach.Goals as goal

pub returns-then-was_reached : goal.returns-then-was_reached
returns-then-was_reached c =
    reaches_old c.args.blocks.now c.args.self.now.a c.reach.new.self c.args.self.now.standing c.args.self.now.queue c.args.at c.args.k c.args.to c.requires.fits c.requires.k c.requires.there c.reach.ensures.value
    (sym c.is_reached-was_reached.ensures ∙ c.if-was_reached.true)

pub open_all-requires-clause-fits : goal.open_all-requires-clause-fits
open_all-requires-clause-fits c =
    let e = edge_of c.args.self.now.a c.args.at c.args.k c.args.to c.requires.k c.requires.there in
    edge_fits c.args.blocks.now c.args.self.now.a c.reach.new.self c.args.at c.args.k e.0 c.requires.fits e.1
    (subst (λ o. IfSome o (λ edge. c.reach.new.self ≡ cond edge.reached c.args.self.now.a (with_edge c.args.self.now.a c.args.at c.args.k edge.to))) e.1 c.reach.ensures.value)

pub returns : goal.returns
returns c =
    subst (λ a. Reaches c.args.blocks.now c.args.self.now.a a c.args.self.now.standing c.open_all.new.self.standing c.args.self.now.queue c.open_all.new.self.queue c.args.at c.args.k c.args.to) (sym c.in_ok-open_all.ensures.a)
    (reaches_new c.args.blocks.now c.args.self.now.a c.reach.new.self c.args.self.now.standing c.open_all.new.self.standing c.args.self.now.queue c.open_all.new.self.queue c.group.result.now c.args.at c.args.k c.args.to
    c.requires.fits c.requires.k c.requires.there c.reach.ensures.value (c.group.ensures ∙ c.requires.plan.homes c.args.to c.requires.to) c.in_ok-open_all.ensures.opens)
