use Rattle.std.proofs.Common.{◌≡◌, ◌∙◌, ◌<◌, ap, sym, subst, arith, length}
use Rattle.std.specs.Prelude.{IfSome, slice_get}
use Rattle.std.proofs.lemmas.Option.{none-some}
use Rattle.ir_syntax.specs.Edges.{successors}
use Rattle.fold_facts.proofs.Lists.{there}
use Rattle.fold_facts.proofs.Visits.{edge_there, edges_long}
use Rattle.fold_sparse.proofs.Edges.{reaches_next}
use Rattle.fold_sparse.proofs.search.Search.reach_edges.Goals as goal

pub reach_asked-requires-clause-there : goal.reach_asked-requires-clause-there
reach_asked-requires-clause-there c =
    let block = there c.args.blocks.now c.args.at c.requires.at in
    let same = subst (λ o. IfSome o (λ b. b.term ≡ c.args.term.now)) block.1 c.requires.there in
    let e = edge_there c.args.blocks.now c.loop-k.self.a c.args.at c.loop-k.k c.in-Some.to block.0 c.loop-k.invariant.fits block.1 (ap (λ t. slice_get (successors t) c.loop-k.k) same ∙ sym c.in-Some.ensures) in
    subst (λ o. IfSome o (λ edge. edge.to ≡ c.in-Some.to)) (sym e.1) e.2

pub reach_asked-requires-clause-k : goal.reach_asked-requires-clause-k
reach_asked-requires-clause-k c =
    let block = there c.args.blocks.now c.args.at c.requires.at in
    let same = subst (λ o. IfSome o (λ b. b.term ≡ c.args.term.now)) block.1 c.requires.there in
    omega (arith, c.loop-k-test.true, c.successor_count-k-end.ensures, ap (λ t. length (successors t)) same, edges_long c.args.blocks.now c.loop-k.self.a c.args.at block.0 c.loop-k.invariant.fits block.1)

pub unreachable-requires : goal.unreachable-requires
unreachable-requires c =
    let e = there (successors c.args.term.now) c.loop-k.k (subst (λ n. c.loop-k.k < n) c.successor_count-k-end.ensures c.loop-k-test.true) in
    none-some e.0 (c.in-None.ensures ∙ e.1)

pub loop-k-preserved : goal.loop-k-preserved
loop-k-preserved c =
    reaches_next c.args.blocks.now c.args.self.now.a c.loop-k.self.a c.reach_asked.new.self.a c.args.self.now.standing c.loop-k.self.standing c.reach_asked.new.self.standing
    c.args.self.now.queue c.loop-k.self.queue c.reach_asked.new.self.queue c.args.at (successors c.args.term.now) c.args.asked c.loop-k.k c.in-Some.to (sym c.in-Some.ensures)
    c.loop-k.invariant c.in_ok-reach_asked-in-Some.ensures.asked c.in_ok-reach_asked-in-Some.ensures.other
