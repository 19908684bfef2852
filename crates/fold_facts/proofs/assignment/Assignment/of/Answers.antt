use Rattle.std.proofs.Common.{◌∙◌, ap}
use Rattle.fold_facts.specs.Places.{blocks_of}
use Rattle.fold_facts.proofs.Giving.{edges_stay}
use Rattle.fold_facts.proofs.assignment.Assignment.of.Goals as goal

pub put_all-requires-clause-start : goal.put_all-requires-clause-start
put_all-requires-clause-start c = c.reach_all.ensures.facts ∙ ap (λ a. a.facts) c.in_ok-a.ensures

pub returns-clause-edges : goal.returns-clause-edges
returns-clause-edges c =
    edges_stay (blocks_of c.args.f.now) c.blocks_of-blocks.result.now c.reach_all.new.a c.put_all.new.a c.args.edges.now c.blocks_of-blocks.ensures c.put_all.ensures.edges c.reach_all.ensures.edges
