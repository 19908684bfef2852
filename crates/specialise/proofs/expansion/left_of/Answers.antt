use Rattle.specialise.specs.Mirrors.Edges.{has_edge}
use Rattle.specialise.proofs.Shown.{leaving_is}
use Rattle.specialise.proofs.expansion.left_of.Goals as goal

pub returns : goal.returns
returns c =
    leaving_is c.args.known.now c.args.blocks.now c.args.a.now c.in_ok-facts.facts c.in_ok-reached.reached c.in_ok-kept.kept (has_edge c.in_ok-edges.edges) c.in_ok-facts.ensures c.in_ok-reached.ensures c.in_ok-kept.ensures c.in_ok-edges.ensures
