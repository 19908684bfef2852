use Rattle.std.proofs.Common.{sym}
use Rattle.ir_syntax.specs.Edges.{successors}
use Rattle.fold_facts.specs.Raising.{blank_edges}
use Rattle.fold_facts.proofs.Blank.{edges_next}
use Rattle.fold_facts.proofs.assignment.edges_of.Goals as goal

pub loop-k-preserved : goal.loop-k-preserved
loop-k-preserved c =
    edges_next (successors c.args.block.now.term) c.loop-k.k c.in-Some.to c.loop-k.edges c.push.new.self (blank_edges c.args.block.now) (sym c.in-Some.ensures) c.in_ok-push-in-Some.ensures.ok c.loop-k.invariant
