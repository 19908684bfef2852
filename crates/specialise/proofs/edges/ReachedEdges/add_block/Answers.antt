use Rattle.std.proofs.Common.{arith, sym}
use Rattle.ir_syntax.specs.Edges.{successors}
use Rattle.fold_facts.specs.Assigned.{edges_from}
use Rattle.specialise.proofs.Edging.{added_start, added_next, added_all, counted_less, edges_long, past_end}
use Rattle.specialise.proofs.edges.ReachedEdges.add_block.Goals as goal

pub loop-k-init : goal.loop-k-init
loop-k-init c = added_start c.args.self.now c.new-counts.result c.args.from c.requires.none c.new-counts.ensures

pub add-requires-in-Some : goal.add-requires-in-Some
add-requires-in-Some c =
    omega (
      arith,
      c.loop-k-test.true,
      c.successor_count-k-end.ensures,
      counted_less c.args.self.now c.loop-k.self c.loop-k.counts c.args.from c.loop-k.k c.in-Some.to (edges_from c.args.a.now c.args.from) c.loop-k.invariant
          (omega (arith, c.loop-k-test.true, c.successor_count-k-end.ensures, edges_long (edges_from c.args.a.now c.args.from) (successors c.args.term.now) c.requires.edges)),
    )

pub returns-in-None : goal.returns-in-None
returns-in-None c =
    added_all c.args.self.now c.loop-k.self c.loop-k.counts c.args.from c.loop-k.k (edges_from c.args.a.now c.args.from) c.loop-k.invariant
    (omega (arith, edges_long (edges_from c.args.a.now c.args.from) (successors c.args.term.now) c.requires.edges, past_end (successors c.args.term.now) c.loop-k.k (sym c.in-None.ensures)))

pub loop-k-preserved : goal.loop-k-preserved
loop-k-preserved c =
    added_next c.args.self.now c.loop-k.self c.add.new.self c.loop-k.counts c.add-in-Some.new.self c.args.from c.loop-k.k c.in-Some.to c.of.result (edges_from c.args.a.now c.args.from) (successors c.args.term.now) c.edge.result
    c.loop-k.invariant c.requires.edges (sym c.in-Some.ensures) c.edge.ensures c.of.ensures c.in_ok-add-in-Some.ensures c.in_ok-add-in-Some-2.ensures

pub returns : goal.returns
returns c =
    added_all c.args.self.now c.loop-k.self c.loop-k.counts c.args.from c.loop-k.k (edges_from c.args.a.now c.args.from) c.loop-k.invariant
    (omega (arith, c.loop-k-test.false, c.successor_count-k-end.ensures, edges_long (edges_from c.args.a.now c.args.from) (successors c.args.term.now) c.requires.edges))
