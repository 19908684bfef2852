use Rattle.std.proofs.Common.{◌≡◌, ◌∙◌, ◌+◌, ◌∷◌, ◌++◌, [], drop, length, sym, ap, arith}
use Rattle.fold_facts.proofs.Visits.{facts_long}
use Rattle.interface.proofs.Listed.{push_next, push_whole}
use Rattle.interface.proofs.arguments.facts_of.Goals as goal

pub fact-requires : goal.fact-requires
fact-requires c = omega (arith, c.loop-k-test.true, c.result_counts-k-end.ensures, facts_long c.args.blocks.now c.args.a.now c.requires.of)

pub loop-k-preserved : goal.loop-k-preserved
loop-k-preserved c = push_next c.args.a.now.facts c.loop-k.facts c.push.new.self c.loop-k.k c.fact.result c.loop-k.invariant c.in_ok-push.ensures.ok c.fact.ensures

pub returns : goal.returns
returns c =
    push_whole c.args.a.now.facts c.loop-k.facts c.loop-k.k c.loop-k.invariant (omega (arith, c.loop-k-test.false, c.result_counts-k-end.ensures, facts_long c.args.blocks.now c.args.a.now c.requires.of))
