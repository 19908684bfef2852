use Rattle.std.proofs.Common.{get_or}
use Rattle.std.proofs.lemmas.Option.{slice_get-get_or}
use Rattle.fold_facts.specs.declared.fact.Fact.TheVariants.{Unreached}
use Rattle.fold_facts.proofs.Giving.{facts_begin, facts_step, facts_end, fact_less}
use Rattle.fold_facts.proofs.given.put_all.Goals as goal

pub loop-k-init : goal.loop-k-init
loop-k-init c = facts_begin c.args.blocks.now c.args.a.now c.args.facts.now c.requires.start c.requires.fits

pub put-requires : goal.put-requires
put-requires c =
    fact_less c.args.blocks.now c.args.a.now c.loop-k.a c.args.facts.now c.loop-k.k-index (get_or c.args.facts.now c.loop-k.k-index (0, Unreached)).0 (get_or c.args.facts.now c.loop-k.k-index (0, Unreached)).1
    c.loop-k.invariant (slice_get-get_or c.args.facts.now c.loop-k.k-index (0, Unreached) c.loop-k-test.true) c.requires.facts

pub loop-k-preserved : goal.loop-k-preserved
loop-k-preserved c =
    facts_step c.args.blocks.now c.args.a.now c.loop-k.a c.put.new.self c.args.facts.now c.loop-k.k-index (get_or c.args.facts.now c.loop-k.k-index (0, Unreached)).0 (get_or c.args.facts.now c.loop-k.k-index (0, Unreached)).1
    c.loop-k.invariant (slice_get-get_or c.args.facts.now c.loop-k.k-index (0, Unreached) c.loop-k-test.true) c.requires.facts c.requires.distinct c.put.ensures

pub returns-clause-facts : goal.returns-clause-facts
returns-clause-facts c = facts_end c.args.blocks.now c.args.a.now c.loop-k.a c.args.facts.now c.loop-k.k-index c.loop-k-test.false c.loop-k.invariant
