use Rattle.std.proofs.Common.{arith, subst}
use Rattle.fold_facts.specs.Entering.{Lists}
use Rattle.fold_facts.proofs.Blank.{blank_step, blank_end, blank_flags, blank_rows}
use Rattle.fold_facts.proofs.Indexing.{listed_start, listed_more, blank_indexed}
use Rattle.fold_facts.proofs.assignment.Assignment.blank.Goals as goal

pub loop-place-init : goal.loop-place-init
loop-place-init c =
    listed_start c.args.blocks.now c.args.fact c.new-facts.result c.new-edges.result.items c.new-reached.result c.new-entered.result c.new-facts.ensures c.new-edges.ensures.items c.new-reached.ensures c.new-entered.ensures

pub loop-place-preserved : goal.loop-place-preserved
loop-place-preserved c = (
  blank_step c.args.blocks.now c.args.fact c.loop-place.place c.index-blocks-place.result c.loop-place.facts c.add_facts.new.facts c.loop-place.edges.items c.push.new.self.items c.in_ok-row.row c.loop-place.reached c.push-in-loop-place.new.self
      c.loop-place.invariant.0 c.loop-place-test.true c.index-blocks-place.is c.in_ok-add_facts.ensures c.in_ok-row.ensures c.in_ok-push.ensures.items c.in_ok-push-2.ensures.ok,
  listed_more c.loop-place.entered c.list_all.new.self c.loop-place.edges.items c.push.new.self.items c.in_ok-row.row c.loop-place.place
      (blank_rows c.args.blocks.now c.args.fact c.loop-place.place c.loop-place.facts c.loop-place.edges.items c.loop-place.reached (omega (arith, c.loop-place-test.true)) c.loop-place.invariant.0)
      c.in_ok-push.ensures.items c.loop-place.invariant.1 (subst (λ l. Lists c.loop-place.entered c.list_all.new.self c.loop-place.place l) c.as_slice.ensures c.in_ok-list_all.ensures),
)

pub returns : goal.returns
returns c = blank_end c.args.blocks.now c.args.fact c.loop-place.place c.loop-place.facts c.loop-place.edges.items c.loop-place.reached c.loop-place-test.false c.loop-place.invariant.0

pub invariant_of-result : goal.invariant_of-result
invariant_of-result c =
    let flags = blank_flags c.args.blocks.now c.args.fact c.loop-place.place c.loop-place.facts c.loop-place.edges.items c.loop-place.reached (omega (arith, c.loop-place-test.false, c.loop-place.auto.place-end)) c.loop-place.invariant.0 in (
      flags.0,
      flags.1,
      blank_indexed c.args.blocks.now c.args.fact c.loop-place.facts c.loop-place.edges.items c.loop-place.entered
          (blank_end c.args.blocks.now c.args.fact c.loop-place.place c.loop-place.facts c.loop-place.edges.items c.loop-place.reached c.loop-place-test.false c.loop-place.invariant.0) c.loop-place.invariant.1,
    )
