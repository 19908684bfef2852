use Rattle.std.proofs.Common.{List, ◌+◌, ◌-◌, take, drop, get_or, add-one, drop-cons}
use Rattle.fold_facts.specs.declared.fact.Fact.{Fact}
use Rattle.fold_facts.specs.declared.fact.Fact.TheVariants.{Unreached}
use Rattle.specialise.proofs.Masking.{flag_next}
use Rattle.specialise.proofs.masks.add_flags.Goals as goal

pub loop-fact-preserved : goal.loop-fact-preserved
loop-fact-preserved c =
    let items : List Fact = take ((c.len-first.result + c.args.count) - c.len-first.result) (drop c.len-first.result c.args.facts.now) in
    flag_next c.args.is_reached (drop c.loop-fact.fact-index items) (drop (c.loop-fact.fact-index + 1) items) (get_or items c.loop-fact.fact-index Unreached) c.loop-fact.flags c.push.new.self _ c.stays.result
    (rw add-one (drop-cons items c.loop-fact.fact-index Unreached c.loop-fact-test.true)) c.loop-fact.invariant c.in_ok-push.ensures.ok c.stays.ensures
