use Rattle.std.proofs.Common.{◌≡◌, ◌∙◌, take, ap, sym, subst}
use Rattle.std.specs.List.{list_any}
use Rattle.std.proofs.lemmas.List.{take_all}
use Rattle.ir_types.proofs.ListSteps.{take_at}
use Rattle.reach_prune.specs.Mirrors.Places.{is_name}
use Rattle.reach_prune.proofs.Noting.{seen_one}
use Rattle.reach_prune.proofs.notes.seen_of.Goals as goal

pub loop-named-preserved : goal.loop-named-preserved
loop-named-preserved c = λ other.
    seen_one c.loop-named.seen c.put.new.self c.named-item.result 0 (take c.loop-named.named-index c.args.names.now) c.in_ok-put.ensures c.loop-named.invariant other
    ∙ ap (list_any (is_name other)) (sym (take_at c.args.names.now c.loop-named.named-index c.named-item.result c.loop-named-test.true c.named-item.is))

pub returns : goal.returns
returns c = λ other. c.loop-named.invariant other ∙ ap (list_any (is_name other)) (take_all c.loop-named.named-index c.args.names.now c.loop-named-test.false)
