use Rattle.std.proofs.Common.{◌≡◌, ◌∙◌, ◌+◌, ◌++◌, ◌∷◌, [], true, map, drop, ap, sym}
use Rattle.std.proofs.lemmas.List.{append_assoc}
use Rattle.ir_syntax.specs.declared.item.Param.{Param}
use Rattle.reach_prune.proofs.Choosing.{flag_more}
use Rattle.reach_prune.proofs.copies.all_flags.Goals as goal

pub loop-param-preserved : goal.loop-param-preserved
loop-param-preserved c = flag_more c.as_slice-param-items.result.now c.loop-param.flags c.push.new.self c.loop-param._param-index c.loop-param-test.true c.loop-param.invariant c.in_ok-push.ensures.ok
