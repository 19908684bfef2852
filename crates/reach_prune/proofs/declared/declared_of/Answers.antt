use Rattle.std.proofs.Common.{All, sym, subst}
use Rattle.std.proofs.lemmas.List.Elements.{All-push}
use Rattle.reach_prune.specs.Mirrors.Noting.{HasItem}
use Rattle.reach_prune.specs.Mirrors.Shown.{shown}
use Rattle.reach_prune.proofs.Winnowing.{declared_next}
use Rattle.reach_prune.proofs.declared.declared_of.Goals as goal

pub loop-named-preserved : goal.loop-named-preserved
loop-named-preserved c = (
  declared_next c.loop-named.made.items c.push.new.self.items c.args.names.now c.loop-named.named-index c.named-item.result c.in_ok-declared_by.field-0 c.loop-named-test.true c.named-item.is c.loop-named.invariant.0 c.in_ok-declared_by.ensures.named c.in_ok-push.ensures.items,
  subst (All (HasItem (shown c.args.g.now) c.args.home)) (sym c.in_ok-push.ensures.items) (All-push (HasItem (shown c.args.g.now) c.args.home) c.loop-named.made.items c.in_ok-declared_by.field-0 c.loop-named.invariant.1 c.in_ok-declared_by.ensures.item),
)
