use Rattle.std.proofs.Common.{map, subst}
use Rattle.std.specs.Prelude.{IsPermutation}
use Rattle.std.proofs.lemmas.List.Sorted.{IsPermutation-map, All-permutation}
use Rattle.reach_prune.specs.declared.declared.Declared.{Declared}
use Rattle.reach_prune.specs.Mirrors.Noting.{HasItem}
use Rattle.reach_prune.specs.Mirrors.Shown.{shown}
use Rattle.reach_prune.proofs.declared.declared_in_order.Goals as goal

pub returns-clause-named : goal.returns-clause-named
returns-clause-named c =
    subst (λ l. IsPermutation l (map (λ (d : Declared). d.named) c.sort_unstable.new.self.items)) c.in_ok-made.ensures.named
    (IsPermutation-map (λ (d : Declared). d.named) c.in_ok-made.made.items c.sort_unstable.new.self.items c.sort_unstable.ensures.permutation)

pub returns-clause-items : goal.returns-clause-items
returns-clause-items c = All-permutation (HasItem (shown c.args.g.now) c.args.home) c.in_ok-made.made.items c.sort_unstable.new.self.items c.sort_unstable.ensures.permutation c.in_ok-made.ensures.items
