use Rattle.std.proofs.Common.{◌≡◌, ◌++◌, ◌∷◌, drop, flat_map}
use Rattle.demands.specs.Names.{item_text}
use Rattle.demands.proofs.names.write_more.Given as goal

abbrev pub invariant-loop-item : goal.invariant-loop-item
invariant-loop-item l = l.out ++ flat_map (λ item. 44 ∷ item_text item) (drop l.item-index l.items) ≡ l.fn.out ++ flat_map (λ item. 44 ∷ item_text item) l.items
