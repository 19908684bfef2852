-- among the names are those before, and those of the items so far
use Rattle.std.proofs.Common.{◌≡◌, ℕ, List, map, take}
use Rattle.std.specs.Prelude.{◌||◌}
use Rattle.ir_syntax.specs.FormedBody.{item_name}
use Rattle.name_table.specs.Places.{is_among}
use Rattle.reach_prune.proofs.clashes.add_items.Given as goal

abbrev pub invariant-loop-item : goal.invariant-loop-item
invariant-loop-item l = (name : List ℕ) → is_among name l.names ≡ (is_among name l.fn.names || is_among name (map item_name (take l.item-index l.items)))
