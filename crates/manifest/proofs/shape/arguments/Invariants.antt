-- the arguments so far, and then those of the items that are left, are the arguments of the items
use Rattle.std.proofs.Common.{◌≡◌, ◌++◌, drop, option_map}
use Rattle.serde_json.specs.View.{items_view}
use Rattle.manifest.specs.Reading as reading
use Rattle.manifest.proofs.shape.arguments.Given as goal

abbrev pub invariant-loop-item : goal.invariant-loop-item
invariant-loop-item l = option_map (λ rest. l.found ++ rest) (reading.each_of reading.argument_of (items_view (drop l.item-index l.items))) ≡ reading.each_of reading.argument_of (items_view l.items)
