-- the texts so far, and then those of the items that are left, are the texts of the items
use Rattle.std.proofs.Common.{◌≡◌, ◌++◌, drop, option_map}
use Rattle.serde_json.specs.Find.{as_str}
use Rattle.serde_json.specs.View.{items_view}
use Rattle.manifest.specs.Reading as reading
use Rattle.manifest.proofs.shape.texts.Given as goal

abbrev pub invariant-loop-item : goal.invariant-loop-item
invariant-loop-item l = option_map (λ rest. l.found ++ rest) (reading.each_of as_str (items_view (drop l.item-index l.items))) ≡ reading.each_of as_str (items_view l.items)
