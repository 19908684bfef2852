use Rattle.std.proofs.Common.{◌≡◌, ◌+◌, drop, map, option_map}
use Rattle.name_table.specs.Places.{place_among}
use Rattle.ir_syntax.specs.FormedBody.{item_name}
use Rattle.occam_tool.proofs.entering.place_of_entry.Given as goal

abbrev pub invariant-loop-place : goal.invariant-loop-place
invariant-loop-place l = option_map (λ k. l.place + k) (place_among l.entry (map item_name (drop l.place l.items))) ≡ place_among l.entry (map item_name l.items)
