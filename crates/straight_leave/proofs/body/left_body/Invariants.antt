use Rattle.std.proofs.Common.{◌≡◌, ◌++◌, drop, map}
use Rattle.straight_leave.specs.Places.{place_in}
use Rattle.straight_leave.specs.Rewritten.{new_block}
use Rattle.straight_leave.proofs.body.left_body.Given as goal

abbrev pub invariant-loop-block : goal.invariant-loop-block
invariant-loop-block l =
    l.blocks ++ map (new_block l.items (place_in l.rows.keys) l.whole l.cut) (drop l.block-index l.block-items) ≡ map (new_block l.items (place_in l.rows.keys) l.whole l.cut) l.block-items
