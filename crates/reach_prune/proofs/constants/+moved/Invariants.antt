-- the parts made so far, and then those that are left, moved, are all, moved
use Rattle.std.proofs.Common.{◌≡◌, ◌++◌, map, drop}
use Rattle.winnowed_form.specs.Bodies.{moved}
use Rattle.reach_prune.specs.Mirrors.Places.{place_in}
use Rattle.reach_prune.proofs.constants.+moved.Given as goal

abbrev pub invariant-loop-part : goal.invariant-loop-part
invariant-loop-part l = l.made ++ map (moved (place_in l.places)) (drop l.part-index l.part-items) ≡ map (moved (place_in l.places)) l.part-items
