-- the names so far have their places
use Rattle.std.proofs.Common.{take}
use Rattle.reach_prune.specs.Mirrors.Places.{ArePlaced}
use Rattle.reach_prune.proofs.modules.places_of_names.Given as goal

abbrev pub invariant-loop-place : goal.invariant-loop-place
invariant-loop-place l = ArePlaced (take l.place l.names) l.places
