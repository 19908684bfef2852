-- the names so far, and then those of the members that are left
use Rattle.std.proofs.Common.{◌≡◌, ◌++◌, All, drop, map}
use Rattle.winnowed_form.specs.Names.{name_of}
use Rattle.reach_prune.specs.Mirrors.Places.{HasRow}
use Rattle.reach_prune.specs.Mirrors.Shown.{shown}
use Rattle.reach_prune.proofs.defined.names_of.Given as goal

abbrev pub invariant-loop-member : goal.invariant-loop-member
invariant-loop-member l = (l.names ++ map (name_of (shown l.g)) (drop l.member-index l.members) ≡ map (name_of (shown l.g)) l.members) × All HasRow l.names
