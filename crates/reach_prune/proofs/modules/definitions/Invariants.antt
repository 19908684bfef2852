-- the items so far, and then those of the members that are left
use Rattle.std.proofs.Common.{◌≡◌, ◌++◌, drop}
use Rattle.std.specs.Prelude.{flat_map}
use Rattle.winnowed_form.specs.Items.{definition}
use Rattle.reach_prune.specs.Mirrors.Places.{place_in}
use Rattle.reach_prune.specs.Mirrors.Shown.{shown}
use Rattle.reach_prune.proofs.modules.definitions.Given as goal

abbrev pub invariant-loop-member : goal.invariant-loop-member
invariant-loop-member l = l.items ++ flat_map (definition (shown l.g) l.home (place_in l.places)) (drop l.member-index l.members) ≡ flat_map (definition (shown l.g) l.home (place_in l.places)) l.members
