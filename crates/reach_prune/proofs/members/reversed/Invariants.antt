-- the members of what is left, and then those so far from the last on
use Rattle.std.proofs.Common.{◌≡◌, ◌++◌, length, reverse}
use Rattle.std.specs.List.{filter_map}
use Rattle.winnowed_form.specs.Members.{member_of}
use Rattle.reach_prune.proofs.members.reversed.Given as goal

abbrev pub invariant-loop-pair : goal.invariant-loop-pair
invariant-loop-pair l = filter_map (member_of l.p) l.pieces ++ reverse l.members.items ≡ filter_map (member_of l.p) l.initial.pieces

abbrev pub decreases-loop-pair : goal.decreases-loop-pair
decreases-loop-pair l = length l.pieces
