-- the count so far with that of what is left, and no more than were looked at
use Rattle.std.proofs.Common.{◌≡◌, ◌+◌, ◌≤◌, drop}
use Rattle.winnowed_form.specs.Winnowed.{sort_count}
use Rattle.reach_prune.specs.Mirrors.Shown.{shown}
use Rattle.reach_prune.proofs.counts.sort_count.Given as goal

abbrev pub invariant-loop-member : goal.invariant-loop-member
invariant-loop-member l = (l.count + sort_count (shown l.g) l.sort (drop l.member-index l.members) ≡ sort_count (shown l.g) l.sort l.members) × (l.count ≤ l.member-index)
