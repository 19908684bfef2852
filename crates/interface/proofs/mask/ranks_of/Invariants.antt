-- the ranks so far, and then those that are left; no more are chosen than were looked at
use Rattle.std.proofs.Common.{◌≡◌, ◌≤◌, ◌++◌, drop}
use Rattle.interface.specs.Mirrors.Ranks.{ranks_from}
use Rattle.interface.proofs.mask.ranks_of.Given as goal

abbrev pub invariant-loop-flag : goal.invariant-loop-flag
invariant-loop-flag l = (l.ranks ++ ranks_from l.count (drop l.flag-index l.flags) ≡ ranks_from 0 l.flags) × (l.count ≤ l.flag-index)
