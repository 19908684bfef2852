-- the names so far are new
use Rattle.std.proofs.Common.{take}
use Rattle.winnowed_form.specs.Clashes.{copy_names}
use Rattle.reach_prune.specs.Mirrors.Shown.{shown}
use Rattle.reach_prune.specs.Mirrors.Taken.{AreNew}
use Rattle.reach_prune.proofs.clashes.check_members.Given as goal

abbrev pub invariant-loop-member : goal.invariant-loop-member
invariant-loop-member l = AreNew l.taken (copy_names (shown l.g) (take l.member-index l.members))
