-- the flags so far, and then those of the blocks that are left
use Rattle.std.proofs.Common.{◌≡◌, ◌++◌, drop, map}
use Rattle.std.specs.List.{enumerate_from}
use Rattle.fold_facts.specs.Assigned.{is_reached}
use Rattle.interface.specs.Summaries.{reached}
use Rattle.specialise.proofs.masks.reached_of.Given as goal

abbrev pub invariant-loop-place : goal.invariant-loop-place
invariant-loop-place l = l.flags ++ map (λ entry. is_reached l.a entry.0) (enumerate_from l.place (drop l.place l.blocks)) ≡ reached l.a l.blocks
