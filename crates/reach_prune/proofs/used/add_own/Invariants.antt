-- the names so far, and then those that are left, are those before, and then all
use Rattle.std.proofs.Common.{◌≡◌, ◌++◌, drop, map}
use Rattle.winnowed_form.specs.declared.named.Named.TheVariants as written
use Rattle.reach_prune.proofs.used.add_own.Given as goal

abbrev pub invariant-loop-place : goal.invariant-loop-place
invariant-loop-place l = l.names ++ map written.Own (drop l.place-index l.places) ≡ l.fn.names ++ map written.Own l.places
