-- all are the same if those that are left are
use Rattle.std.proofs.Common.{◌≡◌, drop}
use Rattle.ir_steps.specs.Calls.{same_types}
use Rattle.session_runs.proofs.deed.same_types.Given as goal

abbrev pub invariant-loop-place : goal.invariant-loop-place
invariant-loop-place l = same_types (drop l.place l.types) (drop l.place l.others) ≡ same_types l.types l.others
