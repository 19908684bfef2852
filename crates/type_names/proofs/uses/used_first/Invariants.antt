-- Each place is entered once, and each other step takes one from those that are left.
use Rattle.std.proofs.Common.{◌≡◌, ◌+◌, ◌*◌, ◌^◌, length, vec_len, not, count_by}
use Rattle.type_names.proofs.uses.used_first.Given as goal

abbrev pub invariant-walking : goal.invariant-walking
invariant-walking l = vec_len l.entered ≡ length l.types

abbrev pub decreases-walking : goal.decreases-walking
decreases-walking l = count_by not l.entered.items * 2 ^ 64 + vec_len l.steps
