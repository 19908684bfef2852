-- Counting down.
use Rattle.std.proofs.Common.{◌≡◌, ◌∙◌, ℕ, ◌+◌, ◌-◌, ◌<◌, ◌≤◌, ◌^◌, min, nat_le, true, false, List, refl, sym, ap, arith}
use Rattle.std.proofs.lemmas.Bool.Decides.{nat_tests}

-- Too much: a count that is capped beyond what is left.
pub too_much : (n cap s left : ℕ) → left < min n cap → false ≡ nat_le (n + s) left
too_much n cap s left above = grind (arith, nat_tests)

pub less_left : (n cap s left : ℕ) → min n cap ≤ left → left < cap → nat_le s (left - min n cap) ≡ nat_le (n + s) left
less_left n cap s left within small = grind (arith, nat_tests)
