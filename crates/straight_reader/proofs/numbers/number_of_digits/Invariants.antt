use Rattle.std.proofs.Common.{◌≡◌, ◌^◌, ◌≤◌, min, take}
use Rattle.straight_form.specs.Numbers.{number_of_digits}
use Rattle.straight_reader.proofs.numbers.number_of_digits.Given as goal

abbrev pub invariant-loop-digit : goal.invariant-loop-digit
invariant-loop-digit l = record {
  value : l.number ≡ min (number_of_digits (take l.digit-index l.digits)) (2 ^ 32);
  bound : l.number ≤ 2 ^ 32;
}
