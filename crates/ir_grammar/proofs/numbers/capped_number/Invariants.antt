use Rattle.std.proofs.Common.{◌≡◌, ◌^◌, ◌≤◌, min, take}
use Rattle.ir_grammar.specs.Numbers.{number_of}
use Rattle.ir_grammar.proofs.numbers.capped_number.Given as goal

abbrev pub invariant-loop-digit : goal.invariant-loop-digit
invariant-loop-digit l = record {
  value : l.number ≡ min (number_of (take l.digit-index l.digits)) (2 ^ 64);
  bound : l.number ≤ 2 ^ 64;
}
