-- the number so far, and then the digits that are left
use Rattle.std.proofs.Common.{◌≡◌, ◌<◌, ◌^◌, drop}
use Rattle.ir_grammar.specs.Numbers.{number_of}
use Rattle.ir_scope.proofs.Numbering.{number_on}
use Rattle.ir_scope.proofs.integers.number_of.Given as goal

abbrev pub invariant-loop-digit : goal.invariant-loop-digit
invariant-loop-digit l = record {
  value : number_on l.number (drop l.digit-index l.digits) ≡ number_of l.digits;
  fits : l.number < 2 ^ 64;
}
