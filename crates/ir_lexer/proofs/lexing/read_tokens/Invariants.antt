use Rattle.std.proofs.Common.{◌≡◌, ◌-◌, true, false, length, drop}
use Rattle.ir_lexer.specs.Mirrors.Front.{is_labelled}
use Rattle.ir_lexer.proofs.Tilings.{LexedTo}
use Rattle.ir_lexer.proofs.lexing.read_tokens.Given as goal

abbrev pub invariant-loop-at : goal.invariant-loop-at
invariant-loop-at l = record {
  lexed : LexedTo l.bytes l.tokens l.at;
  plain : l.inside ≡ true → is_labelled (drop l.at l.bytes) ≡ false;
}

abbrev pub decreases-loop-at : goal.decreases-loop-at
decreases-loop-at l = length l.bytes - l.at
