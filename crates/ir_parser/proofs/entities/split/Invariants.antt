-- the entities so far, and what is left
use Rattle.std.proofs.Common.{◌-◌, ◌≤◌, drop, length}
use Rattle.ir_lexer.specs.Tokens.{texts_of}
use Rattle.ir_parser.specs.Mirrors.Steps.{AreEntities}
use Rattle.ir_parser.proofs.entities.split.Given as goal

abbrev pub invariant-splitting : goal.invariant-splitting
invariant-splitting l = record {
  read : AreEntities (texts_of l.bytes l.tokens) l.entities (drop l.from (texts_of l.bytes l.tokens));
  within : l.from ≤ length l.tokens;
}

abbrev pub decreases-splitting : goal.decreases-splitting
decreases-splitting l = length l.tokens - l.from
