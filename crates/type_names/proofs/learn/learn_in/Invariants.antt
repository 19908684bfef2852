use Rattle.std.proofs.Common.{◌≡◌}
use Rattle.type_names.specs.Written.{named}
use Rattle.type_names.specs.Learning.{AreKnown}
use Rattle.type_names.proofs.learn.learn_in.Given as goal

abbrev pub invariant-loop-place : goal.invariant-loop-place
invariant-loop-place l = record {
  known : AreKnown (named l.types) l.scope.types;
  symbols : l.scope.symbols ≡ l.fn.scope.symbols;
}
