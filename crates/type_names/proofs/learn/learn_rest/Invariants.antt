use Rattle.std.proofs.Common.{◌≡◌}
use Rattle.type_names.specs.Written.{named}
use Rattle.type_names.specs.Learning.{unknown, AreKnown}
use Rattle.type_names.proofs.learn.learn_rest.Given as goal

abbrev pub invariant-learning : goal.invariant-learning
invariant-learning l = record {
  known : AreKnown (named l.types) l.scope.types;
  symbols : l.scope.symbols ≡ l.fn.scope.symbols;
}

abbrev pub decreases-learning : goal.decreases-learning
decreases-learning l = unknown l.scope.types (named l.types)
