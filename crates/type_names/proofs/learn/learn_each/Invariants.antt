use Rattle.std.proofs.Common.{◌≡◌}
use Rattle.type_names.specs.Written.{named}
use Rattle.type_names.specs.Learning.{IsPassed}
use Rattle.type_names.proofs.learn.learn_each.Given as goal

abbrev pub invariant-loop-place : goal.invariant-loop-place
invariant-loop-place l = record {
  passed : IsPassed (named l.types) l.fn.scope.types l.scope.types l.place l.added;
  symbols : l.scope.symbols ≡ l.fn.scope.symbols;
}
