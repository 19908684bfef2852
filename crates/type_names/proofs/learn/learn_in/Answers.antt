use Rattle.std.proofs.Common.{◌∙◌}
use Rattle.type_names.specs.Written.{named}
use Rattle.type_names.proofs.Passing.{tried_known}
use Rattle.type_names.proofs.learn.learn_in.Goals as goal

pub loop-place-preserved : goal.loop-place-preserved
loop-place-preserved c = record {
  known = rw c.in_ok-learn_at.ensures.types (tried_known (named c.args.types.now) c.loop-place.scope.types _ c.loop-place.invariant.known);
  symbols = c.in_ok-learn_at.ensures.symbols ∙ c.loop-place.invariant.symbols;
}
