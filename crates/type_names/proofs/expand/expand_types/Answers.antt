use Rattle.std.proofs.Common.{◌≡◌, ◌∙◌, [], ap, sym, subst}
use Rattle.ir_scope.specs.Scopes.{Names}
use Rattle.type_names.specs.Written.{named}
use Rattle.type_names.specs.Learning.{Known, AreKnown}
use Rattle.type_names.proofs.Steps.{none_known, known_is}
use Rattle.type_names.proofs.expand.expand_types.Goals as goal

pub learn_in-requires-clause-known : goal.learn_in-requires-clause-known
learn_in-requires-clause-known c =
    let nothing : c.in_ok-scope.scope.types ≡ [] = ap (λ (names : Names). names.types) c.in_ok-scope.ensures.made ∙ c.new.ensures in
    subst (λ (known : Known). AreKnown (named c.args.types.now) known) (sym nothing) (none_known (named c.args.types.now))

pub type_entities-requires-clause-stand : goal.type_entities-requires-clause-stand
type_entities-requires-clause-stand c = known_is (named c.args.types.now) c.learn_rest.new.scope.types c.in_ok-learn_rest.ensures.known c.in_ok-learn_rest.ensures.closed

pub returns-clause-types : goal.returns-clause-types
returns-clause-types c = known_is (named c.args.types.now) c.learn_rest.new.scope.types c.in_ok-learn_rest.ensures.known c.in_ok-learn_rest.ensures.closed
