use Rattle.std.proofs.Common.{sym, ◌∙◌}
use Rattle.ir_check.specs.Scopes.{types_of}
use Rattle.ir_check.proofs.Entered.{entered, not_entered, empty_list, empty_test, on_ok}
use Rattle.ir_check.proofs.bodies.is_typed_body.Goals as goal

pub returns-then-not-is_empty : goal.returns-then-not-is_empty
returns-then-not-is_empty c =
    entered (types_of c.args.scope.now) c.args.returns c.args.blocks.now c.in_ok-incoming.incoming c.in_ok-incoming.ensures
    (λ none. empty_test c.of.result.now (c.of.ensures ∙ none) (sym c.is_empty.ensures ∙ c.if-not-is_empty.true))

pub returns : goal.returns
returns c =
    on_ok c.are_typed_blocks.result
    (λ r. not_entered (types_of c.args.scope.now) c.args.returns c.args.blocks.now c.in_ok-incoming.incoming r c.in_ok-incoming.ensures (sym c.of.ensures ∙ empty_list c.of.result.now (sym c.is_empty.ensures ∙ c.if-not-is_empty.false)))
    c.are_typed_blocks.ensures
