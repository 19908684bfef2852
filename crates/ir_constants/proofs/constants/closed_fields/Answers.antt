use Rattle.std.proofs.Common.{◌≡◌, ◌∙◌, true, false, drop, refl, sym}
use Rattle.std.proofs.lemmas.List.{take_rest}
use Rattle.ir_grammar.specs.Tokens.{seen}
use Rattle.ir_scope.specs.Runs.{begins_with}
use Rattle.ir_scope.specs.Types.{is_close_brace}
use Rattle.ir_constants.proofs.Parts.{begins_there}
use Rattle.ir_constants.proofs.constants.closed_fields.Goals as goal

pub returns-then-ends_fields-clause-exact : goal.returns-then-ends_fields-clause-exact
returns-then-ends_fields-clause-exact c =
    let e = begins_there is_close_brace c.args.kept.now _ c.args.taken true (take_rest c.args.kept.now c.args.taken) (sym c.ends_fields.ensures ∙ c.if-ends_fields.true) in
    rw e refl

pub returns-else-ends_fields-clause-exact : goal.returns-else-ends_fields-clause-exact
returns-else-ends_fields-clause-exact c =
    let e = begins_there is_close_brace c.args.kept.now _ c.args.taken false (take_rest c.args.kept.now c.args.taken) (sym c.ends_fields.ensures ∙ c.if-ends_fields.false) in
    rw e refl
