use Rattle.std.proofs.Common.{◌∙◌, Some, None, ap, sym, option_map}
use Rattle.ir_grammar.specs.Tokens.{seen}
use Rattle.ir_scope.specs.Scopes.{env_of}
use Rattle.ir_body.specs.Bodies.{body_at}
use Rattle.ir_parser.specs.Items.{is_plain, with_body}
use Rattle.ir_parser.specs.Mirrors.Steps.{head_of}
use Rattle.ir_parser.proofs.Heading.{defined_by}
use Rattle.ir_parser.proofs.heads.defined.Goals as goal

pub returns-in-Some : goal.returns-in-Some
returns-in-Some c =
    ap Some c.with_body.ensures
    ∙ ap (option_map (with_body c.args.head.func)) (sym c.in-Some.is)
    ∙ defined_by (env_of c.args.scope.now) (head_of c.args.head) c.as_slice.result.now c.in_ok-body.field-0 c.as_slice.ensures (sym c.is_plain.ensures ∙ c.if-not-is_plain.false)
    (c.in_ok-body.ensures ∙ ap (λ ns. body_at (env_of c.args.scope.now) ns (seen c.args.head.rest.now)) c.as_slice-2.ensures)

pub returns-in-None : goal.returns-in-None
returns-in-None c =
    ap (option_map (with_body c.args.head.func)) (sym c.in-None.is)
    ∙ defined_by (env_of c.args.scope.now) (head_of c.args.head) c.as_slice.result.now c.in_ok-body.field-0 c.as_slice.ensures (sym c.is_plain.ensures ∙ c.if-not-is_plain.false)
    (c.in_ok-body.ensures ∙ ap (λ ns. body_at (env_of c.args.scope.now) ns (seen c.args.head.rest.now)) c.as_slice-2.ensures)
