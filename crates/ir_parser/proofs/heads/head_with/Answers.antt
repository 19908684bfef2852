use Rattle.std.proofs.Common.{◌∙◌, ap, sym, map}
use Rattle.ir_syntax.specs.declared.item.Param.{Param}
use Rattle.ir_grammar.specs.Tokens.{seen}
use Rattle.ir_parser.specs.Items.{are_params, names_from, head_with}
use Rattle.ir_parser.proofs.Heading.{no_head, head_found}
use Rattle.ir_parser.proofs.heads.head_with.Goals as goal

pub returns-then-not-branch : goal.returns-then-not-branch
returns-then-not-branch c =
    no_head c.args.name c.args.linkage c.args.returns c.args.ret_ext (seen c.args.kept.now) c.in-Some.found.0.0 c.in-Some.found.0.1 c.in-Some.found.1 c.in_ok-names.names
    (sym c.in_ok-found.ensures.exact ∙ c.in-Some.is)
    (c.in_ok-names.ensures ∙ ap (λ ps. names_from 0 (map (λ p. p.1) ps)) c.as_slice.ensures)
    (ap are_params (sym c.as_slice-2.ensures) ∙ sym c.in_ok-are_params.ensures ∙ c.if-not-branch.true)

pub returns : goal.returns
returns c =
    head_found _ c.args.linkage c.args.returns c.args.ret_ext (seen c.args.kept.now) c.in-Some.found.0.0 c.in-Some.found.0.1 c.in-Some.found.1 c.in_ok-names.names c.in_ok-types.field-0 (seen c.after.result.now)
    (sym c.in_ok-found.ensures.exact ∙ c.in-Some.is)
    (c.in_ok-names.ensures ∙ ap (λ ps. names_from 0 (map (λ p. p.1) ps)) c.as_slice.ensures)
    (ap are_params (sym c.as_slice-2.ensures) ∙ sym c.in_ok-are_params.ensures ∙ c.if-not-branch.false)
    (c.in_ok-types.ensures ∙ ap (map (λ p. p.0)) c.as_slice-3.ensures)
    c.after.ensures.rest
    ∙ ap (λ n. head_with n c.args.linkage c.args.returns c.args.ret_ext (seen c.args.kept.now)) c.name.view_is
