use Rattle.std.proofs.Common.{◌∙◌, sym, ap}
use Rattle.std.specs.Fmt.{decimal}
use Rattle.ir_grammar.specs.Tokens.{seen}
use Rattle.ir_locals.proofs.Steps.{stops_at_first}
use Rattle.ir_locals.proofs.table.Locals.add_blocks.Goals as goal

pub returns-then-not-branch : goal.returns-then-not-branch
returns-then-not-branch c =
    let failed = rw c.if-not-branch.true at c.in_ok-add.ensures in
    stops_at_first c.args.self.now c.args.params.now (seen c.args.kept.now) c.as_slice.result.now (sym c.begins_labelled.ensures ∙ c.if-begins_labelled.false)
    (c.as_slice.ensures ∙ c.in_ok-name.ensures ∙ ap decimal c.decimals.ensures) failed
