use Rattle.ir_grammar.specs.Tokens.{seen}
use Rattle.ir_locals.proofs.Steps.{stops_at_params, stops_at_results}
use Rattle.ir_locals.proofs.table.Locals.of.Goals as goal

pub returns-then-not-branch : goal.returns-then-not-branch
returns-then-not-branch c =
    let failed = rw c.if-not-branch.true at c.in_ok-add_params.ensures in
    record { found = stops_at_params c.new-locals.result c.args.params.now (seen c.args.kept.now) c.new-locals.ensures failed }

pub returns-then-not-branch-2 : goal.returns-then-not-branch-2
returns-then-not-branch-2 c =
    let params = rw c.if-not-branch.false at c.in_ok-add_params.ensures in
    let failed = rw c.if-not-branch-2.true at c.in_ok-add_registers.ensures in
    record { found = stops_at_results c.new-locals.result c.add_params.new.self c.args.params.now (seen c.args.kept.now) c.new-locals.ensures params.0 failed }
