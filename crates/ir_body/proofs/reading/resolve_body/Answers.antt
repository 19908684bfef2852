use Rattle.std.proofs.Common.{sym, ◌∙◌}
use Rattle.ir_grammar.specs.Tokens.{seen}
use Rattle.ir_scope.specs.Scopes.{env_of}
use Rattle.ir_body.proofs.One.{resolved}
use Rattle.ir_operands.specs.Mirrors.Naming.{naming}
use Rattle.ir_body.proofs.reading.resolve_body.Goals as goal

pub returns-in-Some : goal.returns-in-Some
unfolding naming
returns-in-Some c =
    resolved (env_of c.args.scope.now) c.args.params.now (seen c.args.kept.now) (seen c.behind_brace-lines.result.now) c.in-Some.locals c.lined_body.result
    c.behind_brace-lines.ensures (sym c.in-Some.is ∙ c.in_ok-locals.ensures.found) c.lined_body.ensures
