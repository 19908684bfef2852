use Rattle.std.proofs.Common.{sym, ◌∙◌, ap, drop, ◌-◌}
use Rattle.ir_lexer.specs.Tokens.{texts_of}
use Rattle.ir_grammar.specs.Tokens.{seen}
use Rattle.ir_scope.specs.Scopes.{env_of}
use Rattle.ir_body.proofs.One.{spells, spells_none}
use Rattle.ir_body.proofs.reading.read_body.Goals as goal

pub returns-in-Ok-Some-resolve_body-clause-read : goal.returns-in-Ok-Some-resolve_body-clause-read
returns-in-Ok-Some-resolve_body-clause-read c = (
  spells (env_of c.args.scope.now) c.args.names.now (texts_of c.args.bytes.now (drop c.args.from c.args.tokens.now))
      (seen c.in-Ok-Some.found.0.items) (seen c.deref.result.now) (c.in-Ok-Some.found.1 - c.args.from) c.in-Ok-Some-resolve_body.body
      (rw c.in-Ok-Some.field-0-is at c.in-Ok-Some.ensures.derived) (ap seen c.deref.ensures.value) (sym c.in-Ok-Some-resolve_body.field-0-is ∙ c.in-Ok-Some-resolve_body.ensures),
  rw c.in-Ok-Some.field-0-is at c.in-Ok-Some.ensures.after,
)

pub returns-in-Ok-None-resolve_body-clause-refused : goal.returns-in-Ok-None-resolve_body-clause-refused
returns-in-Ok-None-resolve_body-clause-refused c =
    spells_none c.one_derivation.ensures (env_of c.args.scope.now) c.args.names.now (texts_of c.args.bytes.now (drop c.args.from c.args.tokens.now))
    (seen c.in-Ok-Some.found.0.items) (seen c.deref.result.now) (c.in-Ok-Some.found.1 - c.args.from)
    (rw c.in-Ok-Some.field-0-is at c.in-Ok-Some.ensures.derived) (ap seen c.deref.ensures.value) (sym c.in-Ok-None-resolve_body.field-0-is ∙ c.in-Ok-None-resolve_body.ensures)
