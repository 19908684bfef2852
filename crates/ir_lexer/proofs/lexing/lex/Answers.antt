use Rattle.ir_lexer.proofs.Tilings.{answers_tokens, answers_bad, answers_each, answers_in_order}
use Rattle.ir_lexer.proofs.lexing.lex.Goals as goal

pub returns-clause-tokens : goal.returns-clause-tokens
returns-clause-tokens c = answers_tokens c.args.bytes.now _ c.read_tokens.ensures.ok c.read_tokens.ensures.err

pub returns-clause-bad_byte : goal.returns-clause-bad_byte
returns-clause-bad_byte c = answers_bad c.args.bytes.now _ c.read_tokens.ensures.ok c.read_tokens.ensures.err

pub returns-clause-each : goal.returns-clause-each
returns-clause-each c = answers_each c.args.bytes.now _ c.read_tokens.ensures.ok

pub returns-clause-in_order : goal.returns-clause-in_order
returns-clause-in_order c = answers_in_order c.args.bytes.now _ c.read_tokens.ensures.ok
