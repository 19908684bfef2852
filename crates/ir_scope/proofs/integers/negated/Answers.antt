use Rattle.ir_scope.proofs.Numbering.{zero_negated, more_negated}
use Rattle.ir_scope.proofs.integers.negated.Goals as goal

pub returns-then-number-eq0-clause-value : goal.returns-then-number-eq0-clause-value
returns-then-number-eq0-clause-value c = zero_negated c.args.half c.args.number c.requires.some c.if-number-eq0.true

pub returns-else-number-eq0-clause-value : goal.returns-else-number-eq0-clause-value
returns-else-number-eq0-clause-value c = more_negated c.args.half c.args.number c.if-number-eq0.false c.if-number-half.false
