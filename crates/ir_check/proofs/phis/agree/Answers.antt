use Rattle.std.proofs.lemmas.Bool.{false≢true}
use Rattle.ir_check.proofs.Agreeing.{agree_all, agree_not}
use Rattle.ir_check.proofs.phis.agree.Goals as goal

pub returns-then-not-same_operand : goal.returns-then-not-same_operand
returns-then-not-same_operand c = agree_not c.args.entries.now c.loop-i.i c.in-Some.first c.index-entries-i.result c.index-entries-first.result c.loop-i-test.true c.index-entries-i.is c.in-Some.ensures.1 c.in-Some.ensures.2 (λ same. false≢true (c.if-not-same_operand.ensures.1 same))

pub returns : goal.returns
returns c = agree_all c.loop-i.firsts c.args.entries.now c.loop-i.i c.loop-i-test.false c.loop-i.invariant
