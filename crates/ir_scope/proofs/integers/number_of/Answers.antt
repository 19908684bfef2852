use Rattle.std.proofs.Common.{arith}
use Rattle.ir_scope.proofs.Numbering.{some_below, digits_more, digits_large, digits_end}
use Rattle.ir_scope.proofs.integers.number_of.Goals as goal

pub returns-in-None : goal.returns-in-None
returns-in-None c = digits_large c.loop-digit.number c.args.digits.now c.loop-digit.digit-index c.loop-digit-test.true c.in-None.ensures c.loop-digit.invariant.value

pub loop-digit-preserved : goal.loop-digit-preserved
loop-digit-preserved c = record {
  value = digits_more c.loop-digit.number c.args.digits.now c.loop-digit.digit-index c.in-Some.more c.loop-digit-test.true c.in-Some.ensures c.loop-digit.invariant.value;
  fits = let b = some_below _ c.in-Some.more c.in-Some.ensures in omega arith;
}

pub returns : goal.returns
returns c = digits_end c.loop-digit.number c.args.digits.now c.loop-digit.digit-index c.loop-digit-test.false c.loop-digit.invariant.fits c.loop-digit.invariant.value
