use Rattle.std.proofs.Common.{arith}
use Rattle.ir_syntax.specs.Refusals.{IsArgumentOf}
use Rattle.linker.proofs.Steps.{zip_get, arguments_step, arguments_end}
use Rattle.linker.proofs.shapes.arguments_of.Goals as goal

pub argument_of-requires : goal.argument_of-requires
argument_of-requires c = zip_get IsArgumentOf c.args.params.now c.args.args.now c.loop-i.i _ _ c.loop-i-test.true c.requires.fit

pub loop-i-preserved : goal.loop-i-preserved
loop-i-preserved c = arguments_step c.args.params.now c.args.args.now c.loop-i.i _ _ c.loop-i.known c.push.new.self c.argument_of.result c.loop-i-test.true (omega arith) c.loop-i.invariant c.argument_of.ensures c.in_ok-push.ensures.ok

pub returns : goal.returns
returns c = arguments_end c.args.params.now c.args.args.now c.loop-i.i c.loop-i.known c.loop-i-test.false c.loop-i.invariant
