use Rattle.std.proofs.Common.{refl, arith}
use Rattle.std.proofs.lemmas.Bool.{false≢true}
use Rattle.ir_syntax.specs.Refusals.{IsArgumentOf}
use Rattle.linker.proofs.Steps.{zip_long, zip_get, zip_both}
use Rattle.linker.proofs.shapes.are_arguments_of.Goals as goal

pub returns-then-params-args : goal.returns-then-params-args
returns-then-params-args c = (λ e. absurd (false≢true e), λ h. absurd (c.if-params-args.true (zip_long IsArgumentOf c.args.params.now c.args.args.now h)))

pub returns-then-not-is_argument_of : goal.returns-then-not-is_argument_of
returns-then-not-is_argument_of c = (λ e. absurd (false≢true e), λ h. absurd (false≢true (c.if-not-is_argument_of.ensures.1 (zip_get IsArgumentOf c.args.params.now c.args.args.now c.loop-i.i _ _ c.loop-i-test.true h))))

pub loop-i-preserved : goal.loop-i-preserved
loop-i-preserved c = zip_both IsArgumentOf c.args.params.now c.args.args.now c.loop-i.i _ _ c.loop-i-test.true (omega arith) c.loop-i.invariant (c.if-not-is_argument_of.ensures.0 refl)
