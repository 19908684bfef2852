use Rattle.std.proofs.Common.{IsTrue}
use Rattle.ir_types.specs.declared.scalar.Scalar.TheVariants.{I1}
use Rattle.ir_types.specs.declared.scalar.Ext.TheVariants.{Plain}
use Rattle.ir_types.specs.Scalars.{is_number_of}
use Rattle.step_rows.proofs.Items.{zip_next}
use Rattle.step_rows.proofs.arguments.arguments_of.Goals as goal

pub loop-param-preserved : goal.loop-param-preserved
loop-param-preserved c =
    zip_next (λ param n. IsTrue (is_number_of param.ty n)) c.args.params.now c.loop-param.args.items c.push.new.self.items c.loop-param.param-index (record { ty = I1; ext = Plain }) c.in-Some.number
    c.loop-param.invariant c.loop-param-test.true c.in-Some.ensures c.in_ok-push-in-Some.ensures.items
