use Rattle.ir_types.specs.declared.scalar.Scalar.TheVariants.{I1}
use Rattle.ir_types.specs.declared.scalar.Ext.TheVariants.{Plain}
use Rattle.fold_facts.specs.Operands.{known_fact}
use Rattle.fold_facts.specs.OfFunction.{IsFactOf}
use Rattle.fold_rows.proofs.Items.{zip_next, zip_end}
use Rattle.fold_rows.proofs.known.known_of.Goals as goal

pub returns : goal.returns
returns c = zip_end (λ param item. IsFactOf param.ty (known_fact item)) c.args.params.now c.loop-param.known c.loop-param.param-index c.loop-param-test.false c.loop-param.invariant

pub loop-param-preserved : goal.loop-param-preserved
loop-param-preserved c =
    zip_next (λ param item. IsFactOf param.ty (known_fact item)) c.args.params.now c.loop-param.known c.push.new.self c.loop-param.param-index (record { ty = I1; ext = Plain }) c.known_by.result
    c.loop-param.invariant c.loop-param-test.true c.known_by.ensures c.in_ok-push.ensures.ok
