use Rattle.std.proofs.Common.{◌≢◌, refl}
use Rattle.ir_types.specs.declared.scalar.Scalar.TheVariants.{Ptr}
use Rattle.ir_syntax.specs.declared.item.Param.{Param}
use Rattle.std.proofs.lemmas.List.Elements.{All-more}
use Rattle.linker.proofs.Steps.{ends}
use Rattle.linker.proofs.shapes.are_plain.Goals as goal

pub loop-param-preserved : goal.loop-param-preserved
loop-param-preserved c = All-more (λ (param : Param). param.ty ≢ Ptr) c.args.params.now c.loop-param.param-index _ c.loop-param-test.true c.loop-param.invariant (c.if-not-is_integer.ensures.0 refl)

pub returns : goal.returns
returns c = ends (λ (param : Param). param.ty ≢ Ptr) c.args.params.now c.loop-param.param-index c.loop-param-test.false c.loop-param.invariant
