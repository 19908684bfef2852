use Rattle.std.proofs.Common.{[], ◌∷◌, map}
use Rattle.ir_types.specs.declared.scalar.Scalar.{Scalar}
use Rattle.ir_syntax.specs.declared.constant.Operand.{Operand}
use Rattle.ir_syntax.specs.FormedBody.{item_name}
use Rattle.ir_writer.specs.Words.{space, comma}
use Rattle.ir_writer.specs.Instructions.{typed}
use Rattle.ir_writer.proofs.LineTexts.{also, more_step}
use Rattle.ir_writer.proofs.instructions.write_indices.Goals as goal

pub loop-ty-preserved : goal.loop-ty-preserved
loop-ty-preserved c =
    more_step (λ (index : Scalar × Operand). typed (map item_name c.args.items.now) index.0 index.1) c.args.indices.now c.loop-ty.ty-index c.loop-ty-item.result _ _ _ c.loop-ty-test.true c.loop-ty-item.is
    (also (comma ∷ space ∷ []) (typed (map item_name c.args.items.now) c.loop-ty-item.result.0 c.loop-ty-item.result.1) _ _ _ c.in_ok-append.ensures.ok c.in_ok-write_typed.ensures) c.loop-ty.invariant
