-- the text so far, and then that of the indices that are left, is the text of all
use Rattle.std.proofs.Common.{◌≡◌, ◌++◌, map, drop}
use Rattle.ir_types.specs.declared.scalar.Scalar.{Scalar}
use Rattle.ir_lexer.specs.Written.{bytes_of}
use Rattle.ir_syntax.specs.declared.constant.Operand.{Operand}
use Rattle.ir_syntax.specs.FormedBody.{item_name}
use Rattle.ir_writer.specs.Words.{more}
use Rattle.ir_writer.specs.Instructions.{typed}
use Rattle.ir_writer.proofs.instructions.write_indices.Given as goal

abbrev pub invariant-loop-ty : goal.invariant-loop-ty
invariant-loop-ty l =
    l.out ++ bytes_of (more (map (λ (index : Scalar × Operand). typed (map item_name l.items) index.0 index.1) (drop l.ty-index l.indices)))
    ≡ l.initial.out ++ bytes_of (more (map (λ (index : Scalar × Operand). typed (map item_name l.items) index.0 index.1) l.indices))
