-- All operands of a body.
use Rattle.std.specs.Prelude.{List, ◌++◌, flat_map}
use Rattle.ir_syntax.specs.declared.constant.Operand.{Operand}
use Rattle.ir_syntax.specs.declared.body.Block.{Block}
use Rattle.ir_syntax.specs.declared.body.Body.{Body}
use Rattle.ir_syntax.specs.Operands.{operands, term_operands, phi_operands}

-- the operands of a block, in the order of the text
abbrev pub block_operands : Block → List Operand
block_operands block = flat_map phi_operands block.phis ++ flat_map operands block.insts ++ term_operands block.term

-- and of a body
abbrev pub body_operands : Body → List Operand
body_operands body = flat_map block_operands body.blocks
