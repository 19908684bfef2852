-- Blocks as they are built line by line.
use Rattle.std.specs.Prelude.{ℕ, List, ◌++◌, [], Option, option_map, option_and_then}
use Rattle.ir_syntax.specs.declared.body.Block.{Block}
use Rattle.ir_syntax.specs.declared.body.Body.{Body}
use Rattle.ir_grammar.specs.Tokens.{Kept}
use Rattle.ir_body.specs.declared.blocks.Builder.{Builder}
use Rattle.ir_operands.specs.Operands.{Names}
use Rattle.ir_body.specs.Lines.{Line}
use Rattle.ir_body.specs.Bodies.{blocks_from, body_of, bounded, lines_at}

-- the blocks of what is built and of more lines
abbrev pub built : Builder → List Line → List Block
built builder lines = builder.blocks ++ blocks_from builder.phis builder.insts lines

-- lines as their blocks
abbrev pub as_blocks : Option (List Line × ℕ) → Option (List Block × ℕ)
as_blocks found = option_map (λ f. (blocks_from [] [] f.0, f.1)) found

abbrev pub lined_body_at : Names → List Kept → Option Body
lined_body_at names ks = option_and_then (λ f. bounded ks (body_of f.0)) (lines_at names ks)
