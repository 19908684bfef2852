-- How many transfers a solver may make of a function.
use Rattle.std.specs.Prelude.{ℕ, ◌+◌, ◌*◌, List, length, map, sum}
use Rattle.ir_syntax.specs.declared.body.Block.{Block}
use Rattle.ir_syntax.specs.declared.item.Func.{Func}
use Rattle.ir_syntax.specs.Operands.{operands, term_operands, phi_operands}
use Rattle.ir_syntax.specs.Results.{block_count}
use Rattle.fold_facts.specs.Places.{blocks_of}

-- how many phis, instructions and terminators there are
abbrev pub places_in : List Block → ℕ
places_in blocks = sum (map block_count blocks)

-- how many operands a block has, those of its phis' entries too,
abbrev pub block_operands : Block → ℕ
block_operands block =
    sum (map (λ phi. length (phi_operands phi)) block.phis) + sum (map (λ i. length (operands i)) block.insts) + length (term_operands block.term)

-- and blocks
abbrev pub operands_in : List Block → ℕ
operands_in blocks = sum (map block_operands blocks)

-- One for each place, and three for each operand.
abbrev pub most_transfers : Func → ℕ
most_transfers func = places_in (blocks_of func) + 3 * operands_in (blocks_of func)
