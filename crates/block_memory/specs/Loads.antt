-- Loads (LLVM Language Reference Manual, "'load' Instruction").
use Rattle.std.specs.Prelude.{ℕ, false}
use Rattle.ir_types.specs.declared.scalar.Scalar.{Scalar}
use Rattle.ir_types.specs.Layout.{scalar_size}
use Rattle.ir_syntax.specs.declared.symbol.Sym.{Sym}
use Rattle.block_memory.specs.declared.value.Val.{Val}
use Rattle.block_memory.specs.Answers.{Answer, Gives, and_then}
use Rattle.block_memory.specs.Blocks.{MemoryData}
use Rattle.block_memory.specs.Parts.{value_in}
use Rattle.block_memory.specs.Accesses.{Access, place_of, bytes_at}

abbrev pub reading : Scalar → ℕ → Access
reading ty align = record { bytes = scalar_size ty; align = align; writes = false }

-- the value of the type at an address
abbrev pub load : MemoryData → Scalar → ℕ → Val Sym → Answer (Val Sym)
load mem ty align at = and_then (λ place. Gives (value_in ty (bytes_at place (scalar_size ty)))) (place_of mem (reading ty align) at)
