-- Stores (LLVM Language Reference Manual, "'store' Instruction").
use Rattle.std.specs.Prelude.{ℕ, true, if◌then◌else◌}
use Rattle.ir_types.specs.declared.scalar.Scalar.{Scalar}
use Rattle.ir_types.specs.Layout.{scalar_size}
use Rattle.ir_syntax.specs.declared.symbol.Sym.{Sym}
use Rattle.block_memory.specs.declared.value.Val.{Val}
use Rattle.block_memory.specs.Answers.{Answer, Gives, Stuck, and_then}
use Rattle.block_memory.specs.Blocks.{MemoryData}
use Rattle.block_memory.specs.Parts.{is_value_of, parts_of}
use Rattle.block_memory.specs.Accesses.{Access, place_of, written_at}

abbrev pub writing : Scalar → ℕ → Access
writing ty align = record { bytes = scalar_size ty; align = align; writes = true }

-- the memory with a value of the type at an address
abbrev pub store : MemoryData → Scalar → ℕ → Val Sym → Val Sym → Answer MemoryData
store mem ty align value at =
    if is_value_of ty value then and_then (λ place. Gives (written_at mem place (parts_of ty value))) (place_of mem (writing ty align) at) else Stuck
