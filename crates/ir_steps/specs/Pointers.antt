-- Addresses that are moved by indices (LLVM Language Reference Manual, "'getelementptr' Instruction").
use Rattle.std.specs.Prelude.{ℕ, zero, ◌==◌, Bool, not, ◌&&◌, ◌||◌, ℤ, pos, ◌+ℤ◌, ◌*ℤ◌, List, [], ◌∷◌, Option, Some, None, if◌then◌else◌}
use Rattle.ir_types.specs.declared.scalar.Scalar.{Scalar}
use Rattle.ir_types.specs.declared.scalar.Scalar.TheVariants.{I64}
use Rattle.ir_types.specs.declared.shape.Stride.{Stride}
use Rattle.ir_types.specs.declared.shape.Stride.TheVariants.{Each, Field}
use Rattle.ir_types.specs.Scalars.{signed_value, integer_modulo}
use Rattle.ir_syntax.specs.declared.symbol.Sym.{Sym}
use Rattle.block_memory.specs.declared.value.Name.{Name}
use Rattle.block_memory.specs.declared.value.Val.{Val}
use Rattle.block_memory.specs.declared.value.Val.TheVariants as val
use Rattle.block_memory.specs.Answers.{Answer, Gives, Stuck, and_then, or_stuck}
use Rattle.block_memory.specs.Blocks.{MemoryData}
use Rattle.block_memory.specs.Comparisons.{extent, is_upto}

-- a sum of signed 64-bit numbers, which wraps
abbrev pub wrapped : ℤ → ℤ
wrapped sum = signed_value I64 (integer_modulo I64 sum)

-- What one index moves an address by, in bytes: nothing is known of it where it is poison.
abbrev pub moves : Scalar → Val Sym → Stride → Answer (Option ℤ)
moves ty (val.Num n) (Each size) = Gives (Some (signed_value ty n *ℤ pos size))
moves ty (val.Num n) (Field offset) = Gives (Some (pos offset))
moves ty val.Null stride = Stuck
moves ty (val.At of offset) stride = Stuck
moves ty val.Poison stride = Gives None

abbrev pub added : Option ℤ → Option ℤ → Option ℤ
added None b = None
added (Some a) None = None
added (Some a) (Some b) = Some (a +ℤ b)

-- what all indices move it by
abbrev pub moves_all : List Scalar → List (Val Sym) → List Stride → Answer (Option ℤ)
moves_all [] [] [] = Gives (Some (pos zero))
moves_all (ty ∷ tys) (x ∷ xs) (s ∷ ss) = and_then (λ one. and_then (λ rest. Gives (added one rest)) (moves_all tys xs ss)) (moves ty x s)
moves_all tys xs ss = Stuck

-- With `inbounds` neither the old offset nor the new one may lie outside the block or its end.
abbrev pub leaves_block : Bool → ℕ → ℤ → ℤ → Bool
leaves_block inbounds size from to = inbounds && (not (is_upto from size) || not (is_upto to size))

abbrev pub at_offset : Bool → Name Sym → ℤ → ℤ → ℕ → Val Sym
at_offset inbounds of from to size = if leaves_block inbounds size from to then val.Poison else val.At of to

-- Null moved by nothing stays null.
abbrev pub moved_null : ℤ → Val Sym
moved_null by = if integer_modulo I64 by == 0 then val.Null else val.Poison

-- the address that many bytes further
abbrev pub moved_by : MemoryData → Bool → Val Sym → ℤ → Answer (Val Sym)
moved_by mem inbounds (val.Num n) by = Stuck
moved_by mem inbounds val.Null by = Gives (moved_null by)
moved_by mem inbounds (val.At of from) by = and_then (λ block. Gives (at_offset inbounds of from (wrapped (from +ℤ by)) block.size)) (or_stuck (extent mem of))
moved_by mem inbounds val.Poison by = Gives val.Poison

-- A base or an index that is poison makes poison.
abbrev pub moved : MemoryData → Bool → Val Sym → Option ℤ → Answer (Val Sym)
moved mem inbounds base None = Gives val.Poison
moved mem inbounds base (Some by) = moved_by mem inbounds base by
