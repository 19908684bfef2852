-- The order of causes, and bytes of values, worked by hand.
use Rattle.std.proofs.Common.{◌≡◌, ℕ, pos, negsuc, ℤ, true, false, [], ◌∷◌, ◌++◌, take, drop, replicate, refl}
use Rattle.ir_types.specs.declared.scalar.Scalar.TheVariants.{I1, I8, I16, I32, I64, Ptr}
use Rattle.ir_syntax.specs.declared.symbol.Sym.{Sym}
use Rattle.int_ops.specs.declared.cause.Cause.TheVariants as cause
use Rattle.block_memory.specs.declared.value.Name.TheVariants as name
use Rattle.block_memory.specs.declared.value.Val.{Val}
use Rattle.block_memory.specs.declared.value.Val.TheVariants as val
use Rattle.block_memory.specs.declared.value.Part.TheVariants as part
use Rattle.block_memory.specs.Answers.{Gives, Undefined}
use Rattle.block_memory.specs.Blocks.{Live, Ended, MemoryData}
use Rattle.block_memory.specs.Parts.{parts_of, value_in}
use Rattle.block_memory.specs.Loads.{load}
use Rattle.block_memory.specs.Stores.{store}
use Rattle.block_memory.specs.Copies.{copy}
use Rattle.block_memory.specs.Fills.{fill}

abbrev at : ℕ → ℤ → Val Sym
at number offset = val.At (name.Made number) offset

abbrev function : Val Sym
function = val.At (name.Func (record { «module» = 0; item = 3 })) (pos 0)

-- four bytes that may not be written, four that may, and an ended block
abbrev three : MemoryData
three = record {
  vars = [];
  made = Live (record { parts = replicate 4 (part.Num 1); writable = false; heap = false }) ∷ Live (record { parts = replicate 4 (part.Num 2); writable = true; heap = false }) ∷ Ended 4 ∷ [];
}

-- ---- causes

poison : load three I8 0 val.Poison ≡ Undefined cause.PoisonAddress
poison = refl

null : load three I8 0 val.Null ≡ Undefined cause.NullAddress
null = refl

not_bytes : load three I8 0 function ≡ Undefined cause.NotBytes
not_bytes = refl

-- an ended block before an offset outside it
ended : load three I8 0 (at 2 (pos 9)) ≡ Undefined cause.EndedBlock
ended = refl

below : load three I8 0 (at 1 (negsuc 0)) ≡ Undefined cause.OutsideBlock
below = refl

-- the last byte is outside, and the offset no multiple of 4
outside : store three I32 2 (val.Num 0) (at 0 (pos 1)) ≡ Undefined cause.OutsideBlock
outside = refl

-- an offset that is no multiple of 2, and a block that may not be written
misaligned : store three I16 1 (val.Num 0) (at 0 (pos 1)) ≡ Undefined cause.Misaligned
misaligned = refl

read_only : store three I16 1 (val.Num 0) (at 0 (pos 2)) ≡ Undefined cause.ReadOnly
read_only = refl

-- an alignment of 2^32 counts as 16
most_aligned : load three I8 32 (at 1 (pos 0)) ≡ Gives (val.Num 2)
most_aligned = refl

-- ---- copies

-- no bytes: poison is refused, and nothing else
no_bytes : copy three function (at 2 (pos 9)) 0 false ≡ Gives three
no_bytes = refl

no_bytes_of_poison : copy three val.Null val.Poison 0 false ≡ Undefined cause.PoisonAddress
no_bytes_of_poison = refl

-- the place written comes first
written_first : copy three (at 0 (pos 0)) val.Null 1 false ≡ Undefined cause.ReadOnly
written_first = refl

-- ranges that overlap
overlapping : copy three (at 1 (pos 1)) (at 1 (pos 0)) 3 false ≡ Undefined cause.Overlap
overlapping = refl

moved : copy three (at 1 (pos 1)) (at 1 (pos 0)) 3 true ≡ Gives three
moved = refl

-- equal ranges
onto_itself : copy three (at 1 (pos 0)) (at 1 (pos 0)) 4 false ≡ Gives three
onto_itself = refl

filled_with_poison :
    fill three (at 1 (pos 1)) val.Poison 2
    ≡ Gives (record three { made = Live (record { parts = replicate 4 (part.Num 1); writable = false; heap = false }) ∷ Live (record { parts = part.Num 2 ∷ part.Poison ∷ part.Poison ∷ part.Num 2 ∷ []; writable = true; heap = false }) ∷ Ended 4 ∷ [] })
filled_with_poison = refl

-- ---- bytes

-- -2
little : parts_of I32 (val.Num 0xFFFFFFFE) ≡ part.Num 254 ∷ part.Num 255 ∷ part.Num 255 ∷ part.Num 255 ∷ []
little = refl

mixed : value_in I16 (part.Num 1 ∷ part.Num 2 ∷ []) ≡ val.Num 513
mixed = refl

-- i1 of a byte above 1
no_bit : value_in I1 (part.Num 2 ∷ []) ≡ val.Poison
no_bit = refl

address : value_in Ptr (parts_of Ptr (at 3 (negsuc 4))) ≡ at 3 (negsuc 4)
address = refl

null_again : value_in Ptr (parts_of Ptr val.Null) ≡ val.Null
null_again = refl

-- seven bytes of one address and one of another
torn : value_in Ptr (take 7 (parts_of Ptr (at 3 (pos 0))) ++ drop 7 (parts_of Ptr (at 3 (pos 1)))) ≡ val.Poison
torn = refl

-- bytes of an address as a number
no_number : value_in I64 (parts_of Ptr (at 3 (pos 0))) ≡ val.Poison
no_number = refl

-- a number as an address
no_address : value_in Ptr (parts_of I64 (val.Num 16)) ≡ val.Poison
no_address = refl
