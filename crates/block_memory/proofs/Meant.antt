-- When what is asked of memory has a meaning.
use Rattle.std.proofs.Common.{◌≡◌, ℕ, zero, suc, ◌<◌, ◌==◌, Bool, true, false, IsTrue, ℤ, pos, negsuc, List, [], ◌∷◌, length, slice_get, Option, Some, None, IsSome, option_map, if◌then◌else◌, refl, sym, subst, arith}
use Rattle.ir_types.specs.declared.scalar.Scalar.{Scalar}
use Rattle.int_ops.specs.declared.cause.Cause.TheVariants as cause
use Rattle.ir_syntax.specs.declared.symbol.Sym.{Sym}
use Rattle.block_memory.specs.declared.value.Name.{Name}
use Rattle.block_memory.specs.declared.value.Name.TheVariants as name
use Rattle.block_memory.specs.declared.value.Val.{Val}
use Rattle.block_memory.specs.declared.value.Val.TheVariants as val
use Rattle.block_memory.specs.declared.spot.Spot.{Spot}
use Rattle.block_memory.specs.Answers.{Answer, Gives, Undefined, Stuck, IsMeant, and_then, or_stuck, unless}
use Rattle.block_memory.specs.Blocks.{LiveBlock, MemoryBlock, Live, Ended, MemoryData, IsNamed, IsKnown, IsAddress, var_at, block_at}
use Rattle.block_memory.specs.Accesses.{Access, Place, is_outside, is_misaligned, is_read_only, offset_in, place_in, place_of}
use Rattle.block_memory.specs.Parts.{is_value_of, parts_of}
use Rattle.block_memory.specs.Stores.{store, writing}
use Rattle.block_memory.specs.Mirrors.Spots.{HasBytes, spotted}
use Rattle.block_memory.proofs.Places.{Placed, placed}

if_of_type : {A : Type 0} (of_type : Bool) (x : Answer A) → IsMeant (if of_type then x else Stuck) → IsTrue of_type
if_of_type true x meant = refl
if_of_type false x meant = absurd meant

-- A store that has a meaning is one of a value of its type.
pub store_of_type : (mem : MemoryData) (ty : Scalar) (align : ℕ) (value at : Val Sym) → IsMeant (store mem ty align value at) → IsTrue (is_value_of ty value)
store_of_type mem ty align value at meant = if_of_type (is_value_of ty value) _ meant

-- Where an access goes, there are its bytes.
pub has_bytes : (mem : MemoryData) (access : Access) (at : Val Sym) (spot : Spot) → Gives spot ≡ spotted (place_of mem access at) → HasBytes (block_at mem spot.of) spot.offset access.bytes
has_bytes mem access at spot is =
    let place : Placed access (block_at mem spot.of) (place_of mem access at) spot = placed mem access at spot is in
    subst (λ (found : Option MemoryBlock). HasBytes found spot.offset access.bytes) (sym place.stands) place.fits

-- ---- what is known has a meaning

there_is_meant : (access : Access) (of : Name Sym) (offset : ℤ) (found : Option MemoryBlock) → IsSome found → IsMeant (and_then (place_in access of offset) (or_stuck found))
there_is_meant access of offset None there = absurd (cc)
there_is_meant access of offset (Some (Ended size)) there = tt
there_is_meant access of offset (Some (Live block)) there = live (offset_in access block offset) (offset_is_meant offset) where
  placed_there : ℕ → Answer Place
  placed_there at = Gives (record { of = of; block = block; offset = at })

  live : (given : Answer ℕ) → IsMeant given → IsMeant (and_then placed_there given)
  live (Gives at) meant = tt
  live (Undefined why) meant = tt
  live Stuck meant = meant

  offset_is_meant : (o : ℤ) → IsMeant (offset_in access block o)
  offset_is_meant (negsuc below) = tt
  offset_is_meant (pos at) = three (is_outside access block at) (is_misaligned access at) (is_read_only access block) where
    three : (a b c : Bool) → IsMeant (unless ((cause.OutsideBlock, a) ∷ (cause.Misaligned, b) ∷ (cause.ReadOnly, c) ∷ []) at)
    three true b c = tt
    three false true c = tt
    three false false true = tt
    three false false false = tt

number_is_there : {A : Type 0} (xs : List A) (k : ℕ) → k < length xs → IsSome (slice_get xs k)
number_is_there [] k inside = absurd (omega (arith, inside))
number_is_there (x ∷ xs) zero inside = refl
number_is_there (x ∷ xs) (suc k) inside = number_is_there xs k (omega (arith, inside))

live_is_there : (found : Option LiveBlock) → IsSome found → IsSome (option_map Live found)
live_is_there None there = absurd (cc)
live_is_there (Some block) there = refl

-- An access at an address that names a block of this memory has a meaning.
pub known_is_meant : (mem : MemoryData) (access : Access) (at : Val Sym) → IsKnown mem at → IsAddress at → IsMeant (place_of mem access at)
known_is_meant mem access (val.Num n) known address = absurd address
known_is_meant mem access val.Null known address = tt
known_is_meant mem access (val.At (name.Var symbol) offset) known address =
    there_is_meant access (name.Var symbol) offset (block_at mem (name.Var symbol)) (live_is_there (var_at mem symbol) known)
known_is_meant mem access (val.At (name.Func symbol) offset) known address = tt
known_is_meant mem access (val.At (name.Made number) offset) known address =
    there_is_meant access (name.Made number) offset (block_at mem (name.Made number)) (number_is_there mem.made number known)
known_is_meant mem access val.Poison known address = tt
