-- Where an access goes, from where the code finds it.
use Rattle.std.proofs.Common.{◌≡◌, ℕ, zero, suc, ◌+◌, ◌≤◌, Bool, true, false, IsTrue, ℤ, pos, negsuc, List, [], ◌∷◌, length, take, drop, set, slice_get, Option, Some, None, if◌then◌else◌, ◌/◌, refl, ap, sym, subst, ◌∙◌, arith}
use Rattle.std.proofs.lemmas.List.{length-map, length-replicate, set-set}
use Rattle.std.proofs.lemmas.Bool.{ltb-false}
use Rattle.ir_types.specs.declared.scalar.Scalar.{Scalar}
use Rattle.ir_types.specs.declared.scalar.Scalar.TheVariants.{I1, I8, I16, I32, I64, Ptr}
use Rattle.ir_types.specs.Layout.{scalar_size}
use Rattle.ir_syntax.specs.declared.symbol.Sym.{Sym}
use Rattle.ir_syntax.specs.InitialBytes.{little_endian}
use Rattle.int_ops.specs.declared.cause.Cause.{Cause}
use Rattle.int_ops.specs.declared.cause.Cause.TheVariants as cause
use Rattle.block_memory.specs.declared.value.Name.{Name}
use Rattle.block_memory.specs.declared.value.Name.TheVariants as name
use Rattle.block_memory.specs.declared.value.Val.{Val}
use Rattle.block_memory.specs.declared.value.Val.TheVariants as val
use Rattle.block_memory.specs.declared.value.Part.{Part}
use Rattle.block_memory.specs.declared.value.Part.TheVariants as part
use Rattle.block_memory.specs.declared.spot.Spot.{Spot}
use Rattle.block_memory.specs.Answers.{Answer, Gives, Undefined, Stuck, and_then, or_stuck, unless}
use Rattle.block_memory.specs.Blocks.{LiveBlock, MemoryBlock, Live, Ended, MemoryData, block_at, with_parts, set_in, put_block}
use Rattle.block_memory.specs.Accesses.{Access, Place, is_outside, is_misaligned, is_read_only, offset_in, place_in, place_of, bytes_at, written_at}
use Rattle.block_memory.specs.Parts.{is_value_of, parts_of, value_in}
use Rattle.block_memory.specs.Loads.{load, reading}
use Rattle.block_memory.specs.Stores.{store, writing}
use Rattle.block_memory.specs.Mirrors.Spots.{spotted, emptied, without}
use Rattle.block_memory.specs.Mirrors.Writing.{set_from}
use Rattle.block_memory.proofs.Writing.{set_from-replaced}

-- ---- offsets

-- None of three causes holds where there is a value.
none_holds :
    (a b c : Cause) (first second third : Bool) (x y : ℕ) → unless ((a, first) ∷ (b, second) ∷ (c, third) ∷ []) x ≡ Gives y → (first ≡ false) × (x ≡ y)
none_holds a b c true second third x y is = absurd (cc)
none_holds a b c false true third x y is = absurd (cc)
none_holds a b c false false true x y is = absurd (cc)
none_holds a b c false false false x y is = (refl, cc)

inside : (access : Access) (block : LiveBlock) (offset : ℤ) (at : ℕ) → offset_in access block offset ≡ Gives at → at + access.bytes ≤ length block.parts
inside access block (negsuc below) at is = absurd (cc)
inside access block (pos offset) at is =
    let facts : (is_outside access block offset ≡ false) × (offset ≡ at) =
    none_holds cause.OutsideBlock cause.Misaligned cause.ReadOnly (is_outside access block offset) (is_misaligned access offset) (is_read_only access block) offset at is in
    let fits : offset + access.bytes ≤ length block.parts = omega (arith, ltb-false (length block.parts) (offset + access.bytes) facts.0) in
    omega (arith, facts.1, fits)

-- ---- places

pub record Placed (access : Access) (found : Option MemoryBlock) (given : Answer Place) (spot : Spot) : Type 0 where
  pub block : LiveBlock
  pub stands : found ≡ Some (Live block)
  pub is : given ≡ Gives (record { of = spot.of; block = block; offset = spot.offset })
  pub fits : spot.offset + access.bytes ≤ length block.parts

placed_at :
    (access : Access) (of : Name Sym) (block : LiveBlock) (offset : ℤ) (given : Answer ℕ) (spot : Spot) → offset_in access block offset ≡ given →
    Gives spot ≡ spotted (and_then (λ at. Gives (record { of = of; block = block; offset = at })) given) →
    Placed access (Some (Live block)) (and_then (λ at. Gives (record { of = of; block = block; offset = at })) given) spot × (of ≡ spot.of)
placed_at access of block offset (Gives at) spot is found =
    let same : record { of = of; offset = at } ≡ spot = cc in
    let of_same : of ≡ spot.of = ap (λ s. s.of) same in
    let at_same : at ≡ spot.offset = ap (λ s. s.offset) same in (
      record {
        block = block;
        stands = refl;
        is = ap (λ o. Gives (record { of = o; block = block; offset = at })) of_same ∙ ap (λ n. Gives (record { of = spot.of; block = block; offset = n })) at_same;
        fits = omega (arith, inside access block offset at is, at_same);
      },
      of_same,
    )
placed_at access of block offset (Undefined cause) spot is found = absurd (cc)
placed_at access of block offset Stuck spot is found = absurd (cc)

placed_in :
    (access : Access) (of : Name Sym) (offset : ℤ) (found : Option MemoryBlock) (spot : Spot) →
    Gives spot ≡ spotted (and_then (place_in access of offset) (or_stuck found)) →
    Placed access found (and_then (place_in access of offset) (or_stuck found)) spot × (of ≡ spot.of)
placed_in access of offset None spot is = absurd (cc)
placed_in access of offset (Some (Ended size)) spot is = absurd (cc)
placed_in access of offset (Some (Live block)) spot is = placed_at access of block offset (offset_in access block offset) spot refl is

moved_name :
    (mem : MemoryData) (access : Access) (of : Name Sym) (given : Answer Place) (spot : Spot) →
    Placed access (block_at mem of) given spot × (of ≡ spot.of) → Placed access (block_at mem spot.of) given spot
moved_name mem access of given spot pair = subst (λ (o : Name Sym). Placed access (block_at mem o) given spot) pair.1 pair.0

pub placed :
    (mem : MemoryData) (access : Access) (at : Val Sym) (spot : Spot) → Gives spot ≡ spotted (place_of mem access at) →
    Placed access (block_at mem spot.of) (place_of mem access at) spot
placed mem access (val.Num n) spot is = absurd (cc)
placed mem access val.Null spot is = absurd (cc)
placed mem access (val.At (name.Var symbol) offset) spot is =
    moved_name mem access (name.Var symbol) _ spot (placed_in access (name.Var symbol) offset (block_at mem (name.Var symbol)) spot is)
placed mem access (val.At (name.Func symbol) offset) spot is = absurd (cc)
placed mem access (val.At (name.Made number) offset) spot is =
    moved_name mem access (name.Made number) _ spot (placed_in access (name.Made number) offset (block_at mem (name.Made number)) spot is)
placed mem access val.Poison spot is = absurd (cc)

-- ---- loads

pub load_is :
    (mem : MemoryData) (ty : Scalar) (align bytes : ℕ) (at : Val Sym) (spot : Spot) (block : LiveBlock) → bytes ≡ scalar_size ty →
    Gives spot ≡ spotted (place_of mem (record { bytes = bytes; align = align; writes = false }) at) → block_at mem spot.of ≡ Some (Live block) →
    load mem ty align at ≡ Gives (value_in ty (take (scalar_size ty) (drop spot.offset block.parts)))
load_is mem ty align bytes at spot block size found stands =
    let here : Gives spot ≡ spotted (place_of mem (reading ty align) at) = found ∙ ap (λ n. spotted (place_of mem (record { bytes = n; align = align; writes = false }) at)) size in
    let place : Placed (reading ty align) (block_at mem spot.of) (place_of mem (reading ty align) at) spot = placed mem (reading ty align) at spot here in
    let same : place.block ≡ block = cc (place.stands) in
    ap (and_then (λ p. Gives (value_in ty (bytes_at p (scalar_size ty))))) place.is
    ∙ ap (λ b. Gives (value_in ty (take (scalar_size ty) (drop spot.offset b.parts)))) same

-- ---- stores

pub length-little_endian : (count n : ℕ) → length (little_endian count n) ≡ count
length-little_endian zero n = refl
length-little_endian (suc count) n = ap suc (length-little_endian count (n / 256))

pub length-parts_of : (ty : Scalar) (value : Val Sym) → IsTrue (is_value_of ty value) → length (parts_of ty value) ≡ scalar_size ty
length-parts_of ty (val.Num n) of_type = length-map (little_endian (scalar_size ty) n) (λ (byte : ℕ). part.Num byte) ∙ length-little_endian (scalar_size ty) n
length-parts_of ty val.Null of_type = length-replicate (scalar_size ty) (part.Num 0)
length-parts_of I1 (val.At of offset) of_type = absurd (cc)
length-parts_of I8 (val.At of offset) of_type = absurd (cc)
length-parts_of I16 (val.At of offset) of_type = absurd (cc)
length-parts_of I32 (val.At of offset) of_type = absurd (cc)
length-parts_of I64 (val.At of offset) of_type = absurd (cc)
length-parts_of Ptr (val.At of offset) of_type = refl
length-parts_of ty val.Poison of_type = length-replicate (scalar_size ty) part.Poison

-- a write at a place, part by part
pub written_is :
    (mem : MemoryData) (spot : Spot) (block : LiveBlock) (new : List (Part Sym)) → spot.offset + length new ≤ length block.parts →
    written_at mem (record { of = spot.of; block = block; offset = spot.offset }) new ≡ put_block mem spot.of (with_parts block (set_from block.parts spot.offset new))
written_is mem spot block new fits = ap (λ parts. put_block mem spot.of (with_parts block parts)) (sym (set_from-replaced block.parts spot.offset new fits))

if_true : {A : Type 0} (b : Bool) (x y : A) → IsTrue b → (if b then x else y) ≡ x
if_true true x y holds = refl
if_true false x y holds = absurd (cc)

pub store_is :
    (mem : MemoryData) (ty : Scalar) (align bytes : ℕ) (value at : Val Sym) (spot : Spot) (block : LiveBlock) → bytes ≡ scalar_size ty → IsTrue (is_value_of ty value) →
    Gives spot ≡ spotted (place_of mem (record { bytes = bytes; align = align; writes = true }) at) → block_at mem spot.of ≡ Some (Live block) →
    store mem ty align value at ≡ Gives (put_block mem spot.of (with_parts block (set_from block.parts spot.offset (parts_of ty value))))
store_is mem ty align bytes value at spot block size of_type found stands =
    let here : Gives spot ≡ spotted (place_of mem (writing ty align) at) = found ∙ ap (λ n. spotted (place_of mem (record { bytes = n; align = align; writes = true }) at)) size in
    let place : Placed (writing ty align) (block_at mem spot.of) (place_of mem (writing ty align) at) spot = placed mem (writing ty align) at spot here in
    let same : place.block ≡ block = cc (place.stands) in
    let long : length (parts_of ty value) ≡ scalar_size ty = length-parts_of ty value of_type in
    if_true (is_value_of ty value) _ Stuck of_type
    ∙ ap (and_then (λ p. Gives (written_at mem p (parts_of ty value)))) place.is
    ∙ ap Gives (written_is mem spot place.block (parts_of ty value) (omega (arith, place.fits, long)))
    ∙ ap (λ b. Gives (put_block mem spot.of (with_parts b (set_from b.parts spot.offset (parts_of ty value))))) same

-- ---- a block that was taken out and is put back

pub get_set : {A : Type 0} (xs : List A) (i : ℕ) (old new : A) → slice_get xs i ≡ Some old → slice_get (set xs i new) i ≡ Some new
get_set [] i old new stands = absurd (cc)
get_set (x ∷ xs) zero old new stands = refl
get_set (x ∷ xs) (suc i) old new stands = get_set xs i old new stands

put_in : (vars : List (List (Option LiveBlock))) (symbol : Sym) (block : LiveBlock) (row : Option (List (Option LiveBlock))) → slice_get vars symbol.module ≡ row →
    set_in (emptied vars symbol row) symbol block (slice_get (emptied vars symbol row) symbol.module) ≡ set_in vars symbol block row
put_in vars symbol block None is = ap (set_in vars symbol block) is
put_in vars symbol block (Some row) is =
    ap (set_in (set vars symbol.module (set row symbol.item None)) symbol block) (get_set vars symbol.module row (set row symbol.item None) is)
    ∙ set-set vars symbol.module (set row symbol.item None) (set (set row symbol.item None) symbol.item (Some block))
    ∙ ap (set vars symbol.module) (set-set row symbol.item None (Some block))

pub put_without : (mem : MemoryData) (of : Name Sym) (block : LiveBlock) → put_block (without mem of) of block ≡ put_block mem of block
put_without mem (name.Var symbol) block = ap (λ vars. record mem { vars = vars }) (put_in mem.vars symbol block (slice_get mem.vars symbol.module) refl)
put_without mem (name.Func symbol) block = refl
put_without mem (name.Made number) block = ap (λ made. record mem { made = made }) (set-set mem.made number (Ended 0) (Live block))
