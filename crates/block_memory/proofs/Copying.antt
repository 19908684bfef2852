-- Fills and copies, from where the code finds their places.
use Rattle.std.proofs.Common.{◌≡◌, ◌≢◌, ℕ, zero, suc, ◌==◌, ◌&&◌, not, Bool, true, false, List, [], ◌∷◌, length, take, drop, set, replicate, slice_get, Option, Some, None, option_map, option_and_then, if◌then◌else◌, refl, ap, sym, ◌∙◌, arith}
use Rattle.std.proofs.lemmas.List.{length-replicate, length-take, length-drop}
use Rattle.std.proofs.lemmas.Bool.{eqb-true, eqb-false}
use Rattle.ir_syntax.specs.declared.symbol.Sym.{Sym}
use Rattle.ir_syntax.specs.Targets.{entry_at}
use Rattle.int_ops.specs.declared.cause.Cause.TheVariants as cause
use Rattle.block_memory.specs.declared.value.Name.{Name}
use Rattle.block_memory.specs.declared.value.Name.TheVariants as name
use Rattle.block_memory.specs.declared.value.Val.{Val}
use Rattle.block_memory.specs.declared.value.Part.{Part}
use Rattle.block_memory.specs.declared.spot.Spot.{Spot}
use Rattle.block_memory.specs.Answers.{Gives, and_then, or_stuck, unless}
use Rattle.block_memory.specs.Blocks.{LiveBlock, Live, Ended, MemoryData, block_at, with_parts, put_block}
use Rattle.block_memory.specs.Accesses.{Place, place_of, bytes_at, written_at}
use Rattle.block_memory.specs.Parts.{same_symbol, same_name}
use Rattle.block_memory.specs.Copies.{reading_bytes, writing_bytes, ranges_overlap, copied, copy}
use Rattle.block_memory.specs.Fills.{byte_of, filled, fill}
use Rattle.block_memory.specs.Mirrors.Spots.{spotted, emptied, without, moved_into, moved}
use Rattle.block_memory.specs.Mirrors.Writing.{set_from}
use Rattle.block_memory.proofs.Places.{Placed, placed, written_is, get_set}

if_false : {A : Type 0} (b : Bool) (x y : A) → b ≡ false → (if b then x else y) ≡ y
if_false true x y not_so = absurd (cc)
if_false false x y not_so = refl

not_zero_by : (len : ℕ) (zero_or_not : Bool) → (len == 0) ≡ zero_or_not → (len ≡ 0 → ⊥) → (len == 0) ≡ false
not_zero_by len true is some = absurd (some (eqb-true len 0 is))
not_zero_by len false is some = is

not_zero : (len : ℕ) → (len ≡ 0 → ⊥) → (len == 0) ≡ false
not_zero len some = not_zero_by len (len == 0) refl some

-- ---- fills

pub fill_is :
    (mem : MemoryData) (to byte : Val Sym) (len : ℕ) (part : Part Sym) (spot : Spot) (block : LiveBlock) → byte_of byte ≡ Some part → (len ≡ 0 → ⊥) →
    Gives spot ≡ spotted (place_of mem (writing_bytes len) to) → block_at mem spot.of ≡ Some (Live block) →
    fill mem to byte len ≡ Gives (put_block mem spot.of (with_parts block (set_from block.parts spot.offset (replicate len part))))
fill_is mem to byte len part spot block is_byte some found stands =
    let place : Placed (writing_bytes len) (block_at mem spot.of) (place_of mem (writing_bytes len) to) spot = placed mem (writing_bytes len) to spot found in
    let same : place.block ≡ block = cc (place.stands) in
    let long : length (replicate len part) ≡ len = length-replicate len part in
    ap (λ b. and_then (filled mem to len) (or_stuck b)) is_byte
    ∙ if_false (len == 0) _ _ (not_zero len some)
    ∙ ap (and_then (λ p. Gives (written_at mem p (replicate len part)))) place.is
    ∙ ap Gives (written_is mem spot place.block (replicate len part) (omega (arith, place.fits, long)))
    ∙ ap (λ b. Gives (put_block mem spot.of (with_parts b (set_from b.parts spot.offset (replicate len part))))) same

-- ---- copies

pub moved_is :
    (mem : MemoryData) (to from : Spot) (count : ℕ) (one other : LiveBlock) → block_at mem to.of ≡ Some (Live one) → block_at mem from.of ≡ Some (Live other) →
    put_block mem to.of (with_parts one (set_from one.parts to.offset (take count (drop from.offset other.parts)))) ≡ moved mem to from count
moved_is mem to from count one other stands there =
    sym (ap (λ x. moved_into mem to from count x (block_at mem from.of)) stands ∙ ap (moved_into mem to from count (Some (Live one))) there)

pub copy_is :
    (mem : MemoryData) (to from : Val Sym) (len : ℕ) (may_overlap : Bool) (written read : Spot) → (len ≡ 0 → ⊥) →
    Gives written ≡ spotted (place_of mem (writing_bytes len) to) → Gives read ≡ spotted (place_of mem (reading_bytes len) from) →
    copy mem to from len may_overlap
    ≡ unless ((cause.Overlap, not may_overlap && (same_name written.of read.of && ranges_overlap len written.offset read.offset)) ∷ []) (moved mem written read len)
copy_is mem to from len may_overlap written read some found_to found_from =
    let one : Placed (writing_bytes len) (block_at mem written.of) (place_of mem (writing_bytes len) to) written = placed mem (writing_bytes len) to written found_to in
    let other : Placed (reading_bytes len) (block_at mem read.of) (place_of mem (reading_bytes len) from) read = placed mem (reading_bytes len) from read found_from in
    let there : Place = record { of = read.of; block = other.block; offset = read.offset } in
    let long : length (bytes_at there len) ≡ len = length-take len (drop read.offset other.block.parts) ∙ simp (length-drop) (omega (arith, other.fits)) in
    if_false (len == 0) _ _ (not_zero len some)
    ∙ ap (and_then (λ w. and_then (copied mem len may_overlap w) (place_of mem (reading_bytes len) from))) one.is
    ∙ ap (and_then (copied mem len may_overlap (record { of = written.of; block = one.block; offset = written.offset }))) other.is
    ∙ ap (unless ((cause.Overlap, not may_overlap && (same_name written.of read.of && ranges_overlap len written.offset read.offset)) ∷ []))
    (written_is mem written one.block (bytes_at there len) (omega (arith, one.fits, long)) ∙ moved_is mem written read len one.block other.block one.stands other.stands)

-- ---- two blocks, one of them taken out

get_set_other : {A : Type 0} (xs : List A) (i j : ℕ) (new : A) → i ≢ j → slice_get (set xs i new) j ≡ slice_get xs j
get_set_other [] i j new apart = refl
get_set_other (x ∷ xs) zero zero new apart = absurd (apart refl)
get_set_other (x ∷ xs) zero (suc j) new apart = refl
get_set_other (x ∷ xs) (suc i) zero new apart = refl
get_set_other (x ∷ xs) (suc i) (suc j) new apart = get_set_other xs i j new (λ same. apart (ap suc same))

entry_in_row :
    (vars : List (List (Option LiveBlock))) (a b : Sym) (row : List (Option LiveBlock)) (same : Bool) → (a.module == b.module) ≡ same → same_symbol a b ≡ false →
    slice_get vars a.module ≡ Some row → entry_at (set vars a.module (set row a.item None)) b ≡ entry_at vars b
entry_in_row vars a b row false apart differ stands =
    ap (option_and_then (λ r. slice_get r b.item)) (get_set_other vars a.module b.module (set row a.item None) (eqb-false a.module b.module apart))
entry_in_row vars a b row true together differ stands =
    let here : a.module ≡ b.module = eqb-true a.module b.module together in
    let apart : (a.item == b.item) ≡ false = sym (ap (λ t. t && a.item == b.item) together) ∙ differ in
    ap (λ m. option_and_then (λ r. slice_get r b.item) (slice_get (set vars a.module (set row a.item None)) m)) (sym here)
    ∙ ap (option_and_then (λ r. slice_get r b.item)) (get_set vars a.module row (set row a.item None) stands)
    ∙ get_set_other row a.item b.item None (eqb-false a.item b.item apart)
    ∙ sym (ap (option_and_then (λ r. slice_get r b.item)) stands)
    ∙ ap (λ m. option_and_then (λ r. slice_get r b.item) (slice_get vars m)) here

entry_emptied :
    (vars : List (List (Option LiveBlock))) (a b : Sym) (row : Option (List (Option LiveBlock))) → same_symbol a b ≡ false → slice_get vars a.module ≡ row →
    entry_at (emptied vars a row) b ≡ entry_at vars b
entry_emptied vars a b None differ stands = refl
entry_emptied vars a b (Some row) differ stands = entry_in_row vars a b row (a.module == b.module) refl differ stands

pub block_without : (mem : MemoryData) (of other : Name Sym) → same_name of other ≡ false → block_at (without mem of) other ≡ block_at mem other
block_without mem (name.Var a) (name.Var b) differ =
    ap (λ found. option_map Live (option_and_then (λ block. block) found)) (entry_emptied mem.vars a b (slice_get mem.vars a.module) differ refl)
block_without mem (name.Var a) (name.Func b) differ = refl
block_without mem (name.Var a) (name.Made b) differ = refl
block_without mem (name.Func a) other differ = refl
block_without mem (name.Made a) (name.Var b) differ = refl
block_without mem (name.Made a) (name.Func b) differ = refl
block_without mem (name.Made a) (name.Made b) differ = get_set_other mem.made a b (Ended 0) (eqb-false a b differ)

same_symbol-true : (a b : Sym) → same_symbol a b ≡ true → a ≡ b
same_symbol-true a b same = both (a.module == b.module) (a.item == b.item) refl refl same where
  both : (m i : Bool) → (a.module == b.module) ≡ m → (a.item == b.item) ≡ i → (m && i) ≡ true → a ≡ b
  both true true one other holds =
      ap (λ m. record { «module» = m; item = a.item }) (eqb-true a.module b.module one) ∙ ap (λ i. record { «module» = b.module; item = i }) (eqb-true a.item b.item other)
  both true false one other holds = absurd (cc)
  both false i one other holds = absurd (cc)

pub same_name-true : (of other : Name Sym) → same_name of other ≡ true → of ≡ other
same_name-true (name.Var a) (name.Var b) same = ap (λ s. name.Var s) (same_symbol-true a b same)
same_name-true (name.Var a) (name.Func b) same = absurd (cc)
same_name-true (name.Var a) (name.Made b) same = absurd (cc)
same_name-true (name.Func a) (name.Var b) same = absurd (cc)
same_name-true (name.Func a) (name.Func b) same = ap (λ s. name.Func s) (same_symbol-true a b same)
same_name-true (name.Func a) (name.Made b) same = absurd (cc)
same_name-true (name.Made a) (name.Var b) same = absurd (cc)
same_name-true (name.Made a) (name.Func b) same = absurd (cc)
same_name-true (name.Made a) (name.Made b) same = ap (λ n. name.Made n) (eqb-true a b same)
