-- The bytes that a reply writes: each is written where it may be, and what may be written stays so.
use Rattle.std.proofs.Common.{◌≡◌, ◌∙◌, ℕ, zero, suc, ◌+◌, ◌-◌, ◌%◌, ◌^◌, ◌<◌, ◌≤◌, ◌==◌, min, Bool, true, false, not, ◌&&◌, ℤ, pos, List, [], ◌∷◌, ◌++◌, length, take, drop, set, Option, Some, None, refl, sym, ap, subst, slice_get, option_map, option_and_then, arith, length-append, length-drop, get_or, drop-cons, add-one, replicate}
use Rattle.std.specs.Prelude.{nat_lt, if◌then◌else◌}
use Rattle.std.proofs.lemmas.Bool.Decides.{nat_tests}
use Rattle.std.proofs.lemmas.List.{length-take}
use Rattle.int_ops.specs.declared.cause.Cause.{Cause}
use Rattle.int_ops.specs.declared.cause.Cause.TheVariants as cause
use Rattle.ir_syntax.specs.declared.symbol.Sym.{Sym}
use Rattle.ir_syntax.specs.Targets.{entry_at}
use Rattle.block_memory.specs.declared.value.Name.{Name}
use Rattle.block_memory.specs.declared.value.Name.TheVariants as name
use Rattle.block_memory.specs.declared.value.Val.{Val}
use Rattle.block_memory.specs.declared.value.Val.TheVariants as val
use Rattle.block_memory.specs.declared.value.Part.{Part}
use Rattle.block_memory.specs.declared.value.Part.TheVariants as part
use Rattle.block_memory.specs.Answers.{Answer, Gives, Undefined, Stuck, and_then, or_stuck, unless}
use Rattle.block_memory.specs.Blocks.{LiveBlock, MemoryBlock, Live, Ended, MemoryData, size_of, is_live, var_at, block_at, with_parts, set_in, put_block}
use Rattle.block_memory.specs.Accesses.{Access, Place, place_in, place_of, offset_in, is_outside, is_misaligned, is_read_only, replaced, written_at}
use Rattle.block_memory.specs.Comparisons.{Extent, extent, extent_of}
use Rattle.block_memory.specs.Copies.{writing_bytes}
use Rattle.block_memory.specs.Mirrors.Writing.{set_from}
use Rattle.block_memory.proofs.Writing.{set_from-replaced}
use Rattle.std.proofs.lemmas.Option.{get_or_from_slice_get}
use Rattle.block_memory.specs.Mirrors.Spots.{IsLiveBlock, HasBytes}
use Rattle.ir_steps.specs.Replies.{bad, or_bad, write_in, write_one, write_all}
use Rattle.ir_meaning.specs.Mirrors.Opening.{IsBytes, is_open_at, is_open, is_open_in, may_write, may_write_all}

-- ---- one byte

aligned : (at : ℕ) → not (at % 1 == 0) ≡ false
aligned at = let none : at % 1 ≡ 0 = omega arith in ap (λ n. not (n == 0)) none

both : (a b : Bool) → a && b ≡ true → (a ≡ true) × (b ≡ true)
both true true e = (refl, refl)
both true false e = absurd (cc (e))
both false b e = absurd (cc (e))

-- the offset of one byte in a live block
offset_there : (block : LiveBlock) (at : ℕ) → block.writable ≡ true → at < length block.parts → offset_in (writing_bytes 1) block (pos at) ≡ Gives at
offset_there block at writable less =
    let inside : nat_lt (length block.parts) (at + 1) ≡ false = grind (arith, nat_tests, less) in
    ap (λ b. unless ((cause.OutsideBlock, b) ∷ (cause.Misaligned, is_misaligned (writing_bytes 1) at) ∷ (cause.ReadOnly, is_read_only (writing_bytes 1) block) ∷ []) at) inside
    ∙ ap (λ b. unless ((cause.Misaligned, b) ∷ (cause.ReadOnly, is_read_only (writing_bytes 1) block) ∷ []) at) (aligned at)
    ∙ ap (λ b. unless ((cause.ReadOnly, not b) ∷ []) at) writable

-- A byte that isn't open has no place.
abbrev IsNoPlace : {A : Type 0} → Answer A → Type 0
IsNoPlace (Gives x) = ⊥
IsNoPlace (Undefined why) = Unit {0}
IsNoPlace Stuck = Unit {0}

no_more : {A B : Type 0} (F : A → Answer B) (a : Answer A) → IsNoPlace a → IsNoPlace (and_then F a)
no_more F (Gives x) deny = absurd deny
no_more F (Undefined why) deny = tt
no_more F Stuck deny = tt

is_bad : {A : Type 0} (a : Answer A) → IsNoPlace a → or_bad a ≡ bad
is_bad (Gives x) deny = absurd deny
is_bad (Undefined why) deny = refl
is_bad Stuck deny = refl

closed_offset : (block : LiveBlock) (at : ℕ) → block.writable && nat_lt at (length block.parts) ≡ false → IsNoPlace (offset_in (writing_bytes 1) block (pos at))
closed_offset block at closed =
    outside (nat_lt (length block.parts) (at + 1)) refl
  where
    read_only : (w : Bool) → w && nat_lt at (length block.parts) ≡ false → nat_lt (length block.parts) (at + 1) ≡ false → IsNoPlace (unless ((cause.ReadOnly, not w) ∷ []) at)
    read_only false closed inside = tt
    read_only true closed inside = let less : nat_lt at (length block.parts) ≡ true = grind (arith, nat_tests, inside) in absurd (cc (less, closed))

    misaligned : (m : Bool) → m ≡ false → nat_lt (length block.parts) (at + 1) ≡ false → IsNoPlace (unless ((cause.Misaligned, m) ∷ (cause.ReadOnly, is_read_only (writing_bytes 1) block) ∷ []) at)
    misaligned true is inside = tt
    misaligned false is inside = read_only block.writable closed inside

    outside : (b : Bool) → nat_lt (length block.parts) (at + 1) ≡ b → IsNoPlace (unless ((cause.OutsideBlock, b) ∷ (cause.Misaligned, is_misaligned (writing_bytes 1) at) ∷ (cause.ReadOnly, is_read_only (writing_bytes 1) block) ∷ []) at)
    outside true is = tt
    outside false is = misaligned (not (at % 1 == 0)) (aligned at) is

closed_place : (of : Name Sym) (at : ℕ) (o : Option MemoryBlock) → is_open_at o at ≡ false → IsNoPlace (and_then (place_in (writing_bytes 1) of (pos at)) (or_stuck o))
closed_place of at None closed = tt
closed_place of at (Some (Ended size)) closed = tt
closed_place of at (Some (Live block)) closed = no_more (λ found. Gives (record { of = of; block = block; offset = found })) (offset_in (writing_bytes 1) block (pos at)) (closed_offset block at closed)

pub closed_is_bad : (mem : MemoryData) (w : ℕ × ℕ × ℕ) (v : Option (Val Sym)) → is_open_in mem v w.1 ≡ false → write_one mem w v ≡ bad
closed_is_bad mem w None closed = refl
closed_is_bad mem w (Some (val.Num n)) closed = refl
closed_is_bad mem w (Some val.Null) closed = refl
closed_is_bad mem w (Some (val.At (name.Var symbol) offset)) closed =
    let F : Place → Answer MemoryData = λ place. Gives (written_at mem place (part.Num w.2 ∷ [])) in
    is_bad (and_then F (place_of mem (writing_bytes 1) (val.At (name.Var symbol) (pos w.1)))) (no_more F (place_of mem (writing_bytes 1) (val.At (name.Var symbol) (pos w.1))) (closed_place (name.Var symbol) w.1 (block_at mem (name.Var symbol)) closed))
closed_is_bad mem w (Some (val.At (name.Func symbol) offset)) closed = refl
closed_is_bad mem w (Some (val.At (name.Made number) offset)) closed =
    let F : Place → Answer MemoryData = λ place. Gives (written_at mem place (part.Num w.2 ∷ [])) in
    is_bad (and_then F (place_of mem (writing_bytes 1) (val.At (name.Made number) (pos w.1)))) (no_more F (place_of mem (writing_bytes 1) (val.At (name.Made number) (pos w.1))) (closed_place (name.Made number) w.1 (block_at mem (name.Made number)) closed))
closed_is_bad mem w (Some val.Poison) closed = refl

-- ---- where a byte is open

pub record IsOpen (mem : MemoryData) (of : Name Sym) (at : ℕ) : Type 0 where
  pub block : LiveBlock
  pub there : block_at mem of ≡ Some (Live block)
  pub within : at < length block.parts
  pub place : place_of mem (writing_bytes 1) (val.At of (pos at)) ≡ Gives (record { of = of; block = block; offset = at })

open_at : (mem : MemoryData) (of : Name Sym) (at : ℕ) (o : Option MemoryBlock) → block_at mem of ≡ o → is_open_at o at ≡ true
    → place_of mem (writing_bytes 1) (val.At of (pos at)) ≡ and_then (place_in (writing_bytes 1) of (pos at)) (or_stuck (block_at mem of)) → IsOpen mem of at
open_at mem of at None is open_is shape = absurd (cc (open_is))
open_at mem of at (Some (Ended size)) is open_is shape = absurd (cc (open_is))
open_at mem of at (Some (Live block)) is open_is shape =
    let parts = both block.writable (nat_lt at (length block.parts)) open_is in
    let test : nat_lt at (length block.parts) ≡ true = parts.1 in
    let less : at < length block.parts = grind (arith, nat_tests, test) in
    record {
      block = block;
      there = is;
      within = less;
      place = shape ∙ ap (λ o. and_then (place_in (writing_bytes 1) of (pos at)) (or_stuck o)) is ∙ ap (and_then (λ found. Gives (record { of = of; block = block; offset = found }))) (offset_there block at parts.0 less);
    }

pub opened : (mem : MemoryData) (of : Name Sym) (at : ℕ) → is_open mem of at ≡ true → IsOpen mem of at
opened mem (name.Var symbol) at is = open_at mem (name.Var symbol) at (block_at mem (name.Var symbol)) refl is refl
opened mem (name.Func symbol) at is = absurd (cc (is))
opened mem (name.Made number) at is = open_at mem (name.Made number) at (block_at mem (name.Made number)) refl is refl

pub open_is_written : (mem : MemoryData) (of : Name Sym) (at byte : ℕ) (offset : ℤ) (o : IsOpen mem of at) → write_in mem at byte (val.At of offset) ≡ Gives (put_block mem of (with_parts o.block (replaced o.block.parts at (part.Num byte ∷ []))))
open_is_written mem of at byte offset o = ap (λ a. or_bad (and_then (λ place. Gives (written_at mem place (part.Num byte ∷ []))) a)) o.place

-- ---- what is open stays open

set_keeps : {A : Type 0} (G : Option A → Bool) (xs : List A) (k r : ℕ) (old new : A) → slice_get xs k ≡ Some old → G (Some new) ≡ G (Some old) → G (slice_get (set xs k new) r) ≡ G (slice_get xs r)
set_keeps G [] k r old new is same = refl
set_keeps G (x ∷ xs) zero zero old new is same = same ∙ ap G (sym is)
set_keeps G (x ∷ xs) zero (suc r) old new is same = refl
set_keeps G (x ∷ xs) (suc k) zero old new is same = refl
set_keeps G (x ∷ xs) (suc k) (suc r) old new is same = set_keeps G xs k r old new is same

alike : (old new : LiveBlock) (at : ℕ) → new.writable ≡ old.writable → length new.parts ≡ length old.parts → is_open_at (Some (Live new)) at ≡ is_open_at (Some (Live old)) at
alike old new at w l = ap (λ b. b && nat_lt at (length new.parts)) w ∙ ap (λ n. old.writable && nat_lt at n) l

row_keeps : (vars : List (List (Option LiveBlock))) (symbol other : Sym) (at : ℕ) (old new : LiveBlock) (o : Option (List (Option LiveBlock))) → slice_get vars symbol.module ≡ o
    → option_map Live (option_and_then (λ found. found) (option_and_then (λ row. slice_get row symbol.item) o)) ≡ Some (Live old) → new.writable ≡ old.writable → length new.parts ≡ length old.parts
    → is_open_at (option_map Live (option_and_then (λ found. found) (entry_at (set_in vars symbol new o) other))) at ≡ is_open_at (option_map Live (option_and_then (λ found. found) (entry_at vars other))) at
row_keeps vars symbol other at old new None is there w l = absurd (cc (there))
row_keeps vars symbol other at old new (Some row) is there w l =
    set_keeps (λ q. is_open_at (option_map Live (option_and_then (λ found. found) (option_and_then (λ row. slice_get row other.item) q))) at) vars symbol.module other.module row (set row symbol.item (Some new)) is
    (set_keeps (λ q. is_open_at (option_map Live (option_and_then (λ found. found) q)) at) row symbol.item other.item (Some old) (Some new) (found (slice_get row symbol.item) there) (alike old new at w l))
  where
    found : (q : Option (Option LiveBlock)) → option_map Live (option_and_then (λ found. found) q) ≡ Some (Live old) → q ≡ Some (Some old)
    found None e = absurd (cc (e))
    found (Some None) e = absurd (cc (e))
    found (Some (Some b)) e = let same : b ≡ old = cc (e) in ap (λ c. Some (Some c)) same

put_keeps : (mem : MemoryData) (of : Name Sym) (old new : LiveBlock) → block_at mem of ≡ Some (Live old) → new.writable ≡ old.writable → length new.parts ≡ length old.parts → (other : Name Sym) (at : ℕ) → is_open (put_block mem of new) other at ≡ is_open mem other at
put_keeps mem (name.Var symbol) old new is w l (name.Var other) at = row_keeps mem.vars symbol other at old new (slice_get mem.vars symbol.module) refl is w l
put_keeps mem (name.Var symbol) old new is w l (name.Func other) at = refl
put_keeps mem (name.Var symbol) old new is w l (name.Made other) at = refl
put_keeps mem (name.Func symbol) old new is w l other at = absurd (cc (is))
put_keeps mem (name.Made number) old new is w l (name.Var other) at = refl
put_keeps mem (name.Made number) old new is w l (name.Func other) at = refl
put_keeps mem (name.Made number) old new is w l (name.Made other) at = set_keeps (λ o. is_open_at o at) mem.made number other (Live old) (Live new) is (alike old new at w l)

length_replaced : (ps : List (Part Sym)) (at : ℕ) (x : Part Sym) → at < length ps → length (replaced ps at (x ∷ [])) ≡ length ps
length_replaced ps at x less = simp (length-append, length-take, length-drop) (omega arith)

-- A byte that is written leaves open what was open.
pub write_keeps : (mem : MemoryData) (of : Name Sym) (at byte : ℕ) (o : IsOpen mem of at) (other : Name Sym) (k : ℕ) → is_open (put_block mem of (with_parts o.block (replaced o.block.parts at (part.Num byte ∷ [])))) other k ≡ is_open mem other k
write_keeps mem of at byte o other k =
    put_keeps mem of o.block (with_parts o.block (replaced o.block.parts at (part.Num byte ∷ []))) o.there refl (length_replaced o.block.parts at (part.Num byte) o.within) other k

-- ---- all bytes

-- what writing one of them does
pub record Wrote (mem : MemoryData) (args : List (Val Sym)) (w : ℕ × ℕ × ℕ) : Type 0 where
  pub next : MemoryData
  pub gives : write_one mem w (slice_get args w.0) ≡ Gives next
  pub keeps : (other : Name Sym) (k : ℕ) → is_open next other k ≡ is_open mem other k

pub wrote : (mem : MemoryData) (args : List (Val Sym)) (w : ℕ × ℕ × ℕ) → may_write mem args w ≡ true → Wrote mem args w
wrote mem args w is = by (slice_get args w.0) refl is where
  by : (v : Option (Val Sym)) → slice_get args w.0 ≡ v → is_open_in mem v w.1 ≡ true → Wrote mem args w
  by None at is = absurd (cc (is))
  by (Some (val.Num n)) at is = absurd (cc (is))
  by (Some val.Null) at is = absurd (cc (is))
  by (Some (val.At of offset)) at is =
      let o = opened mem of w.1 is in
      record {
        next = put_block mem of (with_parts o.block (replaced o.block.parts w.1 (part.Num w.2 ∷ [])));
        gives = ap (write_one mem w) at ∙ open_is_written mem of w.1 w.2 offset o;
        keeps = write_keeps mem of w.1 w.2 o;
      }
  by (Some val.Poison) at is = absurd (cc (is))

open_in_keeps : (mem next : MemoryData) → ((other : Name Sym) (k : ℕ) → is_open next other k ≡ is_open mem other k) → (v : Option (Val Sym)) (k : ℕ) → is_open_in next v k ≡ is_open_in mem v k
open_in_keeps mem next keeps None k = refl
open_in_keeps mem next keeps (Some (val.Num n)) k = refl
open_in_keeps mem next keeps (Some val.Null) k = refl
open_in_keeps mem next keeps (Some (val.At of offset)) k = keeps of k
open_in_keeps mem next keeps (Some val.Poison) k = refl

pub all_keep : (mem next : MemoryData) → ((other : Name Sym) (k : ℕ) → is_open next other k ≡ is_open mem other k) → (args : List (Val Sym)) (ws : List (ℕ × ℕ × ℕ)) → may_write_all next args ws ≡ may_write_all mem args ws
all_keep mem next keeps args [] = refl
all_keep mem next keeps args (w ∷ ws) =
    ap (λ b. b && may_write_all next args ws) (open_in_keeps mem next keeps (slice_get args w.0) w.1) ∙ ap (λ b. may_write mem args w && b) (all_keep mem next keeps args ws)

pub none_written : (args : List (Val Sym)) (ws : List (ℕ × ℕ × ℕ)) (mem : MemoryData) → may_write_all mem args ws ≡ false → write_all args ws mem ≡ bad
none_written args [] mem is = absurd (cc (is))
none_written args (w ∷ ws) mem is = by (may_write mem args w) refl (none_written args ws) is where
  by : (b : Bool) → may_write mem args w ≡ b → ((next : MemoryData) → may_write_all next args ws ≡ false → write_all args ws next ≡ bad) → b && may_write_all mem args ws ≡ false → and_then (write_all args ws) (write_one mem w (slice_get args w.0)) ≡ bad
  by true first more is =
      let one = wrote mem args w first in
      ap (and_then (write_all args ws)) one.gives ∙ more one.next (all_keep mem one.next one.keeps args ws ∙ is)
  by false first more is = ap (and_then (write_all args ws)) (closed_is_bad mem w (slice_get args w.0) first)

-- ---- as the code looks at it

extent_at : (mem : MemoryData) (of : Name Sym) → IsBytes of → extent mem of ≡ option_map extent_of (block_at mem of)
extent_at mem (name.Var symbol) bytes = refl
extent_at mem (name.Func symbol) bytes = absurd bytes
extent_at mem (name.Made number) bytes = refl

-- a block with this extent
pub record HasExtent (mem : MemoryData) (of : Name Sym) (size : ℕ) (live : Bool) : Type 0 where
  pub block : MemoryBlock
  pub there : block_at mem of ≡ Some block
  pub has_size : size_of block ≡ size
  pub has_life : is_live block ≡ live

pub has_extent : (mem : MemoryData) (of : Name Sym) (size : ℕ) (live : Bool) → IsBytes of → extent mem of ≡ Some (record { size = size; live = live }) → HasExtent mem of size live
has_extent mem of size live bytes is = by (block_at mem of) refl (sym (extent_at mem of bytes) ∙ is) where
  by : (o : Option MemoryBlock) → block_at mem of ≡ o → option_map extent_of o ≡ Some (record { size = size; live = live }) → HasExtent mem of size live
  by None at e = absurd (cc (e))
  by (Some b) at e =
      let same : extent_of b ≡ record { size = size; live = live } = cc (e) in
      record { block = b; there = at; has_size = ap (λ (x : Extent). x.size) same; has_life = ap (λ (x : Extent). x.live) same }

pub live_block : (mem : MemoryData) (of : Name Sym) (size : ℕ) (live : Bool) → live ≡ true → HasExtent mem of size live → (block : LiveBlock) × (block_at mem of ≡ Some (Live block)) × (length block.parts ≡ size)
live_block mem of size live is h = by h.block h.there h.has_size (h.has_life ∙ is) where
  by : (b : MemoryBlock) → block_at mem of ≡ Some b → size_of b ≡ size → is_live b ≡ true → (block : LiveBlock) × (block_at mem of ≡ Some (Live block)) × (length block.parts ≡ size)
  by (Live block) at n l = (block, at, n)
  by (Ended k) at n l = absurd (cc (l))

pub is_live_block : (mem : MemoryData) (of : Name Sym) (block : LiveBlock) → block_at mem of ≡ Some (Live block) → IsLiveBlock (block_at mem of)
is_live_block mem of block at = subst IsLiveBlock (sym at) tt

pub ended_is_closed : (mem : MemoryData) (of : Name Sym) (size at : ℕ) (live : Bool) → live ≡ false → HasExtent mem of size live → is_open_at (block_at mem of) at ≡ false
ended_is_closed mem of size at live is h = ap (λ o. is_open_at o at) h.there ∙ by h.block (h.has_life ∙ is) where
  by : (b : MemoryBlock) → is_live b ≡ false → is_open_at (Some b) at ≡ false
  by (Live block) l = absurd (cc (l))
  by (Ended k) l = refl

pub open_is : (mem : MemoryData) (of : Name Sym) (block : LiveBlock) (size at : ℕ) → block_at mem of ≡ Some (Live block) → length block.parts ≡ size → is_open_at (block_at mem of) at ≡ block.writable && nat_lt at size
open_is mem of block size at is n = ap (λ o. is_open_at o at) is ∙ ap (λ k. block.writable && nat_lt at k) n

-- one byte more
pub each_next : (args : List (Val Sym)) (all : List (ℕ × ℕ × ℕ)) (i : ℕ) (d : ℕ × ℕ × ℕ) (mem next : MemoryData) → i < length all → may_write_all mem args (drop i all) ≡ true → write_one mem (get_or all i d) (slice_get args (get_or all i d).0) ≡ Gives next
    → (may_write_all next args (drop (i + 1) all) ≡ true) × (write_all args (drop (i + 1) all) next ≡ write_all args (drop i all) mem)
each_next args all i d mem next within is gives =
    let split : drop i all ≡ get_or all i d ∷ drop (i + 1) all = drop-cons all i d within ∙ ap (λ k. get_or all i d ∷ drop k all) (sym (add-one i)) in
    let here = both (may_write mem args (get_or all i d)) (may_write_all mem args (drop (i + 1) all)) (sym (ap (may_write_all mem args) split) ∙ is) in
    let one = wrote mem args (get_or all i d) here.0 in
    let same : one.next ≡ next = given one.next (sym one.gives ∙ gives) in
    let keeps = all_keep mem one.next one.keeps args (drop (i + 1) all) in (
      ap (λ (m : MemoryData). may_write_all m args (drop (i + 1) all)) (sym same) ∙ keeps ∙ here.1,
      sym (ap (λ l. write_all args l mem) split ∙ ap (and_then (write_all args (drop (i + 1) all))) gives),
    )
  where
    given : (m : MemoryData) → ◌≡◌ {A = Answer MemoryData} (Gives m) (Gives next) → m ≡ next
    given m e = cc (e)

-- ---- a byte as the code writes it

-- the argument that a write names
pub record IsWrite (mem : MemoryData) (args : List (Val Sym)) (w : ℕ × ℕ × ℕ) : Type 0 where
  pub of : Name Sym
  pub offset : ℤ
  pub at : slice_get args w.0 ≡ Some (val.At of offset)
  pub is_open : IsOpen mem of w.1

pub is_write : (mem : MemoryData) (args : List (Val Sym)) (w : ℕ × ℕ × ℕ) → may_write mem args w ≡ true → IsWrite mem args w
is_write mem args w is = by (slice_get args w.0) refl is where
  by : (v : Option (Val Sym)) → slice_get args w.0 ≡ v → is_open_in mem v w.1 ≡ true → IsWrite mem args w
  by None at is = absurd (cc (is))
  by (Some (val.Num n)) at is = absurd (cc (is))
  by (Some val.Null) at is = absurd (cc (is))
  by (Some (val.At of offset)) at is = record { of = of; offset = offset; at = at; is_open = opened mem of w.1 is }
  by (Some val.Poison) at is = absurd (cc (is))

pub has_byte : (mem : MemoryData) (args : List (Val Sym)) (w : ℕ × ℕ × ℕ) (h : IsWrite mem args w) (of : Name Sym) → of ≡ h.of → HasBytes (block_at mem of) w.1 1
has_byte mem args w h of e =
    let there : block_at mem of ≡ Some (Live h.is_open.block) = ap (block_at mem) e ∙ h.is_open.there in
    let within = h.is_open.within in
    subst (λ o. HasBytes o w.1 1) (sym there) (omega arith)

pub byte_written : (mem : MemoryData) (args : List (Val Sym)) (w : ℕ × ℕ × ℕ) (h : IsWrite mem args w) (of : Name Sym) (new : MemoryData) → of ≡ h.of
    → ((block : LiveBlock) → block_at mem of ≡ Some (Live block) → new ≡ put_block mem of (with_parts block (set_from block.parts w.1 (replicate 1 (part.Num w.2))))) → write_one mem w (slice_get args w.0) ≡ Gives new
byte_written mem args w h of new e wrote =
    let block = h.is_open.block in
    let within = h.is_open.within in
    let there : block_at mem of ≡ Some (Live block) = ap (block_at mem) e ∙ h.is_open.there in
    let parts = set_from-replaced block.parts w.1 (part.Num w.2 ∷ []) (omega arith) in
    let new_is = wrote block there ∙ ap (λ o. put_block mem o (with_parts block (set_from block.parts w.1 (part.Num w.2 ∷ [])))) e ∙ ap (λ ps. put_block mem h.of (with_parts block ps)) parts in
    ap (write_one mem w) h.at ∙ open_is_written mem h.of w.1 w.2 h.offset h.is_open ∙ ap Gives (sym new_is)

-- what is looked at there
pub found_at : (args : List (Val Sym)) (k : ℕ) (v w d : Val Sym) → slice_get args k ≡ Some v → get_or args k d ≡ w → v ≡ w
found_at args k v w d at is = sym (get_or_from_slice_get args k v d at) ∙ is

pub same_name : (of other : Name Sym) (a b : ℤ) → val.At of a ≡ val.At other b → of ≡ other
same_name of other a b e = cc (e)
