-- Memory that fits still fits with other bytes in a block, and an access in it is safe.
use Rattle.std.proofs.Common.{◌≡◌, ◌∙◌, ℕ, zero, suc, ◌+◌, ◌≤◌, Bool, false, ℤ, pos, negsuc, List, [], ◌∷◌, ◌++◌, length, set, take, drop, All, IsSome, slice_get, Option, Some, None, option_map, option_and_then, refl, sym, subst, arith, length-set}
use Rattle.std.proofs.lemmas.Bool.{false≢true, ltb-false}
use Rattle.std.proofs.lemmas.List.Elements.{All-append, All-take, All-drop}
use Rattle.std.proofs.lemmas.Option.{same_Some}
use Rattle.ir_types.specs.declared.scalar.Scalar.TheVariants.{Ptr}
use Rattle.ir_syntax.specs.declared.symbol.Sym.{Sym}
use Rattle.ir_syntax.specs.Programs.{ProgramData}
use Rattle.ir_syntax.specs.Symbols.{item_at}
use Rattle.ir_syntax.specs.Targets.{entry_at}
use Rattle.int_ops.specs.declared.cause.Cause.{Cause}
use Rattle.int_ops.specs.declared.cause.Cause.TheVariants as cause
use Rattle.block_memory.specs.declared.value.Name.{Name}
use Rattle.block_memory.specs.declared.value.Name.TheVariants as name
use Rattle.block_memory.specs.declared.value.Val.{Val}
use Rattle.block_memory.specs.declared.value.Val.TheVariants as val
use Rattle.block_memory.specs.declared.value.Part.{Part}
use Rattle.block_memory.specs.Answers.{Gives, Undefined, unless}
use Rattle.block_memory.specs.Blocks.{LiveBlock, MemoryBlock, Live, Ended, MemoryData, var_at, block_at, with_parts, set_in, put_block}
use Rattle.block_memory.specs.Accesses.{Access, Place, is_outside, is_misaligned, is_read_only, offset_in, place_in, place_under, place_of, replaced, written_at}
use Rattle.ir_steps.proofs.Fits.{IsDefinedVar, IsThere, IsValue, IsPart, Has, MemoryFits, StillFits}
use Rattle.ir_steps.proofs.Safely.{Safe, safe_then, safe_when, safe_read}
use Rattle.ir_steps.proofs.Values.{pointer_is_no_number}

-- ---- lists with one element changed

-- What held at a place still holds, if it goes from the old element to the new one.
pub set_keeps : {A : Type 0} (P : Option A → Type 0) (xs : List A) (k r : ℕ) (old new : A) → slice_get xs k ≡ Some old → (P (Some old) → P (Some new)) → P (slice_get xs r) → P (slice_get (set xs k new) r)
set_keeps P [] k r old new e goes h = h
set_keeps P (x ∷ xs) zero zero old new e goes h = goes (subst (λ y. P (Some y)) (same_Some x old e) h)
set_keeps P (x ∷ xs) zero (suc r) old new e goes h = h
set_keeps P (x ∷ xs) (suc k) zero old new e goes h = h
set_keeps P (x ∷ xs) (suc k) (suc r) old new e goes h = set_keeps P xs k r old new e goes h

pub set_holds : {A : Type 0} (P : Option A → Type 0) (xs : List A) (k r : ℕ) (new : A) → P (Some new) → P (slice_get xs r) → P (slice_get (set xs k new) r)
set_holds P [] k r new n h = h
set_holds P (x ∷ xs) zero zero new n h = n
set_holds P (x ∷ xs) zero (suc r) new n h = h
set_holds P (x ∷ xs) (suc k) zero new n h = h
set_holds P (x ∷ xs) (suc k) (suc r) new n h = set_holds P xs k r new n h

-- the same of what stands at a symbol's place
entry_holds : (P : Option (Option LiveBlock) → Type 0) (vars : List (List (Option LiveBlock))) (a s : Sym) (block : LiveBlock) (row : Option (List (Option LiveBlock)))
    → slice_get vars a.module ≡ row → P (Some (Some block)) → P (entry_at vars s) → P (entry_at (set_in vars a block row) s)
entry_holds P vars a s block None e new h = h
entry_holds P vars a s block (Some row) e new h =
    set_keeps (λ o. P (option_and_then (λ r. slice_get r s.item) o)) vars a.module s.module row (set row a.item (Some block)) e
    (λ k. set_holds P row a.item s.item (Some block) new k) h

-- ---- what memory is to keep, name by name

-- The bytes of the block, where there is a live one, are parts.
abbrev pub BlockFits : ProgramData → ℕ → Option MemoryBlock → Type 0
BlockFits p made None = Unit {0}
BlockFits p made (Some (Live block)) = All (IsPart p made) block.parts
BlockFits p made (Some (Ended size)) = Unit {0}

block_fits_by : (p : ProgramData) (mem : MemoryData) (of : Name Sym) (o : Option MemoryBlock) → block_at mem of ≡ o → MemoryFits p mem → BlockFits p (length mem.made) o
block_fits_by p mem of None e fits = tt
block_fits_by p mem of (Some (Live block)) e fits = fits.parts of block e
block_fits_by p mem of (Some (Ended size)) e fits = tt

pub block_fits : (p : ProgramData) (mem : MemoryData) (of : Name Sym) → MemoryFits p mem → BlockFits p (length mem.made) (block_at mem of)
block_fits p mem of fits = block_fits_by p mem of (block_at mem of) refl fits

pub fits_from : (p : ProgramData) (mem : MemoryData) → ((symbol : Sym) → IsDefinedVar (item_at p.modules symbol) → IsSome (var_at mem symbol))
    → ((of : Name Sym) → BlockFits p (length mem.made) (block_at mem of)) → MemoryFits p mem
fits_from p mem vars blocks = record { vars = vars; parts = λ of block e. subst (BlockFits p (length mem.made)) e (blocks of) }

pub still_same : (p : ProgramData) (mem : MemoryData) → MemoryFits p mem → StillFits p mem mem
still_same p mem fits = record { fits = fits; same_made = refl }

pub still_then : (p : ProgramData) (a b c : MemoryData) → StillFits p a b → StillFits p b c → StillFits p a c
still_then p a b c h k = record { fits = k.fits; same_made = k.same_made ∙ h.same_made }

-- ---- another block under a name

var_put : (p : ProgramData) (mem : MemoryData) (symbol : Sym) (block : LiveBlock) → MemoryFits p mem → All (IsPart p (length mem.made)) block.parts → StillFits p mem (put_block mem (name.Var symbol) block)
var_put p mem symbol block fits h = record { fits = fits_from p (put_block mem (name.Var symbol) block) vars blocks; same_made = refl }
  where
    vars : (s : Sym) → IsDefinedVar (item_at p.modules s) → IsSome (var_at (put_block mem (name.Var symbol) block) s)
    vars s defined = entry_holds (λ o. IsSome (option_and_then (λ found. found) o)) mem.vars symbol s block (slice_get mem.vars symbol.module) refl refl (fits.vars s defined)

    blocks : (of : Name Sym) → BlockFits p (length mem.made) (block_at (put_block mem (name.Var symbol) block) of)
    blocks (name.Var s) =
        entry_holds (λ o. BlockFits p (length mem.made) (option_map Live (option_and_then (λ found. found) o))) mem.vars symbol s block (slice_get mem.vars symbol.module) refl h (block_fits p mem (name.Var s) fits)
    blocks (name.Func s) = tt
    blocks (name.Made number) = block_fits p mem (name.Made number) fits

-- another made block, live or ended
pub made_put : (p : ProgramData) (mem : MemoryData) (number : ℕ) (block : MemoryBlock) → MemoryFits p mem → BlockFits p (length mem.made) (Some block) → StillFits p mem (record mem { made = set mem.made number block })
made_put p mem number block fits h =
    let new : MemoryData = record mem { made = set mem.made number block } in
    let count : length (set mem.made number block) ≡ length mem.made = length-set mem.made number block in
    record {
      fits = fits_from p new fits.vars (λ of. subst (λ n. BlockFits p n (block_at new of)) (sym count) (blocks of));
      same_made = count;
    }
  where
    blocks : (of : Name Sym) → BlockFits p (length mem.made) (block_at (record mem { made = set mem.made number block }) of)
    blocks (name.Var s) = block_fits p mem (name.Var s) fits
    blocks (name.Func s) = tt
    blocks (name.Made k) = set_holds (BlockFits p (length mem.made)) mem.made number k block h (block_fits p mem (name.Made k) fits)

pub put_keeps : (p : ProgramData) (mem : MemoryData) (of : Name Sym) (block : LiveBlock) → MemoryFits p mem → All (IsPart p (length mem.made)) block.parts → StillFits p mem (put_block mem of block)
put_keeps p mem (name.Var symbol) block fits h = var_put p mem symbol block fits h
put_keeps p mem (name.Func symbol) block fits h = still_same p mem fits
put_keeps p mem (name.Made number) block fits h = made_put p mem number (Live block) fits h

-- ---- blocks that are there

block_there : (p : ProgramData) (made : ℕ) (o : Option MemoryBlock) → IsSome o → BlockFits p made o → Has (λ block. BlockFits p made (Some block)) o
block_there p made None some h = absurd (false≢true some)
block_there p made (Some block) some h = h

is_some_get : {A : Type 0} (xs : List A) (k : ℕ) → suc k ≤ length xs → IsSome (slice_get xs k)
is_some_get [] k l = absurd (omega arith)
is_some_get (x ∷ xs) zero l = refl
is_some_get (x ∷ xs) (suc k) l = is_some_get xs k (omega arith)

is_some_map : {A B : Type 0} (f : A → B) (o : Option A) → IsSome o → IsSome (option_map f o)
is_some_map f None some = absurd (false≢true some)
is_some_map f (Some x) some = refl

pub var_there : (p : ProgramData) (mem : MemoryData) (symbol : Sym) → MemoryFits p mem → IsThere p (length mem.made) (name.Var symbol)
    → Has (λ block. BlockFits p (length mem.made) (Some block)) (block_at mem (name.Var symbol))
var_there p mem symbol fits h =
    block_there p (length mem.made) (block_at mem (name.Var symbol)) (is_some_map Live (var_at mem symbol) (fits.vars symbol h)) (block_fits p mem (name.Var symbol) fits)

pub made_there : (p : ProgramData) (mem : MemoryData) (number : ℕ) → MemoryFits p mem → IsThere p (length mem.made) (name.Made number)
    → Has (λ block. BlockFits p (length mem.made) (Some block)) (block_at mem (name.Made number))
made_there p mem number fits h =
    block_there p (length mem.made) (block_at mem (name.Made number)) (is_some_get mem.made number (omega arith)) (block_fits p mem (name.Made number) fits)

-- ---- accesses

-- The access goes within a live block, whose bytes are parts.
pub record Accessed (p : ProgramData) (mem : MemoryData) (bytes : ℕ) (place : Place) : Type 0 where
  pub parts : All (IsPart p (length mem.made)) place.block.parts
  pub within : place.offset + bytes ≤ length place.block.parts

pub unless_safe : {A : Type 0} (P : A → Type 0) (rows : List (Cause × Bool)) (x : A) → P x → Safe P (unless rows x)
unless_safe P [] x h = h
unless_safe P (row ∷ rows) x h = safe_when P row.1 (Undefined row.0) (unless rows x) (λ yes. tt) (λ not_so. unless_safe P rows x h)

-- The first cause doesn't hold where there is a value.
unless_first : {A : Type 0} (P : A → Type 0) (why : Cause) (holds : Bool) (rows : List (Cause × Bool)) (x : A) → (holds ≡ false → P x) → Safe P (unless ((why, holds) ∷ rows) x)
unless_first P why holds rows x h = safe_when P holds (Undefined why) (unless rows x) (λ yes. tt) (λ not_so. unless_safe P rows x (h not_so))

offset_safe : (access : Access) (block : LiveBlock) (offset : ℤ) → Safe (λ at. at + access.bytes ≤ length block.parts) (offset_in access block offset)
offset_safe access block (negsuc below) = tt
offset_safe access block (pos offset) =
    unless_first (λ at. at + access.bytes ≤ length block.parts) cause.OutsideBlock (is_outside access block offset)
    ((cause.Misaligned, is_misaligned access offset) ∷ (cause.ReadOnly, is_read_only access block) ∷ []) offset
    (λ inside. omega (arith, ltb-false (length block.parts) (offset + access.bytes) inside))

in_block_safe : (p : ProgramData) (mem : MemoryData) (access : Access) (of : Name Sym) (offset : ℤ) (block : MemoryBlock) → BlockFits p (length mem.made) (Some block)
    → Safe (Accessed p mem access.bytes) (place_in access of offset block)
in_block_safe p mem access of offset (Ended size) h = tt
in_block_safe p mem access of offset (Live block) h =
    safe_then (λ at. at + access.bytes ≤ length block.parts) (Accessed p mem access.bytes) (λ at. Gives (record { of = of; block = block; offset = at })) (offset_in access block offset)
    (offset_safe access block offset) (λ at within. record { parts = h; within = within })

under_safe : (p : ProgramData) (mem : MemoryData) (access : Access) (of : Name Sym) (offset : ℤ) → MemoryFits p mem → IsThere p (length mem.made) of
    → Safe (Accessed p mem access.bytes) (place_under mem access of offset)
under_safe p mem access (name.Var symbol) offset fits h =
    safe_read (λ block. BlockFits p (length mem.made) (Some block)) (Accessed p mem access.bytes) (place_in access (name.Var symbol) offset) (block_at mem (name.Var symbol))
    (var_there p mem symbol fits h) (λ block k. in_block_safe p mem access (name.Var symbol) offset block k)
under_safe p mem access (name.Func symbol) offset fits h = tt
under_safe p mem access (name.Made number) offset fits h =
    safe_read (λ block. BlockFits p (length mem.made) (Some block)) (Accessed p mem access.bytes) (place_in access (name.Made number) offset) (block_at mem (name.Made number))
    (made_there p mem number fits h) (λ block k. in_block_safe p mem access (name.Made number) offset block k)

pub place_safe : (p : ProgramData) (mem : MemoryData) (access : Access) (at : Val Sym) → MemoryFits p mem → IsValue p (length mem.made) Ptr at
    → Safe (Accessed p mem access.bytes) (place_of mem access at)
place_safe p mem access (val.Num n) fits h = absurd (pointer_is_no_number n h)
place_safe p mem access val.Null fits h = tt
place_safe p mem access (val.At of offset) fits h = under_safe p mem access of offset fits h.1
place_safe p mem access val.Poison fits h = tt

-- ---- writes

-- Other bytes from a place on leave the memory fitting.
pub written_keeps : (p : ProgramData) (mem : MemoryData) (place : Place) (new : List (Part Sym)) → MemoryFits p mem → All (IsPart p (length mem.made)) place.block.parts
    → All (IsPart p (length mem.made)) new → StillFits p mem (written_at mem place new)
written_keeps p mem place new fits h k =
    let P = IsPart p (length mem.made) in
    let old = place.block.parts in
    let behind = drop (place.offset + length new) old in
    put_keeps p mem place.of (with_parts place.block (replaced old place.offset new)) fits
    (All-append P (take place.offset old ++ new) behind (All-append P (take place.offset old) new (All-take P place.offset old h) k) (All-drop P (place.offset + length new) old h))
