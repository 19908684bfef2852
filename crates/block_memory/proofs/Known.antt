-- Names of blocks: they stay those of blocks whatever a call changes, and a program's variables have blocks from the start.
use Rattle.std.proofs.Common.{◌≡◌, ℕ, zero, suc, ◌+◌, ◌==◌, not, ◌&&◌, Bool, true, false, ℤ, pos, negsuc, List, [], ◌∷◌, replicate, slice_get, slice_set, Option, Some, None, IsSome, option_map, option_and_then, Result, Ok, Err, OnErr, length-append, if◌then◌else◌, refl, ap, sym, subst, ◌∙◌, arith}
use Rattle.std.proofs.lemmas.List.{length-set}
use Rattle.ir_types.specs.declared.scalar.Scalar.{Scalar}
use Rattle.int_ops.specs.declared.cause.Cause.{Cause}
use Rattle.int_ops.specs.declared.cause.Cause.TheVariants as cause
use Rattle.ir_syntax.specs.declared.constant.Const.{Const}
use Rattle.ir_syntax.specs.declared.symbol.Sym.{Sym}
use Rattle.ir_syntax.specs.declared.item.Var.{Var}
use Rattle.ir_syntax.specs.declared.item.Item.{Item}
use Rattle.ir_syntax.specs.declared.item.Item.TheVariants as item
use Rattle.ir_syntax.specs.declared.item.Module.{Module}
use Rattle.ir_syntax.specs.InitialBytes.{InitialPart, initial_parts}
use Rattle.ir_syntax.specs.Programs.{ProgramData}
use Rattle.ir_syntax.specs.Symbols.{item_at}
use Rattle.block_memory.specs.declared.value.Name.{Name}
use Rattle.block_memory.specs.declared.value.Name.TheVariants as name
use Rattle.block_memory.specs.declared.value.Val.{Val}
use Rattle.block_memory.specs.declared.value.Val.TheVariants as val
use Rattle.block_memory.specs.declared.value.Part.{Part}
use Rattle.block_memory.specs.Answers.{Answer, Gives, Undefined, Stuck, and_then, or_stuck, unless, changed}
use Rattle.block_memory.specs.Blocks.{LiveBlock, MemoryBlock, Live, Ended, MemoryData, IsNamed, size_of, var_at, set_in, put_block}
use Rattle.block_memory.specs.Accesses.{Place, place_of, written_at, bytes_at}
use Rattle.block_memory.specs.Copies.{copy, copied, overlap, untouched, reading_bytes, writing_bytes}
use Rattle.block_memory.specs.Fills.{fill, filled, byte_of}
use Rattle.block_memory.specs.Making.{alloc, end, end_at, free, free_at, is_heap_at, new_block}
use Rattle.block_memory.specs.Parts.{is_value_of, parts_of}
use Rattle.block_memory.specs.Starts.{start, item_start, items_start, modules_start, variable_start, variable_block, named_parts}
use Rattle.block_memory.specs.Stores.{store, writing}

-- ---- one block changes

pub found_in : {A : Type 0} → Option (Option A) → Option A
found_in found = option_and_then (λ x. x) found

there_row : {A : Type 0} (row : List (Option A)) (item k : ℕ) (x : A) → IsSome (found_in (slice_get row k)) → IsSome (found_in (slice_get (slice_set row item (Some x)) k))
unfolding found_in
there_row [] item k x some = some
there_row (first ∷ row) zero zero x some = refl
there_row (first ∷ row) zero (suc k) x some = some
there_row (first ∷ row) (suc item) zero x some = some
there_row (first ∷ row) (suc item) (suc k) x some = there_row row item k x some

entry : {A : Type 0} → List (List (Option A)) → ℕ → ℕ → Option A
entry rows j k = found_in (option_and_then (λ row. slice_get row k) (slice_get rows j))

there_rows :
    {A : Type 0} (rows : List (List (Option A))) (m : ℕ) (row : List (Option A)) (item j k : ℕ) (x : A) → slice_get rows m ≡ Some row → IsSome (entry rows j k) →
    IsSome (entry (slice_set rows m (slice_set row item (Some x))) j k)
unfolding entry
there_rows [] m row item j k x is some = some
there_rows (first ∷ rows) zero row item zero k x is some =
    let same : first ≡ row = cc (is) in
    there_row row item k x (subst (λ (r : List _). IsSome (found_in (slice_get r k))) same some)
there_rows (first ∷ rows) zero row item (suc j) k x is some = some
there_rows (first ∷ rows) (suc m) row item zero k x is some = some
there_rows (first ∷ rows) (suc m) row item (suc j) k x is some = there_rows rows m row item j k x is some

-- What was a block's name is one again.
abbrev pub Keeps : MemoryData → MemoryData → Type 0
Keeps old new = (of : Name Sym) → IsNamed old of → IsNamed new of

keeps_var : (mem : MemoryData) (symbol other : Sym) (block : LiveBlock) (row : Option (List (Option LiveBlock))) → slice_get mem.vars symbol.module ≡ row → IsSome (var_at mem other) →
    IsSome (var_at (record mem { vars = set_in mem.vars symbol block row }) other)
unfolding found_in entry
keeps_var mem symbol other block None is some = some
keeps_var mem symbol other block (Some row) is some = there_rows mem.vars symbol.module row symbol.item other.module other.item block is some

pub keeps_put : (mem : MemoryData) (of : Name Sym) (block : LiveBlock) → Keeps mem (put_block mem of block)
keeps_put mem (name.Var symbol) block (name.Var other) named = keeps_var mem symbol other block (slice_get mem.vars symbol.module) refl named
keeps_put mem (name.Var symbol) block (name.Func other) named = named
keeps_put mem (name.Var symbol) block (name.Made number) named = named
keeps_put mem (name.Func symbol) block other named = named
keeps_put mem (name.Made number) block (name.Var other) named = named
keeps_put mem (name.Made number) block (name.Func other) named = named
keeps_put mem (name.Made number) block (name.Made other) named = omega (arith, length-set mem.made number (Live block), named)

-- ---- what calls change

keeps_same : (old new : MemoryData) → old ≡ new → Keeps old new
keeps_same old new same = subst (λ (m : MemoryData). Keeps old m) same (λ of named. named)

keeps_written : (mem new : MemoryData) (bytes : Place → List (Part Sym)) (found : Answer Place) → and_then (λ place. Gives (written_at mem place (bytes place))) found ≡ Gives new → Keeps mem new
keeps_written mem new bytes (Gives place) is =
    let made : written_at mem place (bytes place) ≡ new = cc (is) in
    subst (λ (m : MemoryData). Keeps mem m) made (keeps_put mem place.of _)
keeps_written mem new bytes (Undefined cause) is = absurd (cc)
keeps_written mem new bytes Stuck is = absurd (cc)

keeps_untouched : (old mem new : MemoryData) (at : Val Sym) → Keeps old mem → untouched mem at ≡ Gives new → Keeps old new
keeps_untouched old mem new (val.Num n) keeps is = absurd (cc)
keeps_untouched old mem new val.Null keeps is = let same : mem ≡ new = cc (is) in subst (λ (m : MemoryData). Keeps old m) same keeps
keeps_untouched old mem new (val.At of offset) keeps is = let same : mem ≡ new = cc (is) in subst (λ (m : MemoryData). Keeps old m) same keeps
keeps_untouched old mem new val.Poison keeps is = absurd (cc)

-- a call that answers a memory keeps names where each memory that it may answer does
keeps_changed :
    (old new : MemoryData) (given : Answer MemoryData) (result : Result (Unit {0}) Cause) → ((m : MemoryData) → given ≡ Gives m → Keeps old m) → given ≡ changed new result → OnErr result (new ≡ old) → Keeps old new
keeps_changed old new given (Ok done) so is unchanged = so new is
keeps_changed old new given (Err cause) so is unchanged = keeps_same old new (sym unchanged)

keeps_stored : (mem new : MemoryData) (ty : Scalar) (align : ℕ) (value at : Val Sym) (fits : Bool) →
    (if fits then and_then (λ place. Gives (written_at mem place (parts_of ty value))) (place_of mem (writing ty align) at) else Stuck) ≡ Gives new → Keeps mem new
keeps_stored mem new ty align value at true is = keeps_written mem new (λ place. parts_of ty value) (place_of mem (writing ty align) at) is
keeps_stored mem new ty align value at false is = absurd (cc)

pub keeps_store :
    (old new : MemoryData) (ty : Scalar) (align : ℕ) (value at : Val Sym) (result : Result (Unit {0}) Cause) → store old ty align value at ≡ changed new result → OnErr result (new ≡ old) → Keeps old new
keeps_store old new ty align value at result = keeps_changed old new (store old ty align value at) result (λ m is. keeps_stored old m ty align value at (is_value_of ty value) is)

keeps_filled : (mem new : MemoryData) (to : Val Sym) (len : ℕ) (none : Bool) (byte : Part Sym) →
    (if none then untouched mem to else and_then (λ place. Gives (written_at mem place (replicate len byte))) (place_of mem (writing_bytes len) to)) ≡ Gives new → Keeps mem new
keeps_filled mem new to len true byte is = keeps_untouched mem mem new to (λ of named. named) is
keeps_filled mem new to len false byte is = keeps_written mem new (λ place. replicate len byte) (place_of mem (writing_bytes len) to) is

keeps_byte : (mem new : MemoryData) (to : Val Sym) (len : ℕ) (byte : Option (Part Sym)) → and_then (filled mem to len) (or_stuck byte) ≡ Gives new → Keeps mem new
keeps_byte mem new to len None is = absurd (cc)
keeps_byte mem new to len (Some byte) is = keeps_filled mem new to len (len == 0) byte is

pub keeps_fill : (old new : MemoryData) (to byte : Val Sym) (len : ℕ) (result : Result (Unit {0}) Cause) → fill old to byte len ≡ changed new result → OnErr result (new ≡ old) → Keeps old new
keeps_fill old new to byte len result = keeps_changed old new (fill old to byte len) result (λ m is. keeps_byte old m to len (byte_of byte) is)

keeps_unless : (mem written new : MemoryData) (refused : Bool) → unless ((cause.Overlap, refused) ∷ []) written ≡ Gives new → Keeps mem written → Keeps mem new
keeps_unless mem written new true is keeps = absurd (cc)
keeps_unless mem written new false is keeps = let same : written ≡ new = cc (is) in subst (λ (m : MemoryData). Keeps mem m) same keeps

keeps_read : (mem new : MemoryData) (len : ℕ) (may_overlap : Bool) (to : Place) (from : Answer Place) → and_then (copied mem len may_overlap to) from ≡ Gives new → Keeps mem new
keeps_read mem new len may_overlap to (Gives from) is =
    keeps_unless mem (written_at mem to (bytes_at from len)) new (not may_overlap && overlap len to from) is (keeps_put mem to.of _)
keeps_read mem new len may_overlap to (Undefined cause) is = absurd (cc)
keeps_read mem new len may_overlap to Stuck is = absurd (cc)

keeps_places : (mem new : MemoryData) (len : ℕ) (may_overlap : Bool) (to from : Answer Place) → and_then (λ written. and_then (copied mem len may_overlap written) from) to ≡ Gives new → Keeps mem new
keeps_places mem new len may_overlap (Gives to) from is = keeps_read mem new len may_overlap to from is
keeps_places mem new len may_overlap (Undefined cause) from is = absurd (cc)
keeps_places mem new len may_overlap Stuck from is = absurd (cc)

keeps_both : (mem new : MemoryData) (from : Val Sym) (same : Answer MemoryData) → ((m : MemoryData) → same ≡ Gives m → Keeps mem m) → and_then (λ kept. untouched kept from) same ≡ Gives new → Keeps mem new
keeps_both mem new from (Gives kept) so is = keeps_untouched mem kept new from (so kept refl) is
keeps_both mem new from (Undefined cause) so is = absurd (cc)
keeps_both mem new from Stuck so is = absurd (cc)

keeps_copied : (mem new : MemoryData) (to from : Val Sym) (len : ℕ) (may_overlap none : Bool) →
    (if none then and_then (λ same. untouched same from) (untouched mem to) else and_then (λ written. and_then (copied mem len may_overlap written) (place_of mem (reading_bytes len) from)) (place_of mem (writing_bytes len) to)) ≡ Gives new →
    Keeps mem new
keeps_copied mem new to from len may_overlap true is = keeps_both mem new from (untouched mem to) (λ m same. keeps_untouched mem mem m to (λ of named. named) same) is
keeps_copied mem new to from len may_overlap false is = keeps_places mem new len may_overlap (place_of mem (writing_bytes len) to) (place_of mem (reading_bytes len) from) is

pub keeps_copy :
    (old new : MemoryData) (to from : Val Sym) (len : ℕ) (may_overlap : Bool) (result : Result (Unit {0}) Cause) → copy old to from len may_overlap ≡ changed new result → OnErr result (new ≡ old) → Keeps old new
keeps_copy old new to from len may_overlap result = keeps_changed old new (copy old to from len may_overlap) result (λ m is. keeps_copied old m to from len may_overlap (len == 0) is)

pub keeps_alloc : (mem : MemoryData) (size : ℕ) (heap zeroed : Bool) → Keeps mem (alloc mem size heap zeroed)
keeps_alloc mem size heap zeroed (name.Var symbol) named = named
keeps_alloc mem size heap zeroed (name.Func symbol) named = named
keeps_alloc mem size heap zeroed (name.Made number) named = omega (arith, length-append mem.made (Live (new_block size heap zeroed) ∷ []), named)

keeps_end_at : (mem : MemoryData) (number : ℕ) (found : Option MemoryBlock) → Keeps mem (end_at mem number found)
keeps_end_at mem number None of named = named
keeps_end_at mem number (Some block) (name.Var symbol) named = named
keeps_end_at mem number (Some block) (name.Func symbol) named = named
keeps_end_at mem number (Some block) (name.Made other) named = omega (arith, length-set mem.made number (Ended (size_of block)), named)

pub keeps_end : (mem : MemoryData) (number : ℕ) → Keeps mem (end mem number)
keeps_end mem number = keeps_end_at mem number (slice_get mem.made number)

keeps_if : (mem new : MemoryData) (number : ℕ) (heap : Bool) → (if heap then Gives (end mem number) else Undefined cause.BadFree) ≡ Gives new → Keeps mem new
keeps_if mem new number true is = let same : end mem number ≡ new = cc (is) in subst (λ (m : MemoryData). Keeps mem m) same (keeps_end mem number)
keeps_if mem new number false is = absurd (cc)

keeps_free_at : (mem new : MemoryData) (of : Name Sym) (offset : ℤ) → free_at mem of offset ≡ Gives new → Keeps mem new
keeps_free_at mem new (name.Var symbol) offset is = absurd (cc)
keeps_free_at mem new (name.Func symbol) offset is = absurd (cc)
keeps_free_at mem new (name.Made number) (pos zero) is = keeps_if mem new number (is_heap_at (slice_get mem.made number)) is
keeps_free_at mem new (name.Made number) (pos (suc n)) is = absurd (cc)
keeps_free_at mem new (name.Made number) (negsuc n) is = absurd (cc)

keeps_freed : (mem new : MemoryData) (at : Val Sym) → free mem at ≡ Gives new → Keeps mem new
keeps_freed mem new (val.Num n) is = absurd (cc)
keeps_freed mem new val.Null is = keeps_same mem new (cc (is))
keeps_freed mem new (val.At of offset) is = keeps_free_at mem new of offset is
keeps_freed mem new val.Poison is = absurd (cc)

pub keeps_free : (old new : MemoryData) (at : Val Sym) (result : Result (Unit {0}) Cause) → free old at ≡ changed new result → OnErr result (new ≡ old) → Keeps old new
keeps_free old new at result = keeps_changed old new (free old at) result (λ m is. keeps_freed old m at is)

-- ---- the start

record IsConsOf {A : Type 0} (one : Option A) (others : Option (List A)) (all : List A) : Type 0 where
  first : A
  rest : List A
  one_is : one ≡ Some first
  others_are : others ≡ Some rest
  all_are : all ≡ first ∷ rest

cons_of : {A : Type 0} (one : Option A) (others : Option (List A)) (all : List A) → option_and_then (λ x. option_map (λ xs. x ∷ xs) others) one ≡ Some all → IsConsOf one others all
cons_of None others all is = absurd (cc)
cons_of (Some x) None all is = absurd (cc)
cons_of (Some x) (Some xs) all is = record { first = x; rest = xs; one_is = refl; others_are = refl; all_are = cc (is) }

started_variable : (p : ProgramData) (home : ℕ) (var : Var) (parts : Option (List InitialPart)) (block : Option LiveBlock) → IsSome parts → variable_start p home var parts ≡ Some block → IsSome block
started_variable p home var None block some is = absurd (cc)
started_variable p home var (Some parts) block some is = by (named_parts p home parts) is where
  by : (named : Option (List (Part Sym))) → option_map (λ bytes. Some (variable_block var bytes)) named ≡ Some block → IsSome block
  by None is = absurd (cc)
  by (Some bytes) is = let same : Some (variable_block var bytes) ≡ block = cc (is) in subst (λ (b : Option LiveBlock). IsSome b) same refl

started_item : (p : ProgramData) (home : ℕ) (items : List Item) (blocks : List (Option LiveBlock)) (k : ℕ) (var : Var) (init : Const) → items_start p home items ≡ Some blocks →
    slice_get items k ≡ Some (item.Var var) → var.init ≡ Some init → IsSome (found_in (slice_get blocks k))
unfolding found_in
started_item p home [] blocks k var init is there defined = absurd (cc)
started_item p home (first ∷ items) blocks zero var init is there defined =
    let parts : IsConsOf (item_start p home first) (items_start p home items) blocks = cons_of (item_start p home first) (items_start p home items) blocks is in
    let same : first ≡ item.Var var = cc (there) in
    let one : item_start p home (item.Var var) ≡ Some parts.first = ap (item_start p home) (sym same) ∙ parts.one_is in
    subst (λ (bs : List (Option LiveBlock)). IsSome (found_in (slice_get bs zero))) (sym parts.all_are)
    (started_variable p home var (option_map (λ c. initial_parts c var.ty) var.init) parts.first (ap (λ i. is_some_of (option_map (λ c. initial_parts c var.ty) i)) defined) one)
  where
    is_some_of : Option (List InitialPart) → Bool
    is_some_of None = false
    is_some_of (Some parts) = true
started_item p home (first ∷ items) blocks (suc k) var init is there defined =
    let parts : IsConsOf (item_start p home first) (items_start p home items) blocks = cons_of (item_start p home first) (items_start p home items) blocks is in
    subst (λ (bs : List (Option LiveBlock)). IsSome (found_in (slice_get bs (suc k)))) (sym parts.all_are) (started_item p home items parts.rest k var init parts.others_are there defined)

started_row : (p : ProgramData) (home : ℕ) (modules : List Module) (rows : List (List (Option LiveBlock))) (j k : ℕ) (var : Var) (init : Const) → modules_start p home modules ≡ Some rows →
    option_and_then (λ m. slice_get m.items k) (slice_get modules j) ≡ Some (item.Var var) → var.init ≡ Some init → IsSome (entry rows j k)
unfolding entry
started_row p home [] rows j k var init is there defined = absurd (cc)
started_row p home (m ∷ modules) rows zero k var init is there defined =
    let parts : IsConsOf (items_start p home m.items) (modules_start p (home + 1) modules) rows = cons_of (items_start p home m.items) (modules_start p (home + 1) modules) rows is in
    subst (λ (rs : List (List (Option LiveBlock))). IsSome (found_in (option_and_then (λ row. slice_get row k) (slice_get rs zero)))) (sym parts.all_are)
    (started_item p home m.items parts.first k var init parts.one_is there defined)
started_row p home (m ∷ modules) rows (suc j) k var init is there defined =
    let parts : IsConsOf (items_start p home m.items) (modules_start p (home + 1) modules) rows = cons_of (items_start p home m.items) (modules_start p (home + 1) modules) rows is in
    subst (λ (rs : List (List (Option LiveBlock))). IsSome (found_in (option_and_then (λ row. slice_get row k) (slice_get rs (suc j))))) (sym parts.all_are)
    (started_row p (home + 1) modules parts.rest j k var init parts.others_are there defined)

-- A variable that is defined has a block from the start.
pub variable_starts : (p : ProgramData) (mem : MemoryData) (symbol : Sym) (var : Var) (init : Const) → start p ≡ Some mem → item_at p.modules symbol ≡ Some (item.Var var) → var.init ≡ Some init → IsSome (var_at mem symbol)
unfolding found_in entry
variable_starts p mem symbol var init is there defined = by (modules_start p 0 p.modules) refl is where
  by : (rows : Option (List (List (Option LiveBlock)))) → modules_start p 0 p.modules ≡ rows → option_map (λ vars. record { vars = vars; made = [] }) rows ≡ Some mem → IsSome (var_at mem symbol)
  by None has is = absurd (cc)
  by (Some rows) has is =
      let same : record { vars = rows; made = [] } ≡ mem = cc (is) in
      subst (λ (m : MemoryData). IsSome (var_at m symbol)) same (started_row p 0 p.modules rows symbol.module symbol.item var init has there defined)
