-- A memory has the blocks of its program, and those that were made.
use Rattle.std.proofs.Common.{◌≡◌, ℕ, ◌+◌, ◌≤◌, ◌<◌, Bool, IsTrue, is_some, [], ◌∷◌, ◌++◌, length, Option, Some, None, IsSome, length-append, refl, subst, sym, arith}
use Rattle.ir_syntax.specs.declared.constant.Const.{Const}
use Rattle.ir_syntax.specs.declared.symbol.Sym.{Sym}
use Rattle.ir_syntax.specs.declared.item.Var.{Var}
use Rattle.ir_syntax.specs.declared.item.Item.{Item}
use Rattle.ir_syntax.specs.declared.item.Item.TheVariants as item
use Rattle.ir_syntax.specs.Programs.{ProgramData}
use Rattle.ir_syntax.specs.Symbols.{item_at}
use Rattle.block_memory.specs.declared.value.Name.{Name}
use Rattle.block_memory.specs.declared.value.Name.TheVariants as name
use Rattle.block_memory.specs.Blocks.{LiveBlock, MemoryBlock, Live, Ended, MemoryData, IsNamed, var_at, block_at, put_block}
use Rattle.block_memory.specs.Making.{alloc, new_block}
use Rattle.block_memory.specs.Mirrors.Spots.{HasBytes}
use Rattle.block_memory.specs.Starts.{start}
use Rattle.block_memory.proofs.Known.{Keeps, keeps_put, variable_starts}
use Rattle.memory_rows.specs.Known.{is_variable, is_there, Covers}

some_is : {A : Type 0} (found : Option A) → IsSome found → IsTrue (is_some found)
some_is None some = absurd (cc)
some_is (Some x) some = refl

is_some_of : {A : Type 0} (found : Option A) → IsTrue (is_some found) → IsSome found
is_some_of None some = absurd (cc)
is_some_of (Some x) some = refl

-- ---- the start

started : (p : ProgramData) (mem : MemoryData) (symbol : Sym) (found : Option Item) → start p ≡ Some mem → item_at p.modules symbol ≡ found → IsTrue (is_variable found) → IsTrue (is_there mem (name.Var symbol))
started p mem symbol None is there defined = absurd (cc)
started p mem symbol (Some (item.Var var)) is there defined = by var.init refl defined where
  by : (init : Option Const) → var.init ≡ init → IsTrue (is_some init) → IsTrue (is_there mem (name.Var symbol))
  by None init_is t = absurd (cc)
  by (Some init) init_is t = some_is (var_at mem symbol) (variable_starts p mem symbol var init is there init_is)
started p mem symbol (Some (item.Func func)) is there defined = absurd (cc)

pub start_covers : (p : ProgramData) (mem : MemoryData) → start p ≡ Some mem → Covers p mem 0
start_covers p mem is (name.Var symbol) known = started p mem symbol (item_at p.modules symbol) is refl known
start_covers p mem is (name.Func symbol) known = refl
start_covers p mem is (name.Made number) known = absurd (grind (arith, known))

-- ---- changes

named_is_there : (mem : MemoryData) (of : Name Sym) → IsNamed mem of → IsTrue (is_there mem of)
named_is_there mem (name.Var symbol) named = some_is (var_at mem symbol) named
named_is_there mem (name.Func symbol) named = refl
named_is_there mem (name.Made number) named = grind (arith, named)

there_is_named : (mem : MemoryData) (of : Name Sym) → IsTrue (is_there mem of) → IsNamed mem of
there_is_named mem (name.Var symbol) there = is_some_of (var_at mem symbol) there
there_is_named mem (name.Func symbol) there = tt
there_is_named mem (name.Made number) there = grind (arith, there)

pub still_covers : (p : ProgramData) (old new : MemoryData) (made : ℕ) → Keeps old new → Covers p old made → Covers p new made
still_covers p old new made keeps covers of known = named_is_there new of (keeps of (there_is_named old of (covers of known)))

allocated_covers : (p : ProgramData) (old : MemoryData) (size : ℕ) (heap zeroed : Bool) (before made : ℕ) → made ≤ length old.made + 1 → Covers p old before → Covers p (alloc old size heap zeroed) made
allocated_covers p old size heap zeroed before made few covers (name.Var symbol) known = covers (name.Var symbol) known
allocated_covers p old size heap zeroed before made few covers (name.Func symbol) known = refl
allocated_covers p old size heap zeroed before made few covers (name.Made number) known =
    let below : number < made = grind (arith, known) in
    let inside : number < length (old.made ++ Live (new_block size heap zeroed) ∷ []) = omega (arith, below, few, length-append old.made (Live (new_block size heap zeroed) ∷ [])) in
    named_is_there (alloc old size heap zeroed) (name.Made number) inside

-- The new block is the last of those that were made.
pub alloc_covers :
    (p : ProgramData) (old new : MemoryData) (size : ℕ) (heap zeroed : Bool) (before made : ℕ) → new ≡ alloc old size heap zeroed → made ≤ length old.made + 1 → Covers p old before → Covers p new made
alloc_covers p old new size heap zeroed before made is few covers =
    subst (λ (m : MemoryData). Covers p m made) (sym is) (allocated_covers p old size heap zeroed before made few covers)

-- A block that has bytes is put again.
pub put_covers :
    (p : ProgramData) (mem new : MemoryData) (of : Name Sym) (at made : ℕ) (change : LiveBlock → LiveBlock) (found : Option MemoryBlock) → block_at mem of ≡ found → HasBytes found at 1 →
    ((block : LiveBlock) → block_at mem of ≡ Some (Live block) → new ≡ put_block mem of (change block)) → Covers p mem made → Covers p new made
put_covers p mem new of at made change None is has written covers = absurd has
put_covers p mem new of at made change (Some (Live block)) is has written covers =
    subst (λ (m : MemoryData). Covers p m made) (sym (written block is)) (still_covers p mem (put_block mem of (change block)) made (keeps_put mem of (change block)) covers)
put_covers p mem new of at made change (Some (Ended size)) is has written covers = absurd has
