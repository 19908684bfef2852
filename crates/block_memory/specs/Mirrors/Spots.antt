-- Places as the code finds them: a block's name and an offset.
use Rattle.std.specs.Prelude.{ℕ, ◌<◌, ◌+◌, ◌≤◌, List, length, take, drop, slice_get, slice_set, Option, Some, None}
use Rattle.ir_syntax.specs.declared.symbol.Sym.{Sym}
use Rattle.block_memory.specs.declared.value.Name.{Name}
use Rattle.block_memory.specs.declared.value.Name.TheVariants as name
use Rattle.block_memory.specs.declared.spot.Spot.{Spot}
use Rattle.block_memory.specs.Answers.{Answer, Gives, and_then}
use Rattle.block_memory.specs.Blocks.{LiveBlock, MemoryBlock, Live, Ended, MemoryData, block_at, with_parts, put_block}
use Rattle.block_memory.specs.Accesses.{Place}
use Rattle.block_memory.specs.Mirrors.Writing.{set_from}

abbrev pub spot_of : Place → Spot
spot_of place = record { of = place.of; offset = place.offset }

abbrev pub spotted : Answer Place → Answer Spot
spotted = and_then (λ place. Gives (spot_of place))

-- A live block stands under the name.
abbrev pub IsLiveBlock : Option MemoryBlock → Type 0
IsLiveBlock None = ⊥
IsLiveBlock (Some (Live block)) = Unit {0}
IsLiveBlock (Some (Ended size)) = ⊥

-- There is a row for the module, and a place for the item in it.
abbrev pub has_place : Option (List (Option LiveBlock)) → ℕ → Type 0
has_place None item = ⊥
has_place (Some row) item = item < length row

-- A block may be put under the name.
abbrev pub IsRoom : MemoryData → Name Sym → Type 0
IsRoom mem (name.Var symbol) = has_place (slice_get mem.vars symbol.module) symbol.item
IsRoom mem (name.Func symbol) = ⊥
IsRoom mem (name.Made number) = number < length mem.made

abbrev pub emptied : List (List (Option LiveBlock)) → Sym → Option (List (Option LiveBlock)) → List (List (Option LiveBlock))
emptied vars symbol None = vars
emptied vars symbol (Some row) = slice_set vars symbol.module (slice_set row symbol.item None)

-- the memory while the block under a name is taken out
abbrev pub without : MemoryData → Name Sym → MemoryData
without mem (name.Var symbol) = record mem { vars = emptied mem.vars symbol (slice_get mem.vars symbol.module) }
without mem (name.Func symbol) = mem
without mem (name.Made number) = record mem { made = slice_set mem.made number (Ended 0) }

-- so many bytes of a live block from an offset on
abbrev pub HasBytes : Option MemoryBlock → ℕ → ℕ → Type 0
HasBytes None offset count = ⊥
HasBytes (Some (Live block)) offset count = offset + count ≤ length block.parts
HasBytes (Some (Ended size)) offset count = ⊥

-- the memory with bytes of one block in another
abbrev pub moved_into : MemoryData → Spot → Spot → ℕ → Option MemoryBlock → Option MemoryBlock → MemoryData
moved_into mem to from count (Some (Live one)) (Some (Live other)) =
    put_block mem to.of (with_parts one (set_from one.parts to.offset (take count (drop from.offset other.parts))))
moved_into mem to from count one other = mem

abbrev pub moved : MemoryData → Spot → Spot → ℕ → MemoryData
moved mem to from count = moved_into mem to from count (block_at mem to.of) (block_at mem from.of)
