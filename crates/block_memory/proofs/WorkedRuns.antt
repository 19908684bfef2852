-- Memory as two programs use it, worked by hand.
use Rattle.std.proofs.Common.{◌≡◌, ℕ, pos, true, false, List, [], ◌∷◌, Option, None, Some, refl}
use Rattle.ir_types.specs.declared.scalar.Scalar.TheVariants.{I32}
use Rattle.ir_syntax.specs.declared.symbol.Sym.{Sym}
use Rattle.int_ops.specs.declared.cause.Cause.TheVariants as cause
use Rattle.block_memory.specs.declared.value.Name.TheVariants as name
use Rattle.block_memory.specs.declared.value.Val.{Val}
use Rattle.block_memory.specs.declared.value.Val.TheVariants as val
use Rattle.block_memory.specs.declared.value.Part.{Part}
use Rattle.block_memory.specs.declared.value.Part.TheVariants as part
use Rattle.block_memory.specs.Answers.{Gives, Undefined}
use Rattle.block_memory.specs.Blocks.{LiveBlock, MemoryBlock, Live, Ended, MemoryData}
use Rattle.block_memory.specs.Loads.{load}
use Rattle.block_memory.specs.Stores.{store}
use Rattle.block_memory.specs.Copies.{copy}
use Rattle.block_memory.specs.Making.{alloc, end, free}
use Rattle.block_memory.specs.Shows.{show}

-- the address of a made block
abbrev made : ℕ → Val Sym
made number = val.At (name.Made number) (pos 0)

abbrev four : Part Sym → List (Part Sym)
four each = each ∷ each ∷ each ∷ each ∷ []

abbrev writable : List (Part Sym) → MemoryBlock
writable parts = Live (record { parts = parts; writable = true; heap = false })

-- ---- a text is copied to an alloca and shown

-- `"ok\00\00"`
abbrev text : List (Part Sym)
text = part.Num 111 ∷ part.Num 107 ∷ part.Num 0 ∷ part.Num 0 ∷ []

abbrev text_vars : List (List (Option LiveBlock))
text_vars = (Some (record { parts = text; writable = false; heap = false }) ∷ None ∷ []) ∷ []

abbrev text_address : Val Sym
text_address = val.At (name.Var (record { «module» = 0; item = 0 })) (pos 0)

abbrev with_made : List MemoryBlock → MemoryData
with_made blocks = record { vars = text_vars; made = blocks }

-- `%1 = alloca i32` and `%2 = alloca [4 x i8]`
allocas : alloc (alloc (with_made []) 4 false false) 4 false false ≡ with_made (writable (four part.Poison) ∷ writable (four part.Poison) ∷ [])
allocas = refl

-- `store i32 0, ptr %1, align 4`
stored :
    store (with_made (writable (four part.Poison) ∷ writable (four part.Poison) ∷ [])) I32 2 (val.Num 0) (made 0)
    ≡ Gives (with_made (writable (four (part.Num 0)) ∷ writable (four part.Poison) ∷ []))
stored = refl

-- `call void @llvm.memcpy.p0.p0.i64(ptr %2, ptr @text, i64 4, i1 false)`
copied :
    copy (with_made (writable (four (part.Num 0)) ∷ writable (four part.Poison) ∷ [])) (made 1) text_address 4 false
    ≡ Gives (with_made (writable (four (part.Num 0)) ∷ writable text ∷ []))
copied = refl

-- `call i32 @puts(ptr %2)` shows the whole block.
is_shown : show (with_made (writable (four (part.Num 0)) ∷ writable text ∷ [])) (made 1) ≡ Gives text
is_shown = refl

-- The text itself is a `constant`.
not_written : store (with_made []) I32 2 (val.Num 0) text_address ≡ Undefined cause.ReadOnly
not_written = refl

-- ---- an alloca that has ended, and a block from the heap

abbrev nothing : MemoryData
nothing = record { vars = []; made = [] }

-- `%x = alloca i32`, and the function that made it has returned
ended : load (end (alloc nothing 4 false false) 0) I32 2 (made 0) ≡ Undefined cause.EndedBlock
ended = refl

-- `%p = call ptr @malloc(i64 4)`, `store i32 7, ptr %p`
abbrev seven : MemoryData
seven = record { vars = []; made = Live (record { parts = part.Num 7 ∷ part.Num 0 ∷ part.Num 0 ∷ part.Num 0 ∷ []; writable = true; heap = true }) ∷ [] }

seven_stored : store (alloc nothing 4 true false) I32 2 (val.Num 7) (made 0) ≡ Gives seven
seven_stored = refl

-- `%v = load i32, ptr %p`
seven_loaded : load seven I32 2 (made 0) ≡ Gives (val.Num 7)
seven_loaded = refl

-- `call void @free(ptr %p)`
freed : free seven (made 0) ≡ Gives (record { vars = []; made = Ended 4 ∷ [] })
freed = refl

-- twice
freed_twice : free (record { vars = []; made = Ended 4 ∷ [] }) (made 0) ≡ Undefined cause.BadFree
freed_twice = refl
