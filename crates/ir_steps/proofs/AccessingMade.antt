-- Memory that fits still fits where a block is made, ended or freed.
use Rattle.std.proofs.Common.{◌≡◌, ℕ, zero, suc, ◌≤◌, Bool, true, false, ℤ, pos, negsuc, List, [], ◌∷◌, ◌++◌, length, slice_get, Option, Some, None, arith, length-append}
use Rattle.std.proofs.lemmas.List.Elements.{All-replicate}
use Rattle.ir_syntax.specs.declared.symbol.Sym.{Sym}
use Rattle.ir_syntax.specs.Programs.{ProgramData}
use Rattle.block_memory.specs.declared.value.Name.{Name}
use Rattle.block_memory.specs.declared.value.Name.TheVariants as name
use Rattle.block_memory.specs.declared.value.Val.{Val}
use Rattle.block_memory.specs.declared.value.Val.TheVariants as val
use Rattle.block_memory.specs.Answers.{Gives}
use Rattle.block_memory.specs.Blocks.{MemoryBlock, Live, Ended, MemoryData, size_of, block_at}
use Rattle.block_memory.specs.Making.{first_byte, new_block, alloc, end_at, end, is_heap_at, bad_free, free_at, free}
use Rattle.ir_steps.specs.Returns.{end_all}
use Rattle.ir_steps.proofs.Fits.{IsPart, MemoryFits, StillFits}
use Rattle.ir_steps.proofs.Safely.{Safe, safe_when}
use Rattle.ir_steps.proofs.Values.{parts_later}
use Rattle.ir_steps.proofs.Accessing.{BlockFits, block_fits, fits_from, still_same, still_then, made_put}

-- ---- made

push_holds : {A : Type 0} (P : Option A → Type 0) (xs : List A) (r : ℕ) (new : A) → P (Some new) → P (slice_get xs r) → P (slice_get (xs ++ new ∷ []) r)
push_holds P [] zero new n h = n
push_holds P [] (suc r) new n h = h
push_holds P (x ∷ xs) zero new n h = h
push_holds P (x ∷ xs) (suc r) new n h = push_holds P xs r new n h

block_later : (p : ProgramData) (made more : ℕ) (o : Option MemoryBlock) → made ≤ more → BlockFits p made o → BlockFits p more o
block_later p made more None l h = tt
block_later p made more (Some (Live block)) l h = parts_later p made more block.parts l h
block_later p made more (Some (Ended size)) l h = tt

first_byte_is : (p : ProgramData) (made : ℕ) (zeroed : Bool) → IsPart p made (first_byte zeroed)
first_byte_is p made true = tt
first_byte_is p made false = tt

pub alloc_makes : (mem : MemoryData) (size : ℕ) (heap zeroed : Bool) → length (alloc mem size heap zeroed).made ≡ suc (length mem.made)
alloc_makes mem size heap zeroed = omega (arith, length-append mem.made (Live (new_block size heap zeroed) ∷ []))

pub alloc_fits : (p : ProgramData) (mem : MemoryData) (size : ℕ) (heap zeroed : Bool) → MemoryFits p mem → MemoryFits p (alloc mem size heap zeroed)
alloc_fits p mem size heap zeroed fits = fits_from p (alloc mem size heap zeroed) fits.vars blocks
  where
    blocks : (of : Name Sym) → BlockFits p (length (alloc mem size heap zeroed).made) (block_at (alloc mem size heap zeroed) of)
    blocks (name.Var s) =
        let count = alloc_makes mem size heap zeroed in
        block_later p (length mem.made) (length (alloc mem size heap zeroed).made) (block_at mem (name.Var s)) (omega arith) (block_fits p mem (name.Var s) fits)
    blocks (name.Func s) = tt
    blocks (name.Made number) =
        let count = alloc_makes mem size heap zeroed in
        let made = length (alloc mem size heap zeroed).made in
        push_holds (BlockFits p made) mem.made number (Live (new_block size heap zeroed)) (All-replicate (IsPart p made) size (first_byte zeroed) (first_byte_is p made zeroed))
        (block_later p (length mem.made) made (block_at mem (name.Made number)) (omega arith) (block_fits p mem (name.Made number) fits))

-- ---- ended

end_at_keeps : (p : ProgramData) (mem : MemoryData) (number : ℕ) (o : Option MemoryBlock) → MemoryFits p mem → StillFits p mem (end_at mem number o)
end_at_keeps p mem number None fits = still_same p mem fits
end_at_keeps p mem number (Some block) fits = made_put p mem number (Ended (size_of block)) fits tt

pub end_keeps : (p : ProgramData) (mem : MemoryData) (number : ℕ) → MemoryFits p mem → StillFits p mem (end mem number)
end_keeps p mem number fits = end_at_keeps p mem number (slice_get mem.made number) fits

pub end_all_keeps : (p : ProgramData) (numbers : List ℕ) (mem : MemoryData) → MemoryFits p mem → StillFits p mem (end_all numbers mem)
end_all_keeps p [] mem fits = still_same p mem fits
end_all_keeps p (number ∷ more) mem fits =
    let one = end_keeps p mem number fits in
    still_then p mem (end mem number) (end_all more (end mem number)) one (end_all_keeps p more (end mem number) one.fits)

-- ---- freed

free_at_keeps : (p : ProgramData) (mem : MemoryData) (of : Name Sym) (offset : ℤ) → MemoryFits p mem → Safe (StillFits p mem) (free_at mem of offset)
free_at_keeps p mem (name.Var symbol) offset fits = tt
free_at_keeps p mem (name.Func symbol) offset fits = tt
free_at_keeps p mem (name.Made number) (pos zero) fits =
    safe_when (StillFits p mem) (is_heap_at (slice_get mem.made number)) (Gives (end mem number)) bad_free (λ yes. end_keeps p mem number fits) (λ not_so. tt)
free_at_keeps p mem (name.Made number) (pos (suc n)) fits = tt
free_at_keeps p mem (name.Made number) (negsuc n) fits = tt

pub free_keeps : (p : ProgramData) (mem : MemoryData) (v : Val Sym) → MemoryFits p mem → Safe (StillFits p mem) (free mem v)
free_keeps p mem (val.Num n) fits = tt
free_keeps p mem val.Null fits = still_same p mem fits
free_keeps p mem (val.At of offset) fits = free_at_keeps p mem of offset fits
free_keeps p mem val.Poison fits = tt
