-- The bytes of a block as the code keeps them: a mark for each, and an address for those that are bytes of one.
use Rattle.std.specs.Prelude.{ℕ, List, [], ◌∷◌, Option, Some, None}
use Rattle.ir_syntax.specs.declared.symbol.Sym.{Sym}
use Rattle.block_memory.specs.declared.value.Name.TheVariants as name
use Rattle.block_memory.specs.declared.value.Part.{Part}
use Rattle.block_memory.specs.declared.value.Part.TheVariants as part
use Rattle.block_memory.specs.declared.mark.Mark.{Mark}
use Rattle.block_memory.specs.declared.mark.Mark.TheVariants as mark
use Rattle.block_memory.specs.declared.mark.Address.{Address}
use Rattle.block_memory.specs.declared.mark.Address.TheVariants as address

-- the k-th byte of an address
abbrev pub byte_of_address : Address → ℕ → Part Sym
byte_of_address address.Unused k = part.Poison
byte_of_address (address.Var symbol offset) k = part.Of (name.Var symbol) offset k
byte_of_address (address.Func symbol offset) k = part.Of (name.Func symbol) offset k
byte_of_address (address.Made number offset) k = part.Of (name.Made number) offset k

-- the same where there may be no address
abbrev pub byte_at : Option Address → ℕ → Part Sym
byte_at None k = part.Poison
byte_at (Some kept) k = byte_of_address kept k

-- what a mark stands for, beside the address that is kept for it
abbrev pub marked : Mark → Option Address → Part Sym
marked mark.Poison kept = part.Poison
marked (mark.Num byte) kept = part.Num byte
marked (mark.Address k) kept = byte_at kept k

-- the parts of all
abbrev pub parts_kept : List Mark → List Address → List (Part Sym)
parts_kept [] addresses = []
parts_kept (first ∷ marks) [] = marked first None ∷ parts_kept marks []
parts_kept (first ∷ marks) (kept ∷ addresses) = marked first (Some kept) ∷ parts_kept marks addresses
