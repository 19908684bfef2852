-- The bytes of a value, and the value of bytes (LLVM Language Reference Manual, "'store' Instruction", "'load' Instruction"). The order of
-- bytes is little-endian.
use Rattle.std.specs.Prelude.{ℕ, ◌+◌, ◌*◌, Bool, true, false, ◌&&◌, ◌==◌, ℤ, List, [], ◌∷◌, map, replicate, Option, Some, None, option_map, if◌then◌else◌}
use Rattle.std.specs.Ordering.{int_eq}
use Rattle.ir_types.specs.declared.scalar.Scalar.{Scalar}
use Rattle.ir_types.specs.declared.scalar.Scalar.TheVariants.{I1, I8, I16, I32, I64, Ptr}
use Rattle.ir_types.specs.Layout.{scalar_size}
use Rattle.ir_types.specs.Scalars.{is_number_of}
use Rattle.ir_syntax.specs.declared.symbol.Sym.{Sym}
use Rattle.ir_syntax.specs.Suits.{is_pointer}
use Rattle.ir_syntax.specs.InitialBytes.{little_endian, address_bytes}
use Rattle.block_memory.specs.declared.value.Name.{Name}
use Rattle.block_memory.specs.declared.value.Name.TheVariants as name
use Rattle.block_memory.specs.declared.value.Val.{Val}
use Rattle.block_memory.specs.declared.value.Val.TheVariants as val
use Rattle.block_memory.specs.declared.value.Part.{Part}
use Rattle.block_memory.specs.declared.value.Part.TheVariants as part

-- Poison is of every type, a number below 2^w of the integer type of width w, and null and addresses of `ptr`.
abbrev pub is_value_of : Scalar → Val Sym → Bool
is_value_of ty (val.Num n) = is_number_of ty n
is_value_of ty val.Null = is_pointer ty
is_value_of ty (val.At of offset) = is_pointer ty
is_value_of ty val.Poison = true

-- ---- written

-- the bytes of a value of the type
abbrev pub parts_of : Scalar → Val Sym → List (Part Sym)
parts_of ty (val.Num n) = map part.Num (little_endian (scalar_size ty) n)
parts_of ty val.Null = replicate (scalar_size ty) (part.Num 0)
parts_of ty (val.At of offset) = map (part.Of of offset) address_bytes
parts_of ty val.Poison = replicate (scalar_size ty) part.Poison

-- ---- read

abbrev pub same_symbol : Sym → Sym → Bool
same_symbol a b = a.module == b.module && a.item == b.item

-- whether two names are of one block
abbrev pub same_name : Name Sym → Name Sym → Bool
same_name (name.Var a) (name.Var b) = same_symbol a b
same_name (name.Func a) (name.Func b) = same_symbol a b
same_name (name.Made a) (name.Made b) = a == b
same_name a b = false

-- the number that the bytes spell, where each is a number
abbrev pub number_in : List (Part Sym) → Option ℕ
number_in [] = Some 0
number_in (part.Poison ∷ parts) = None
number_in (part.Num byte ∷ parts) = option_map (λ n. byte + 256 * n) (number_in parts)
number_in (part.Of of offset k ∷ parts) = None

-- a byte is the k-th of the address
abbrev pub is_byte_of : Name Sym → ℤ → ℕ → Part Sym → Bool
is_byte_of of offset k part.Poison = false
is_byte_of of offset k (part.Num byte) = false
is_byte_of of offset k (part.Of other other_offset j) = same_name of other && int_eq offset other_offset && k == j

-- the bytes are just these of the address
abbrev pub are_bytes_of : Name Sym → ℤ → List ℕ → List (Part Sym) → Bool
are_bytes_of of offset [] [] = true
are_bytes_of of offset [] (first ∷ parts) = false
are_bytes_of of offset (k ∷ ks) [] = false
are_bytes_of of offset (k ∷ ks) (first ∷ parts) = is_byte_of of offset k first && are_bytes_of of offset ks parts

-- the address that a byte is one of
abbrev pub address_in : Part Sym → Val Sym
address_in part.Poison = val.Poison
address_in (part.Num byte) = val.Poison
address_in (part.Of of offset k) = val.At of offset

-- A number that is none of the type is poison: i1 has 0 and 1.
abbrev pub integer_in : Scalar → Option ℕ → Val Sym
integer_in ty None = val.Poison
integer_in ty (Some n) = if is_number_of ty n then val.Num n else val.Poison

-- null is written as zeros, and no other number is a pointer
abbrev pub null_in : Option ℕ → Val Sym
null_in None = val.Poison
null_in (Some n) = if n == 0 then val.Null else val.Poison

-- the address whose eight bytes these are, in order
abbrev pub pointer_in : List (Part Sym) → Val Sym
pointer_in [] = val.Poison
pointer_in (part.Poison ∷ parts) = val.Poison
pointer_in (part.Num byte ∷ parts) = null_in (number_in (part.Num byte ∷ parts))
pointer_in (part.Of of offset k ∷ parts) = if are_bytes_of of offset address_bytes (part.Of of offset k ∷ parts) then address_in (part.Of of offset k) else val.Poison

-- the value of the type that the bytes are
abbrev pub value_in : Scalar → List (Part Sym) → Val Sym
value_in I1 parts = integer_in I1 (number_in parts)
value_in I8 parts = integer_in I8 (number_in parts)
value_in I16 parts = integer_in I16 (number_in parts)
value_in I32 parts = integer_in I32 (number_in parts)
value_in I64 parts = integer_in I64 (number_in parts)
value_in Ptr parts = pointer_in parts
