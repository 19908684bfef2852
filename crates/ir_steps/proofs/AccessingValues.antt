-- Loads give values of their type, and stores leave the memory fitting.
use Rattle.std.proofs.Common.{◌≡◌, ℕ, Bool, true, false, ◌==◌, ℤ, List, [], ◌∷◌, length, map, drop, All, Option, Some, None, if◌then◌else◌, refl, ap}
use Rattle.std.proofs.lemmas.List.Elements.{All-nil, All-cons, All-head, All-take, All-drop, All-replicate}
use Rattle.ir_types.specs.declared.scalar.Scalar.{Scalar}
use Rattle.ir_types.specs.declared.scalar.Scalar.TheVariants.{I1, I8, I16, I32, I64, Ptr}
use Rattle.ir_types.specs.Layout.{scalar_size}
use Rattle.ir_types.specs.Scalars.{is_number_of}
use Rattle.ir_syntax.specs.declared.symbol.Sym.{Sym}
use Rattle.ir_syntax.specs.Suits.{is_pointer}
use Rattle.ir_syntax.specs.InitialBytes.{little_endian, address_bytes}
use Rattle.ir_syntax.specs.Programs.{ProgramData}
use Rattle.block_memory.specs.declared.value.Name.{Name}
use Rattle.block_memory.specs.declared.value.Val.{Val}
use Rattle.block_memory.specs.declared.value.Val.TheVariants as val
use Rattle.block_memory.specs.declared.value.Part.{Part}
use Rattle.block_memory.specs.declared.value.Part.TheVariants as part
use Rattle.block_memory.specs.Answers.{Gives, Stuck, and_then}
use Rattle.block_memory.specs.Blocks.{MemoryData}
use Rattle.block_memory.specs.Accesses.{Place, place_of, bytes_at, written_at}
use Rattle.block_memory.specs.Parts.{is_value_of, parts_of, number_in, are_bytes_of, integer_in, null_in, pointer_in, value_in}
use Rattle.block_memory.specs.Loads.{load, reading}
use Rattle.block_memory.specs.Stores.{store, writing}
use Rattle.ir_steps.proofs.Fits.{IsThere, IsValue, IsPart, MemoryFits, StillFits}
use Rattle.ir_steps.proofs.Safely.{Safe, safe_then, safe_when}
use Rattle.ir_steps.proofs.Accessing.{Accessed, place_safe, written_keeps}

-- ---- what bytes spell

value_when : (p : ProgramData) (made : ℕ) (ty : Scalar) (b : Bool) (v w : Val Sym) → (b ≡ true → IsValue p made ty v) → IsValue p made ty w → IsValue p made ty (if b then v else w)
value_when p made ty true v w h k = h refl
value_when p made ty false v w h k = k

integer_value : (p : ProgramData) (made : ℕ) (ty : Scalar) (o : Option ℕ) → IsValue p made ty (integer_in ty o)
integer_value p made ty None = tt
integer_value p made ty (Some n) = value_when p made ty (is_number_of ty n) (val.Num n) val.Poison (λ e. e) tt

null_value : (p : ProgramData) (made : ℕ) (o : Option ℕ) → IsValue p made Ptr (null_in o)
null_value p made None = tt
null_value p made (Some n) = value_when p made Ptr (n == 0) val.Null val.Poison (λ e. refl) tt

pointer_value : (p : ProgramData) (made : ℕ) (parts : List (Part Sym)) → All (IsPart p made) parts → IsValue p made Ptr (pointer_in parts)
pointer_value p made [] h = tt
pointer_value p made (part.Poison ∷ parts) h = tt
pointer_value p made (part.Num byte ∷ parts) h = null_value p made (number_in (part.Num byte ∷ parts))
pointer_value p made (part.Of of offset k ∷ parts) h =
    value_when p made Ptr (are_bytes_of of offset address_bytes (part.Of of offset k ∷ parts)) (val.At of offset) val.Poison
    (λ e. (refl, All-head (IsPart p made) (part.Of of offset k) parts h)) tt

pub bytes_value : (p : ProgramData) (made : ℕ) (ty : Scalar) (parts : List (Part Sym)) → All (IsPart p made) parts → IsValue p made ty (value_in ty parts)
bytes_value p made I1 parts h = integer_value p made I1 (number_in parts)
bytes_value p made I8 parts h = integer_value p made I8 (number_in parts)
bytes_value p made I16 parts h = integer_value p made I16 (number_in parts)
bytes_value p made I32 parts h = integer_value p made I32 (number_in parts)
bytes_value p made I64 parts h = integer_value p made I64 (number_in parts)
bytes_value p made Ptr parts h = pointer_value p made parts h

-- ---- loads

pub accessed_bytes : (p : ProgramData) (mem : MemoryData) (bytes count : ℕ) (place : Place) → Accessed p mem bytes place → All (IsPart p (length mem.made)) (bytes_at place count)
accessed_bytes p mem bytes count place h =
    let P = IsPart p (length mem.made) in
    All-take P count (drop place.offset place.block.parts) (All-drop P place.offset place.block.parts h.parts)

pub load_fits : (p : ProgramData) (mem : MemoryData) (ty : Scalar) (align : ℕ) (at : Val Sym) → MemoryFits p mem → IsValue p (length mem.made) Ptr at
    → Safe (IsValue p (length mem.made) ty) (load mem ty align at)
load_fits p mem ty align at fits h =
    safe_then (Accessed p mem (scalar_size ty)) (IsValue p (length mem.made) ty) (λ place. Gives (value_in ty (bytes_at place (scalar_size ty)))) (place_of mem (reading ty align) at)
    (place_safe p mem (reading ty align) at fits h)
    (λ place a. bytes_value p (length mem.made) ty (bytes_at place (scalar_size ty)) (accessed_bytes p mem (scalar_size ty) (scalar_size ty) place a))

-- ---- stores

number_parts : (p : ProgramData) (made : ℕ) (bytes : List ℕ) → All (IsPart p made) (map (λ byte. part.Num byte) bytes)
number_parts p made [] = All-nil (IsPart p made)
number_parts p made (byte ∷ bytes) = All-cons (IsPart p made) (part.Num byte) (map (λ byte. part.Num byte) bytes) tt (number_parts p made bytes)

address_parts : (p : ProgramData) (made : ℕ) (of : Name Sym) (offset : ℤ) (ks : List ℕ) → IsThere p made of → All (IsPart p made) (map (λ k. part.Of of offset k) ks)
address_parts p made of offset [] h = All-nil (IsPart p made)
address_parts p made of offset (k ∷ ks) h = All-cons (IsPart p made) (part.Of of offset k) (map (λ k. part.Of of offset k) ks) h (address_parts p made of offset ks h)

pub value_parts : (p : ProgramData) (made : ℕ) (ty : Scalar) (v : Val Sym) → IsValue p made ty v → All (IsPart p made) (parts_of ty v)
value_parts p made ty (val.Num n) h = number_parts p made (little_endian (scalar_size ty) n)
value_parts p made ty val.Null h = All-replicate (IsPart p made) (scalar_size ty) (part.Num 0) tt
value_parts p made ty (val.At of offset) h = address_parts p made of offset address_bytes h.1
value_parts p made ty val.Poison h = All-replicate (IsPart p made) (scalar_size ty) part.Poison tt

pub value_is_of : (p : ProgramData) (made : ℕ) (ty : Scalar) (v : Val Sym) → IsValue p made ty v → is_value_of ty v ≡ true
value_is_of p made ty (val.Num n) h = h
value_is_of p made ty val.Null h = ap is_pointer h
value_is_of p made ty (val.At of offset) h = ap is_pointer h.0
value_is_of p made ty val.Poison h = refl

pub store_keeps : (p : ProgramData) (mem : MemoryData) (ty : Scalar) (align : ℕ) (v at : Val Sym) → MemoryFits p mem → IsValue p (length mem.made) ty v → IsValue p (length mem.made) Ptr at
    → Safe (StillFits p mem) (store mem ty align v at)
store_keeps p mem ty align v at fits h k =
    let writes = λ (place : Place). Gives (written_at mem place (parts_of ty v)) in
    safe_when (StillFits p mem) (is_value_of ty v) (and_then writes (place_of mem (writing ty align) at)) Stuck
    (λ yes. safe_then (Accessed p mem (scalar_size ty)) (StillFits p mem) writes (place_of mem (writing ty align) at) (place_safe p mem (writing ty align) at fits k)
    (λ place a. written_keeps p mem place (parts_of ty v) fits a.parts (value_parts p (length mem.made) ty v h)))
    (λ not_so. let is : is_value_of ty v ≡ true = value_is_of p (length mem.made) ty v h in absurd (cc))
