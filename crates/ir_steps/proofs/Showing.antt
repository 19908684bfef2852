-- What a call outside is shown: each value of a running program can be shown.
use Rattle.std.proofs.Common.{◌≡◌, ◌≢◌, ◌∙◌, ℕ, zero, suc, ◌<◌, List, [], ◌∷◌, length, Option, None, Some, IsSome, option_map, slice_get, refl, ap, arith, All}
use Rattle.std.specs.List.{AllZip}
use Rattle.std.proofs.lemmas.Bool.{false≢true}
use Rattle.std.proofs.lemmas.List.Elements.{All-head, All-tail, All-cons, All-nil}
use Rattle.ir_types.specs.declared.scalar.Scalar.{Scalar}
use Rattle.ir_syntax.specs.declared.symbol.Sym.{Sym}
use Rattle.ir_syntax.specs.declared.symbol.SymName.{SymName}
use Rattle.ir_syntax.specs.declared.item.Item.{Item}
use Rattle.ir_syntax.specs.Programs.{ProgramData}
use Rattle.ir_syntax.specs.Symbols.{item_at, symbol_name}
use Rattle.block_memory.specs.declared.value.Name.{Name}
use Rattle.block_memory.specs.declared.value.Name.TheVariants as name
use Rattle.block_memory.specs.declared.value.Val.{Val}
use Rattle.block_memory.specs.declared.value.Val.TheVariants as val
use Rattle.block_memory.specs.declared.value.Part.{Part}
use Rattle.block_memory.specs.declared.value.Part.TheVariants as part
use Rattle.block_memory.specs.Answers.{and_then, or_stuck}
use Rattle.block_memory.specs.Blocks.{LiveBlock, MemoryBlock, Live, Ended, MemoryData, var_at, block_at}
use Rattle.ir_steps.specs.declared.session.Shown.{Shown}
use Rattle.ir_steps.specs.Showing.{shown_name, shown_value, shown_part, shown_parts, bare, in_block, shown, shown_all, no_poison}
use Rattle.ir_steps.proofs.Fits.{Has, IsDefinedVar, IsThere, IsValue, IsPart, MemoryFits}
use Rattle.ir_steps.proofs.Safely.{Safe, safe_then, safe_read, safe_weaker, has_from, has_then, has_map}

pub has_some : {X : Type 0} (P : X → Type 0) (o : Option X) → Has P o → IsSome o
has_some P None h = absurd h
has_some P (Some x) h = refl

-- ---- names and values

symbol_has : (p : ProgramData) (symbol : Sym) (found : Item) → item_at p.modules symbol ≡ Some found → Has (λ (s : SymName). Unit {0}) (symbol_name p.modules symbol)
symbol_has p symbol found is = has_map (λ (f : Item). Unit {0}) (λ (s : SymName). Unit {0}) _ (item_at p.modules symbol) (has_from (λ (f : Item). Unit {0}) (item_at p.modules symbol) found is tt) (λ f h. tt)

var_has : (p : ProgramData) (symbol : Sym) → IsDefinedVar (item_at p.modules symbol) → Has (λ (s : SymName). Unit {0}) (symbol_name p.modules symbol)
var_has p symbol h = of (item_at p.modules symbol) refl h
  where
    of : (o : Option Item) → item_at p.modules symbol ≡ o → IsDefinedVar o → Has (λ (s : SymName). Unit {0}) (symbol_name p.modules symbol)
    of None e d = absurd d
    of (Some found) e d = symbol_has p symbol found e

-- what is there has a name to be shown by
pub shown_name_has : (p : ProgramData) (made : ℕ) (of : Name Sym) → IsThere p made of → Has (λ (n : Name SymName). Unit {0}) (shown_name p of)
shown_name_has p made (name.Var symbol) h = has_map (λ (s : SymName). Unit {0}) (λ (n : Name SymName). Unit {0}) _ (symbol_name p.modules symbol) (var_has p symbol h) (λ s k. tt)
shown_name_has p made (name.Func symbol) h = has_map (λ (s : SymName). Unit {0}) (λ (n : Name SymName). Unit {0}) _ (symbol_name p.modules symbol) (symbol_has p symbol _ h.is) (λ s k. tt)
shown_name_has p made (name.Made number) h = tt

pub shown_value_is : (p : ProgramData) (made : ℕ) (ty : Scalar) (v : Val Sym) → IsValue p made ty v → Has (λ (s : Val SymName). Unit {0}) (shown_value p v)
shown_value_is p made ty (val.Num n) h = tt
shown_value_is p made ty val.Null h = tt
shown_value_is p made ty (val.At of offset) h = has_map (λ (n : Name SymName). Unit {0}) (λ (s : Val SymName). Unit {0}) _ (shown_name p of) (shown_name_has p made of h.1) (λ n k. tt)
shown_value_is p made ty val.Poison h = tt

-- A value of a type can be shown.
pub shown_value_has : (p : ProgramData) (made : ℕ) (ty : Scalar) (v : Val Sym) → IsValue p made ty v → IsSome (shown_value p v)
shown_value_has p made ty v h = has_some (λ (s : Val SymName). Unit {0}) (shown_value p v) (shown_value_is p made ty v h)

-- ---- bytes

pub shown_part_has : (p : ProgramData) (made : ℕ) (x : Part Sym) → IsPart p made x → Has (λ (s : Part SymName). Unit {0}) (shown_part p x)
shown_part_has p made part.Poison h = tt
shown_part_has p made (part.Num byte) h = tt
shown_part_has p made (part.Of of offset k) h = has_map (λ (n : Name SymName). Unit {0}) (λ (s : Part SymName). Unit {0}) _ (shown_name p of) (shown_name_has p made of h) (λ n j. tt)

pub shown_parts_has : (p : ProgramData) (made : ℕ) (xs : List (Part Sym)) → All (IsPart p made) xs → Has (λ (s : List (Part SymName)). Unit {0}) (shown_parts p xs)
shown_parts_has p made [] h = tt
shown_parts_has p made (x ∷ xs) h =
    has_then (λ (s : Part SymName). Unit {0}) (λ (s : List (Part SymName)). Unit {0}) _ (shown_part p x) (shown_part_has p made x (All-head (IsPart p made) x xs h)) (λ one j.
    has_map (λ (s : List (Part SymName)). Unit {0}) (λ (s : List (Part SymName)). Unit {0}) _ (shown_parts p xs) (shown_parts_has p made xs (All-tail (IsPart p made) x xs h)) (λ more i. tt))

-- ---- blocks

-- the block of a name that is there
pub block_has : (p : ProgramData) (mem : MemoryData) → MemoryFits p mem → (symbol : Sym) → IsDefinedVar (item_at p.modules symbol) → Has (λ (b : MemoryBlock). Unit {0}) (block_at mem (name.Var symbol))
block_has p mem fits symbol h = of (var_at mem symbol) (fits.vars symbol h)
  where
    of : (o : Option LiveBlock) → IsSome o → Has (λ (b : MemoryBlock). Unit {0}) (option_map Live o)
    of None e = absurd (false≢true e)
    of (Some block) e = tt

pub made_has : (blocks : List MemoryBlock) (number : ℕ) → number < length blocks → Has (λ (b : MemoryBlock). Unit {0}) (slice_get blocks number)
made_has [] number h = absurd (omega arith)
made_has (b ∷ bs) zero h = tt
made_has (b ∷ bs) (suc number) h = made_has bs number (omega arith)

-- ---- arguments

bare_safe : (p : ProgramData) (made : ℕ) (ty : Scalar) (v : Val Sym) → IsValue p made ty v → Safe (λ (s : Shown). Unit {0}) (bare p v)
bare_safe p made ty v h = safe_read (λ (s : Val SymName). Unit {0}) (λ (s : Shown). Unit {0}) _ (shown_value p v) (shown_value_is p made ty v h) (λ s k. tt)

in_block_safe : (p : ProgramData) (made : ℕ) (ty : Scalar) (v : Val Sym) → IsValue p made ty v → (block : MemoryBlock) → ((b : LiveBlock) → block ≡ Live b → All (IsPart p made) b.parts) → Safe (λ (s : Shown). Unit {0}) (in_block p v block)
in_block_safe p made ty v h (Live block) parts =
    safe_read (λ (s : Val SymName). Unit {0}) (λ (s : Shown). Unit {0}) _ (shown_value p v) (shown_value_is p made ty v h) (λ named k.
    safe_read (λ (s : List (Part SymName)). Unit {0}) (λ (s : Shown). Unit {0}) _ (shown_parts p block.parts) (shown_parts_has p made block.parts (parts block refl)) (λ shown j. tt))
in_block_safe p made ty v h (Ended size) parts = tt

-- an argument in the block that a name has
at_block_safe : (p : ProgramData) (mem : MemoryData) → MemoryFits p mem → (ty : Scalar) (v : Val Sym) → IsValue p (length mem.made) ty v → (of : Name Sym) (o : Option MemoryBlock) → block_at mem of ≡ o → Has (λ (b : MemoryBlock). Unit {0}) o
    → Safe (λ (s : Shown). Unit {0}) (and_then (in_block p v) (or_stuck o))
at_block_safe p mem fits ty v h of None e there = absurd there
at_block_safe p mem fits ty v h of (Some block) e there = in_block_safe p (length mem.made) ty v h block (λ b same. fits.parts of b (e ∙ ap Some same))

-- An argument is shown, or a cause is there.
pub shown_safe : (p : ProgramData) (mem : MemoryData) → MemoryFits p mem → (ty : Scalar) (v : Val Sym) → IsValue p (length mem.made) ty v → Safe (λ (s : Shown). Unit {0}) (shown p mem v)
shown_safe p mem fits ty (val.Num n) h = bare_safe p (length mem.made) ty (val.Num n) h
shown_safe p mem fits ty val.Null h = bare_safe p (length mem.made) ty val.Null h
shown_safe p mem fits ty (val.At (name.Var symbol) offset) h =
    at_block_safe p mem fits ty (val.At (name.Var symbol) offset) h (name.Var symbol) (block_at mem (name.Var symbol)) refl (block_has p mem fits symbol h.1)
shown_safe p mem fits ty (val.At (name.Func symbol) offset) h = bare_safe p (length mem.made) ty (val.At (name.Func symbol) offset) h
shown_safe p mem fits ty (val.At (name.Made number) offset) h =
    at_block_safe p mem fits ty (val.At (name.Made number) offset) h (name.Made number) (block_at mem (name.Made number)) refl (made_has mem.made number h.1)
shown_safe p mem fits ty val.Poison h = tt

pub shown_all_safe : (p : ProgramData) (mem : MemoryData) → MemoryFits p mem → (vs : List (Val Sym)) → All (λ v. (ty : Scalar) × IsValue p (length mem.made) ty v) vs → Safe (λ (s : List Shown). Unit {0}) (shown_all p mem vs)
shown_all_safe p mem fits [] h = tt
shown_all_safe p mem fits (v ∷ vs) h =
    let first = All-head (λ x. (ty : Scalar) × IsValue p (length mem.made) ty x) v vs h in
    safe_then (λ (s : Shown). Unit {0}) (λ (s : List Shown). Unit {0}) _ (shown p mem v) (shown_safe p mem fits first.0 v first.1) (λ one k.
    safe_then (λ (s : List Shown). Unit {0}) (λ (s : List Shown). Unit {0}) _ (shown_all p mem vs) (shown_all_safe p mem fits vs (All-tail (λ x. (ty : Scalar) × IsValue p (length mem.made) ty x) v vs h)) (λ more j. tt))

-- the same of values of a list of types
pub shown_typed_safe : (p : ProgramData) (mem : MemoryData) → MemoryFits p mem → (tys : List Scalar) (vs : List (Val Sym)) → AllZip (IsValue p (length mem.made)) tys vs → Safe (λ (s : List Shown). Unit {0}) (shown_all p mem vs)
shown_typed_safe p mem fits tys vs h = shown_all_safe p mem fits vs (each tys vs h)
  where
    each : (tys : List Scalar) (vs : List (Val Sym)) → AllZip (IsValue p (length mem.made)) tys vs → All (λ v. (ty : Scalar) × IsValue p (length mem.made) ty v) vs
    each [] [] h = All-nil (λ v. (ty : Scalar) × IsValue p (length mem.made) ty v)
    each [] (v ∷ vs) h = absurd h
    each (ty ∷ tys) [] h = absurd h
    each (ty ∷ tys) (v ∷ vs) h = All-cons (λ x. (s : Scalar) × IsValue p (length mem.made) s x) v vs (ty, h.0) (each tys vs h.1)

-- ---- poison

-- Where the look at poison is passed, no argument is poison.
pub no_poison_safe : (vs : List (Val Sym)) → Safe (λ fine. All (λ v. v ≢ val.Poison) vs) (no_poison vs)
no_poison_safe [] = All-nil (λ v. v ≢ val.Poison)
no_poison_safe (val.Num n ∷ vs) = safe_weaker (λ fine. All (λ v. v ≢ val.Poison) vs) _ (no_poison vs) (no_poison_safe vs) (λ fine h. All-cons (λ v. v ≢ val.Poison) (val.Num n) vs (λ e. cc) h)
no_poison_safe (val.Null ∷ vs) = safe_weaker (λ fine. All (λ v. v ≢ val.Poison) vs) _ (no_poison vs) (no_poison_safe vs) (λ fine h. All-cons (λ v. v ≢ val.Poison) val.Null vs (λ e. cc) h)
no_poison_safe (val.At of offset ∷ vs) = safe_weaker (λ fine. All (λ v. v ≢ val.Poison) vs) _ (no_poison vs) (no_poison_safe vs) (λ fine h. All-cons (λ v. v ≢ val.Poison) (val.At of offset) vs (λ e. cc) h)
no_poison_safe (val.Poison ∷ vs) = tt
