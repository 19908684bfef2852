-- What a call outside is shown: its arguments by name, and the whole blocks of those that are addresses.
use Rattle.std.specs.Prelude.{false, List, [], ◌∷◌, Option, Some, None, option_map, option_and_then}
use Rattle.ir_syntax.specs.declared.symbol.Sym.{Sym}
use Rattle.ir_syntax.specs.declared.symbol.SymName.{SymName}
use Rattle.ir_syntax.specs.Programs.{ProgramData}
use Rattle.ir_syntax.specs.Symbols.{symbol_name}
use Rattle.int_ops.specs.declared.cause.Cause.TheVariants as cause
use Rattle.block_memory.specs.declared.value.Name.{Name}
use Rattle.block_memory.specs.declared.value.Name.TheVariants as name
use Rattle.block_memory.specs.declared.value.Val.{Val}
use Rattle.block_memory.specs.declared.value.Val.TheVariants as val
use Rattle.block_memory.specs.declared.value.Part.{Part}
use Rattle.block_memory.specs.declared.value.Part.TheVariants as part
use Rattle.block_memory.specs.Answers.{Answer, Gives, Undefined, and_then, or_stuck}
use Rattle.block_memory.specs.Blocks.{LiveBlock, MemoryBlock, Live, Ended, MemoryData, block_at}
use Rattle.ir_steps.specs.declared.session.Shown.{Shown}

-- ---- symbols by name

abbrev pub shown_name : ProgramData → Name Sym → Option (Name SymName)
shown_name p (name.Var symbol) = option_map (λ s. name.Var s) (symbol_name p.modules symbol)
shown_name p (name.Func symbol) = option_map (λ s. name.Func s) (symbol_name p.modules symbol)
shown_name p (name.Made number) = Some (name.Made number)

abbrev pub shown_value : ProgramData → Val Sym → Option (Val SymName)
shown_value p (val.Num n) = Some (val.Num n)
shown_value p val.Null = Some val.Null
shown_value p (val.At of offset) = option_map (λ n. val.At n offset) (shown_name p of)
shown_value p val.Poison = Some val.Poison

abbrev pub shown_part : ProgramData → Part Sym → Option (Part SymName)
shown_part p part.Poison = Some part.Poison
shown_part p (part.Num byte) = Some (part.Num byte)
shown_part p (part.Of of offset k) = option_map (λ n. part.Of n offset k) (shown_name p of)

abbrev pub shown_parts : ProgramData → List (Part Sym) → Option (List (Part SymName))
shown_parts p [] = Some []
shown_parts p (x ∷ xs) = option_and_then (λ one. option_map (λ more. one ∷ more) (shown_parts p xs)) (shown_part p x)

-- ---- arguments

-- a value without a block
abbrev pub bare : ProgramData → Val Sym → Answer Shown
bare p v = and_then (λ named. Gives (record { value = named; block = None; writable = false })) (or_stuck (shown_value p v))

abbrev pub with_block : ProgramData → Val Sym → LiveBlock → Answer Shown
with_block p v block =
    and_then (λ named. and_then (λ parts. Gives (record { value = named; block = Some parts; writable = block.writable })) (or_stuck (shown_parts p block.parts))) (or_stuck (shown_value p v))

abbrev pub in_block : ProgramData → Val Sym → MemoryBlock → Answer Shown
in_block p v (Live block) = with_block p v block
in_block p v (Ended size) = Undefined cause.EndedBlock

abbrev pub shown_at : ProgramData → MemoryData → Val Sym → Name Sym → Answer Shown
shown_at p mem v (name.Var symbol) = and_then (in_block p v) (or_stuck (block_at mem (name.Var symbol)))
shown_at p mem v (name.Func symbol) = bare p v
shown_at p mem v (name.Made number) = and_then (in_block p v) (or_stuck (block_at mem (name.Made number)))

-- One argument. Poison isn't shown.
abbrev pub shown : ProgramData → MemoryData → Val Sym → Answer Shown
shown p mem (val.Num n) = bare p (val.Num n)
shown p mem val.Null = bare p val.Null
shown p mem (val.At of offset) = shown_at p mem (val.At of offset) of
shown p mem val.Poison = Undefined cause.PoisonToOutside

abbrev pub shown_all : ProgramData → MemoryData → List (Val Sym) → Answer (List Shown)
shown_all p mem [] = Gives []
shown_all p mem (v ∷ vs) = and_then (λ one. and_then (λ more. Gives (one ∷ more)) (shown_all p mem vs)) (shown p mem v)

-- None of the arguments of a call that leaves the program may be poison: that is looked at before any block.
abbrev pub no_poison : List (Val Sym) → Answer (Unit {0})
no_poison [] = Gives tt
no_poison (val.Num n ∷ vs) = no_poison vs
no_poison (val.Null ∷ vs) = no_poison vs
no_poison (val.At of offset ∷ vs) = no_poison vs
no_poison (val.Poison ∷ vs) = Undefined cause.PoisonToOutside
