-- What is shown has a name.
use Rattle.std.proofs.Common.{◌≡◌, ◌∙◌, List, [], ◌∷◌, Option, Some, None, refl, sym, ap, subst, ℤ, ℕ, ◌<◌, length, slice_get, All, IsSome, option_and_then, option_map}
use Rattle.ir_syntax.specs.declared.symbol.Sym.{Sym}
use Rattle.ir_syntax.specs.declared.symbol.SymName.{SymName}
use Rattle.ir_syntax.specs.Programs.{ProgramData}
use Rattle.ir_syntax.specs.Symbols.{item_at, symbol_name, linkage_of, home_of}
use Rattle.ir_syntax.specs.FormedBody.{item_name}
use Rattle.block_memory.specs.declared.value.Name.{Name}
use Rattle.block_memory.specs.declared.value.Name.TheVariants as name
use Rattle.block_memory.specs.declared.value.Val.{Val}
use Rattle.block_memory.specs.declared.value.Val.TheVariants as val
use Rattle.block_memory.specs.declared.value.Part.{Part}
use Rattle.block_memory.specs.declared.value.Part.TheVariants as part
use Rattle.block_memory.specs.Answers.{Answer, Gives, Undefined, Stuck, IsMeant, and_then, or_stuck}
use Rattle.block_memory.specs.Blocks.{Live, MemoryBlock, MemoryData, var_at, block_at, IsNamed, IsKnown}
use Rattle.std.proofs.lemmas.List.Elements.{All-nil, All-cons}
use Rattle.std.proofs.lemmas.Option.{slice_get_within}
use Rattle.ir_steps.specs.declared.session.Shown.{Shown}
use Rattle.ir_steps.specs.declared.session.Stepped.TheVariants as stepped
use Rattle.ir_steps.specs.Results.{state}
use Rattle.ir_steps.specs.Showing.{shown_name, shown_value, shown_part, in_block, shown, shown_all}
use Rattle.ir_steps.specs.Returns.{root_returns}
use Rattle.ir_meaning.proofs.Meaning.{first}

mapped : {A B : Type 0} (F : A → B) (o : Option A) → IsSome (option_map F o) → IsSome o
mapped F None some = absurd (cc)
mapped F (Some x) some = refl

meant_is_there : {A : Type 0} (o : Option A) → IsMeant (or_stuck o) → IsSome o
meant_is_there None meant = absurd meant
meant_is_there (Some x) meant = refl

pub var_is_item : (p : ProgramData) (symbol : Sym) → IsSome (shown_name p (name.Var symbol)) → IsSome (item_at p.modules symbol)
var_is_item p symbol some = mapped (λ found. record { home = home_of (linkage_of found) symbol.module; name = item_name found }) (item_at p.modules symbol) (mapped (λ s. name.Var s) (symbol_name p.modules symbol) some)

pub func_is_item : (p : ProgramData) (symbol : Sym) → IsSome (shown_name p (name.Func symbol)) → IsSome (item_at p.modules symbol)
func_is_item p symbol some = mapped (λ found. record { home = home_of (linkage_of found) symbol.module; name = item_name found }) (item_at p.modules symbol) (mapped (λ s. name.Func s) (symbol_name p.modules symbol) some)

pub at_has_name : (p : ProgramData) (of : Name Sym) (k : ℤ) → IsSome (shown_value p (val.At of k)) → IsSome (shown_name p of)
at_has_name p of k some = mapped (λ n. val.At n k) (shown_name p of) some

pub part_has_name : (p : ProgramData) (of : Name Sym) (offset : ℤ) (k : ℕ) → IsSome (shown_part p (part.Of of offset k)) → IsSome (shown_name p of)
part_has_name p of offset k some = mapped (λ n. part.Of n offset k) (shown_name p of) some

pub root_is_shown : (p : ProgramData) (v : Val Sym) → ((mem : MemoryData) → IsMeant (root_returns p mem (Some v))) → IsSome (shown_value p v)
root_is_shown p v meant =
    let no_memory : MemoryData = record { vars = []; made = [] } in
    meant_is_there (shown_value p v) (first (λ named. Gives (stepped.Returned (Some named), state [] no_memory)) (or_stuck (shown_value p v)) (meant no_memory))

-- ---- what is shown is known

named : (mem : MemoryData) (of : Name Sym) → IsSome (block_at mem of) → IsNamed mem of
named mem (name.Var symbol) some = mapped Live (var_at mem symbol) some
named mem (name.Func symbol) some = tt
named mem (name.Made number) some = within (slice_get mem.made number) refl some where
  within : (o : Option MemoryBlock) → slice_get mem.made number ≡ o → IsSome o → number < length mem.made
  within None is some = absurd (cc (some))
  within (Some x) is some = slice_get_within mem.made number x is

found : {A B : Type 0} (F : A → Answer B) (o : Option A) (y : B) → and_then F (or_stuck o) ≡ Gives y → IsSome o
found F None y is = absurd (cc (is))
found F (Some x) y is = refl

known_one : (p : ProgramData) (mem : MemoryData) (v : Val Sym) (x : Shown) → shown p mem v ≡ Gives x → IsKnown mem v
known_one p mem (val.Num n) x is = tt
known_one p mem val.Null x is = tt
known_one p mem (val.At (name.Var symbol) k) x is = named mem (name.Var symbol) (found (in_block p (val.At (name.Var symbol) k)) (block_at mem (name.Var symbol)) x is)
known_one p mem (val.At (name.Func symbol) k) x is = tt
known_one p mem (val.At (name.Made number) k) x is = named mem (name.Made number) (found (in_block p (val.At (name.Made number) k)) (block_at mem (name.Made number)) x is)
known_one p mem val.Poison x is = tt

pub shown_are_known : (p : ProgramData) (mem : MemoryData) (vs : List (Val Sym)) (xs : List Shown) → shown_all p mem vs ≡ Gives xs → All (IsKnown mem) vs
shown_are_known p mem [] xs is = All-nil (IsKnown mem)
shown_are_known p mem (v ∷ vs) xs is = one (shown p mem v) (shown_all p mem vs) refl (shown_are_known p mem vs) is where
  two : (x : Shown) (rest : Answer (List Shown)) → IsKnown mem v → ((ys : List Shown) → rest ≡ Gives ys → All (IsKnown mem) vs) → and_then (λ more. Gives (x ∷ more)) rest ≡ Gives xs → All (IsKnown mem) (v ∷ vs)
  two x (Gives ys) here more is = All-cons (IsKnown mem) v vs here (more ys refl)
  two x (Undefined cause) here more is = absurd (cc (is))
  two x Stuck here more is = absurd (cc (is))

  one : (a : Answer Shown) (rest : Answer (List Shown)) → shown p mem v ≡ a → ((ys : List Shown) → rest ≡ Gives ys → All (IsKnown mem) vs) → and_then (λ one. and_then (λ more. Gives (one ∷ more)) rest) a ≡ Gives xs → All (IsKnown mem) (v ∷ vs)
  one (Gives x) rest a more is = two x rest (known_one p mem v x a) more is
  one (Undefined cause) rest a more is = absurd (cc (is))
  one Stuck rest a more is = absurd (cc (is))

-- an address in a block with bytes
pub var_is_shown : (p : ProgramData) (mem : MemoryData) (v : Val Sym) (of : Name Sym) (symbol : Sym) (k : ℤ) → v ≡ val.At of k → of ≡ name.Var symbol → shown p mem v ≡ and_then (in_block p v) (or_stuck (block_at mem of))
var_is_shown p mem v of symbol k is names =
    let e : v ≡ val.At (name.Var symbol) k = is ∙ ap (λ o. val.At o k) names in
    ap (shown p mem) e ∙ sym (ap (λ w. and_then (in_block p w) (or_stuck (block_at mem of))) e ∙ ap (λ o. and_then (in_block p (val.At (name.Var symbol) k)) (or_stuck (block_at mem o))) names)

pub made_is_shown : (p : ProgramData) (mem : MemoryData) (v : Val Sym) (of : Name Sym) (number : ℕ) (k : ℤ) → v ≡ val.At of k → of ≡ name.Made number → shown p mem v ≡ and_then (in_block p v) (or_stuck (block_at mem of))
made_is_shown p mem v of number k is names =
    let e : v ≡ val.At (name.Made number) k = is ∙ ap (λ o. val.At o k) names in
    ap (shown p mem) e ∙ sym (ap (λ w. and_then (in_block p w) (or_stuck (block_at mem of))) e ∙ ap (λ o. and_then (in_block p (val.At (name.Made number) k)) (or_stuck (block_at mem o))) names)
