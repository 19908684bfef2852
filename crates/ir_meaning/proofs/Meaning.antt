-- What has a meaning.
use Rattle.std.proofs.Common.{◌≡◌, ◌∙◌, ℕ, List, Option, Some, None, refl, sym, ap, subst, IsSome, option_and_then, option_map, slice_get}
use Rattle.ir_types.specs.declared.scalar.Scalar.{Scalar}
use Rattle.ir_types.specs.declared.scalar.BinOp.{BinOp}
use Rattle.ir_types.specs.declared.scalar.Flags.{Flags}
use Rattle.int_ops.specs.declared.outcome.Outcome.{Outcome}
use Rattle.ir_syntax.specs.declared.symbol.Sym.{Sym}
use Rattle.ir_syntax.specs.declared.item.Item.{Item}
use Rattle.ir_syntax.specs.Programs.{ProgramData}
use Rattle.ir_syntax.specs.Symbols.{item_at}
use Rattle.ir_syntax.specs.Targets.{entry_at}
use Rattle.block_memory.specs.declared.value.Val.{Val}
use Rattle.block_memory.specs.Answers.{Answer, Gives, Undefined, Stuck, IsMeant, and_then}
use Rattle.block_memory.specs.Starts.{name_of, name_as}
use Rattle.ir_steps.specs.Reading.{number, of_outcome}
use Rattle.ir_steps.specs.Calls.{func_of, function_at, body_of}
use Rattle.ir_meaning.specs.Models.{block_in}

there : {A B : Type 0} (F : A → Option B) (o : Option A) → IsSome (option_and_then F o) → IsSome o
there F None some = absurd (cc)
there F (Some x) some = refl

pub named_is_item : (p : ProgramData) (symbol : Sym) → IsSome (name_of p symbol) → IsSome (item_at p.modules symbol)
named_is_item p symbol some = there (λ found. option_map (name_as found) (entry_at p.canonical symbol)) (item_at p.modules symbol) some

-- ---- steps in turn

-- what is done first has a meaning,
pub first : {A B : Type 0} (F : A → Answer B) (a : Answer A) → IsMeant (and_then F a) → IsMeant a
first F (Gives x) meant = tt
first F (Undefined cause) meant = tt
first F Stuck meant = meant

-- and so has what is done next
pub next : {A B : Type 0} (F : A → Answer B) (a : Answer A) (x : A) → a ≡ Gives x → IsMeant (and_then F a) → IsMeant (F x)
next F a x is meant = subst (λ found. IsMeant (and_then F found)) is meant

-- what both together answer
pub then_is : {A B : Type 0} (F : A → Answer B) (a : Answer A) (x : A) (y : Answer B) → a ≡ Gives x → F x ≡ y → and_then F a ≡ y
then_is F a x y is gives = ap (and_then F) is ∙ gives

-- ---- numbers

pub first_number : (G : Option ℕ → Option ℕ → Outcome) (a b : Val Sym) → IsMeant (and_then (λ x. and_then (λ y. of_outcome (G x y)) (number b)) (number a)) → IsMeant (number a)
first_number G a b meant = first (λ x. and_then (λ y. of_outcome (G x y)) (number b)) (number a) meant

pub second_number : (G : Option ℕ → Option ℕ → Outcome) (a b : Val Sym) (x : Option ℕ) → number a ≡ Gives x → IsMeant (and_then (λ x. and_then (λ y. of_outcome (G x y)) (number b)) (number a)) → IsMeant (number b)
second_number G a b x is meant = first (λ y. of_outcome (G x y)) (number b) (next (λ x. and_then (λ y. of_outcome (G x y)) (number b)) (number a) x is meant)

pub bin_is : (G : Option ℕ → Option ℕ → Outcome) (a b : Val Sym) (x y : Option ℕ) → number a ≡ Gives x → number b ≡ Gives y → and_then (λ x. and_then (λ y. of_outcome (G x y)) (number b)) (number a) ≡ of_outcome (G x y)
bin_is G a b x y first second = ap (and_then (λ x. and_then (λ y. of_outcome (G x y)) (number b))) first ∙ ap (and_then (λ y. of_outcome (G x y))) second

-- ---- places

pub function_is_item : (p : ProgramData) (symbol : Sym) → IsSome (function_at p symbol) → IsSome (item_at p.modules symbol)
function_is_item p symbol some = there func_of (item_at p.modules symbol) some

pub body_is_of_function : (p : ProgramData) (symbol : Sym) → IsSome (body_of p symbol) → IsSome (function_at p symbol)
body_is_of_function p symbol some = there (λ func. func.body) (function_at p symbol) some

pub block_is_of_body : (p : ProgramData) (symbol : Sym) (block : ℕ) → IsSome (block_in p symbol block) → IsSome (body_of p symbol)
block_is_of_body p symbol block some = there (λ body. slice_get body.blocks block) (body_of p symbol) some
