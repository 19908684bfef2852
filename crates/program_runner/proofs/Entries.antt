-- The entry of a program, and the numbers that it is called with.
use Rattle.std.proofs.Common.{◌≡◌, ◌≢◌, ℕ, ℤ, IsTrue, List, [], ◌∷◌, All, Option, Some, None, IsSome, option_map, option_and_then, refl, sym, ap, subst}
use Rattle.std.specs.List.{AllZip}
use Rattle.std.proofs.lemmas.List.Elements.{All-head, All-tail}
use Rattle.std.proofs.lemmas.Bool.{false≢true}
use Rattle.std.proofs.lemmas.Option.{none-some, same_Some}
use Rattle.ir_types.specs.declared.scalar.Scalar.TheVariants.{Ptr}
use Rattle.ir_types.specs.Scalars.{is_number_of}
use Rattle.ir_types.specs.declared.scalar.Known.{Known}
use Rattle.ir_syntax.specs.declared.body.Body.{Body}
use Rattle.ir_syntax.specs.declared.item.Param.{Param}
use Rattle.ir_syntax.specs.declared.item.Func.{Func}
use Rattle.ir_syntax.specs.declared.item.Item.{Item}
use Rattle.ir_syntax.specs.declared.item.Item.TheVariants as item
use Rattle.ir_syntax.specs.Symbols.{item_at, IsFunctionFor}
use Rattle.ir_syntax.specs.Programs.{ProgramData, IsProgram, arguments_of}
use Rattle.ir_syntax.specs.Refusals.{IsArgumentOf}
use Rattle.ir_syntax.specs.declared.symbol.Sym.{Sym}
use Rattle.ir_steps.specs.Calls.{function_at, func_of}
use Rattle.ir_steps.specs.Reached.{IsRoot}
use Rattle.linker.proofs.Numbers.{is_number}
use Rattle.program_runner.specs.Arguments.{filled, numbers_in, TakesWords}

-- ---- the entry is a function with a body

there : {A B : Type 0} (f : A → Option B) (found : Option A) → IsSome (option_and_then f found) → IsSome found
there f None some = some
there f (Some x) some = refl

pub function_is_item : (p : ProgramData) (symbol : Sym) → IsSome (function_at p symbol) → IsSome (item_at p.modules symbol)
function_is_item p symbol some = there func_of (item_at p.modules symbol) some

function_for : (known : List Known) (found : Option Item) → IsFunctionFor known found → IsSome (option_and_then func_of found)
function_for known None is = absurd is
function_for known (Some (item.Var var)) is = absurd is
function_for known (Some (item.Func func)) is = refl

pub entry_is_function : (p : ProgramData) → IsProgram p → IsSome (function_at p p.entry)
entry_is_function p is = function_for p.entry_args (item_at p.modules p.entry) is.entry

item_of : (func : Func) (found : Option Item) → option_and_then func_of found ≡ Some func → found ≡ Some (item.Func func)
item_of func None e = absurd (none-some func e)
item_of func (Some (item.Var var)) e = absurd (none-some func e)
item_of func (Some (item.Func other)) e = ap (λ (f : Func). Some (item.Func f)) (same_Some other func e)

pub function_is : (p : ProgramData) (symbol : Sym) (func : Func) → function_at p symbol ≡ Some func → item_at p.modules symbol ≡ Some (item.Func func)
function_is p symbol func e = item_of func (item_at p.modules symbol) e

body_of_entry : (known : List Known) (func : Func) (found : Option Item) → found ≡ Some (item.Func func) → IsFunctionFor known found → IsSome func.body
body_of_entry known func found e is = (subst (IsFunctionFor known) e is).0

the_body : (body : Option Body) → IsSome body → (b : Body) × (body ≡ Some b)
the_body None some = absurd (false≢true some)
the_body (Some b) some = (b, refl)

-- ---- each argument is known

AllKnown : List (Option ℤ) → Type 0
AllKnown [] = Unit {0}
AllKnown (None ∷ given) = ⊥
AllKnown (Some z ∷ given) = AllKnown given

known_behind : (z : ℤ) (rest : Option (List (Option ℤ))) (given : List (Option ℤ)) → ((more : List (Option ℤ)) → rest ≡ Some more → AllKnown more)
    → option_map (λ more. Some z ∷ more) rest ≡ Some given → AllKnown given
unfolding AllKnown
known_behind z None given known e = absurd (none-some given e)
known_behind z (Some more) given known e = subst AllKnown (same_Some (Some z ∷ more) given e) (known more refl)

filled_known : (args : List (Option ℤ)) (words : List ℤ) (given : List (Option ℤ)) → filled args words ≡ Some given → AllKnown given
unfolding AllKnown
filled_known [] [] given e = subst AllKnown (same_Some [] given e) tt
filled_known [] (word ∷ words) given e = absurd (none-some given e)
filled_known (Some z ∷ args) words given e = known_behind z (filled args words) given (filled_known args words) e
filled_known (None ∷ args) [] given e = absurd (none-some given e)
filled_known (None ∷ args) (word ∷ words) given e = known_behind word (filled args words) given (filled_known args words) e

suits : (params : List Param) (given : List (Option ℤ)) → All (λ param. param.ty ≢ Ptr) params → AllZip IsArgumentOf params given → AllKnown given
    → AllZip (λ param n. IsTrue (is_number_of param.ty n)) params (numbers_in (arguments_of params given))
unfolding AllKnown
suits [] [] plain fit known = tt
suits [] (arg ∷ given) plain fit known = absurd fit
suits (param ∷ params) [] plain fit known = absurd fit
suits (param ∷ params) (None ∷ given) plain fit known = absurd known
suits (param ∷ params) (Some z ∷ given) plain fit known =
    (is_number param.ty z (All-head (λ p. p.ty ≢ Ptr) param params plain), suits params given (All-tail (λ p. p.ty ≢ Ptr) param params plain) fit.1 known)

-- ---- the call of the entry

pub entry_is_root : (p : ProgramData) (func : Func) (args : List (Option ℤ)) (words : List ℤ) (numbers : List ℕ) → IsProgram p → item_at p.modules p.entry ≡ Some (item.Func func) → TakesWords func args words numbers
    → IsRoot p p.entry numbers
entry_is_root p func args words numbers is e takes =
    let b : (b : Body) × (func.body ≡ Some b) = the_body func.body (body_of_entry p.entry_args func (item_at p.modules p.entry) e is.entry) in
    record {
      func = func;
      is = e;
      body = b.0;
      has_body = b.1;
      suits = subst (λ (ns : List ℕ). AllZip (λ param n. IsTrue (is_number_of param.ty n)) func.params ns) (sym takes.numbers_are)
          (suits func.params takes.given takes.fit.plain.params takes.fit.args_fit (filled_known args words takes.given takes.filled_are));
    }
