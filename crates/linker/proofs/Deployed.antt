-- The entry and the exports of a deployment.
use Rattle.std.proofs.Common.{◌≡◌, ◌≢◌, ◌∙◌, ℕ, ◌+◌, ◌<◌, ℤ, List, [], ◌∷◌, ◌++◌, length, take, drop, get_or, Option, None, Some, IsSome, refl, sym, ap, subst}
use Rattle.std.specs.List.{All, AllZip, Contains}
use Rattle.std.specs.Cmp.Lexicographic.{slice_cmp}
use Rattle.std.specs.Ordering.{nat_cmp}
use Rattle.std.proofs.lemmas.List.Elements.{Contains-get_or, All-head, All-tail, All-push, All-nil, All-cons, All-contains, All-weaker}
use Rattle.ir_types.specs.declared.scalar.Scalar.TheVariants.{Ptr}
use Rattle.ir_types.specs.declared.scalar.Known.{Known}
use Rattle.ir_syntax.specs.declared.symbol.Sym.{Sym}
use Rattle.ir_syntax.specs.declared.item.Param.{Param}
use Rattle.ir_syntax.specs.declared.item.Func.{Func}
use Rattle.ir_syntax.specs.declared.item.Item.TheVariants as item
use Rattle.ir_syntax.specs.declared.item.Module.{Module}
use Rattle.ir_syntax.specs.Symbols.{item_at, IsFunctionOf, IsKnownOf, IsFunctionFor, IsDefinedFunction}
use Rattle.ir_syntax.specs.Refusals.{Deployment, Rule, earlier, all_rules, HasTwoDefinitions, LacksFunction, HasPlainShape, IsArgumentOf, FitsEntry, HasOtherShape, Breaks, IsKept, IsLeast, IsRefused}
use Rattle.ir_syntax.specs.Programs.{argument_of, arguments_of, IsNamedFunction, IsEntryWith}
use Rattle.name_table.proofs.NameLists.{names_at}
use Rattle.linker.specs.Mirrors.Slots.{AreKeptBefore, IsLeastName}
use Rattle.linker.proofs.Steps.{zip_get}
use Rattle.linker.proofs.NameOrder.{not_below_itself}
use Rattle.linker.proofs.Numbers.{is_number}
use Rattle.linker.proofs.Tables.{one_function}

-- ---- what is kept before

-- no name has two definitions, where the rule is kept
pub single : (modules : List Module) (d : Deployment) (rules : List Rule) → All (IsKept modules d) (Rule.TwoDefinitions ∷ rules) → (name : List ℕ) → HasTwoDefinitions modules name → ⊥
single modules d rules kept = All-head (IsKept modules d) Rule.TwoDefinitions rules kept

pub single_at_entry : (modules : List Module) (d : Deployment) → AreKeptBefore modules d Rule.NoEntry → (name : List ℕ) → HasTwoDefinitions modules name → ⊥
single_at_entry modules d kept = single modules d (Rule.NoDefinition ∷ Rule.TypeClash ∷ []) kept

pub single_at_exports : (modules : List Module) (d : Deployment) → AreKeptBefore modules d Rule.NoExport → (name : List ℕ) → HasTwoDefinitions modules name → ⊥
single_at_exports modules d kept = single modules d (Rule.NoDefinition ∷ Rule.TypeClash ∷ Rule.NoEntry ∷ Rule.EntryShape ∷ []) kept

-- ---- the entry

-- only the entry's name breaks a rule of the entry, so it is the least
least_entry : (d : Deployment) (Broken : List ℕ → Type 0) → ((name : List ℕ) → Broken name → name ≡ d.entry) → Broken d.entry → IsLeast Broken d.entry
least_entry d Broken only b = record { broken = b; least = λ other ob less. not_below_itself d.entry (sym (ap (λ n. slice_cmp nat_cmp n d.entry) (only other ob)) ∙ less) }

pub no_entry : (modules : List Module) (d : Deployment) → AreKeptBefore modules d Rule.NoEntry → LacksFunction modules d.entry → IsRefused modules d Rule.NoEntry d.entry
no_entry modules d kept lacks = record { earlier_kept = kept; chosen = least_entry d (Breaks modules d Rule.NoEntry) (λ name b. b.0) (refl, lacks) }

entry_there : (modules : List Module) (d : Deployment) (symbol : Sym) → IsNamedFunction modules d.entry symbol → IsKept modules d Rule.NoEntry
entry_there modules d symbol is name b = b.1 symbol is.func (subst (λ n. IsFunctionOf modules n symbol is.func) (sym b.0) is.is_function)

with_entry : (modules : List Module) (d : Deployment) (symbol : Sym) → AreKeptBefore modules d Rule.NoEntry → IsNamedFunction modules d.entry symbol → AreKeptBefore modules d Rule.EntryShape
with_entry modules d symbol kept is = All-push (IsKept modules d) (earlier Rule.NoEntry) Rule.NoEntry kept (entry_there modules d symbol is)

func_is : (modules : List Module) (name : List ℕ) (symbol : Sym) (func : Func) → item_at modules symbol ≡ Some (item.Func func) → (is : IsNamedFunction modules name symbol) → is.func ≡ func
func_is modules name symbol func at is = let e : Some (item.Func is.func) ≡ Some (item.Func func) = sym is.is_function.is_of.stands ∙ at in cc

pub entry_misfits : (modules : List Module) (d : Deployment) (symbol : Sym) (func : Func) → AreKeptBefore modules d Rule.NoEntry → IsNamedFunction modules d.entry symbol → item_at modules symbol ≡ Some (item.Func func) → (FitsEntry d.args func → ⊥) → IsRefused modules d Rule.EntryShape d.entry
entry_misfits modules d symbol func kept is at misfits = record {
  earlier_kept = with_entry modules d symbol kept is;
  chosen = least_entry d (Breaks modules d Rule.EntryShape) (λ name b. b.0) (
    refl,
    record {
      symbol = symbol;
      func = is.func;
      is_function = is.is_function;
      misfits = λ fits. misfits (subst (FitsEntry d.args) (func_is modules d.entry symbol func at is) fits);
    },
  );
}

pub entry_kept : (modules : List Module) (d : Deployment) (symbol : Sym) (func : Func) → AreKeptBefore modules d Rule.NoEntry → IsNamedFunction modules d.entry symbol → item_at modules symbol ≡ Some (item.Func func) → FitsEntry d.args func → AreKeptBefore modules d Rule.NoExport
entry_kept modules d symbol func kept is at fits = All-push (IsKept modules d) (earlier Rule.EntryShape) Rule.EntryShape (with_entry modules d symbol kept is) shaped
  where
    shaped : IsKept modules d Rule.EntryShape
    shaped name b =
        let other : IsFunctionOf modules d.entry b.1.symbol b.1.func = subst (λ n. IsFunctionOf modules n b.1.symbol b.1.func) b.0 b.1.is_function in
        let same_func : b.1.func ≡ is.func = one_function modules d.entry b.1.symbol symbol b.1.func is.func (single_at_entry modules d kept d.entry) other is.is_function in
        b.1.misfits (subst (FitsEntry d.args) (sym (same_func ∙ func_is modules d.entry symbol func at is)) fits)

pub entry_with : (modules : List Module) (d : Deployment) (symbol : Sym) (func : Func) (known : List Known) → IsNamedFunction modules d.entry symbol → item_at modules symbol ≡ Some (item.Func func) → known ≡ arguments_of func.params d.args → IsEntryWith modules d symbol known
entry_with modules d symbol func known is at args = record {
  func = is.func;
  is_function = is.is_function;
  args = args ∙ ap (λ f. arguments_of f.params d.args) (sym (func_is modules d.entry symbol func at is));
}

known_is : (param : Param) (arg : Option ℤ) → param.ty ≢ Ptr → IsArgumentOf param arg → IsKnownOf param (argument_of param arg)
known_is param None plain fits = tt
known_is param (Some z) plain fits = is_number param.ty z plain

known_are : (params : List Param) (args : List (Option ℤ)) → All (λ param. param.ty ≢ Ptr) params → AllZip IsArgumentOf params args → AllZip IsKnownOf params (arguments_of params args)
known_are [] [] plain fits = fits
known_are [] (arg ∷ args) plain fits = absurd fits
known_are (param ∷ params) [] plain fits = absurd fits
known_are (param ∷ params) (arg ∷ args) plain fits =
    (known_is param arg (All-head (λ p. p.ty ≢ Ptr) param params plain) fits.0, known_are params args (All-tail (λ p. p.ty ≢ Ptr) param params plain) fits.1)

pub function_for : (modules : List Module) (d : Deployment) (symbol : Sym) (func : Func) (known : List Known) → IsNamedFunction modules d.entry symbol → item_at modules symbol ≡ Some (item.Func func) → FitsEntry d.args func → known ≡ arguments_of func.params d.args → IsFunctionFor known (item_at modules symbol)
function_for modules d symbol func known is at fits args =
    subst (IsFunctionFor known) (sym at)
    (subst (λ f. IsSome f.body) (func_is modules d.entry symbol func at is) is.is_function.has_body, subst (AllZip IsKnownOf func.params) (sym args) (known_are func.params d.args fits.plain.params fits.args_fit))

-- ---- the exports

named_all : (modules : List Module) (names : List (List ℕ)) (symbols : List Sym) → AllZip (IsNamedFunction modules) names symbols → All (λ name. LacksFunction modules name → ⊥) names
named_all modules [] [] h = All-nil (λ name. LacksFunction modules name → ⊥)
named_all modules [] (s ∷ symbols) h = absurd h
named_all modules (n ∷ names) [] h = absurd h
named_all modules (n ∷ names) (s ∷ symbols) h = All-cons (λ name. LacksFunction modules name → ⊥) n names (λ lacks. lacks s h.0.func h.0.is_function) (named_all modules names symbols h.1)

pub no_export : (modules : List Module) (d : Deployment) (before after : List (List ℕ)) (name : List ℕ) (symbols : List Sym) → AreKeptBefore modules d Rule.NoExport → d.exports ≡ before ++ name ∷ after → AllZip (IsNamedFunction modules) before symbols → Contains d.exports name → LacksFunction modules name
    → IsRefused modules d Rule.NoExport name
no_export modules d before after name symbols kept is named there lacks = record {
  earlier_kept = kept;
  chosen = record {
    before = before;
    after = after;
    stands = is;
    broken = (there, lacks);
    first = All-weaker (λ n. LacksFunction modules n → ⊥) (λ n. Breaks modules d Rule.NoExport n → ⊥) (λ n f b. f b.1) before (named_all modules before symbols named);
  };
}

exports_there : (modules : List Module) (d : Deployment) (symbols : List Sym) → AllZip (IsNamedFunction modules) d.exports symbols → IsKept modules d Rule.NoExport
exports_there modules d symbols named name b = All-contains (λ n. LacksFunction modules n → ⊥) d.exports name (named_all modules d.exports symbols named) b.0 b.1

with_exports : (modules : List Module) (d : Deployment) (symbols : List Sym) → AreKeptBefore modules d Rule.NoExport → AllZip (IsNamedFunction modules) d.exports symbols → AreKeptBefore modules d Rule.ExportShape
with_exports modules d symbols kept named = All-push (IsKept modules d) (earlier Rule.NoExport) Rule.NoExport kept (exports_there modules d symbols named)

abbrev pub IsShaped : List Module → List ℕ → Type 0
IsShaped modules name = HasOtherShape modules HasPlainShape name → ⊥

pub export_misfits : (modules : List Module) (d : Deployment) (before after : List (List ℕ)) (name : List ℕ) (symbols : List Sym) (symbol : Sym) (func : Func) → AreKeptBefore modules d Rule.NoExport → AllZip (IsNamedFunction modules) d.exports symbols
    → d.exports ≡ before ++ name ∷ after → All (IsShaped modules) before → Contains d.exports name → IsNamedFunction modules name symbol → item_at modules symbol ≡ Some (item.Func func) → (HasPlainShape func → ⊥) → IsRefused modules d Rule.ExportShape name
export_misfits modules d before after name symbols symbol func kept named is shaped there function at misfits = record {
  earlier_kept = with_exports modules d symbols kept named;
  chosen = record {
    before = before;
    after = after;
    stands = is;
    broken = (there, record { symbol = symbol; func = function.func; is_function = function.is_function; misfits = λ plain. misfits (subst HasPlainShape (func_is modules name symbol func at function) plain) });
    first = All-weaker (IsShaped modules) (λ n. Breaks modules d Rule.ExportShape n → ⊥) (λ n f b. f b.1) before shaped;
  };
}

pub export_shaped : (modules : List Module) (d : Deployment) (name : List ℕ) (symbol : Sym) (func : Func) → AreKeptBefore modules d Rule.NoExport → IsNamedFunction modules name symbol → item_at modules symbol ≡ Some (item.Func func) → HasPlainShape func → IsShaped modules name
export_shaped modules d name symbol func kept is at plain other =
    let same_func : other.func ≡ is.func = one_function modules name other.symbol symbol other.func is.func (single_at_exports modules d kept name) other.is_function is.is_function in
    other.misfits (subst HasPlainShape (sym (same_func ∙ func_is modules name symbol func at is)) plain)

pub exports_kept : (modules : List Module) (d : Deployment) (symbols : List Sym) → AreKeptBefore modules d Rule.NoExport → AllZip (IsNamedFunction modules) d.exports symbols → All (IsShaped modules) d.exports → All (IsKept modules d) all_rules
exports_kept modules d symbols kept named shaped = All-push (IsKept modules d) (earlier Rule.ExportShape) Rule.ExportShape (with_exports modules d symbols kept named) (λ name b. All-contains (IsShaped modules) d.exports name shaped b.0 b.1)

pub defined_all : (modules : List Module) (names : List (List ℕ)) (symbols : List Sym) → AllZip (IsNamedFunction modules) names symbols → All (λ symbol. IsDefinedFunction (item_at modules symbol)) symbols
defined_all modules [] [] h = All-nil (λ symbol. IsDefinedFunction (item_at modules symbol))
defined_all modules [] (s ∷ symbols) h = absurd h
defined_all modules (n ∷ names) [] h = absurd h
defined_all modules (n ∷ names) (s ∷ symbols) h =
    All-cons (λ symbol. IsDefinedFunction (item_at modules symbol)) s symbols (subst IsDefinedFunction (sym h.0.is_function.is_of.stands) h.0.is_function.has_body) (defined_all modules names symbols h.1)

-- ---- as far as a place of the exports

-- the symbol at a place is that of the name there
pub named_at : (modules : List Module) (exports all : List (List ℕ)) (symbols : List Sym) (i : ℕ) (name : List ℕ) (e : Sym) → exports ≡ all → i < length exports → name ≡ get_or exports i name → AllZip (IsNamedFunction modules) all symbols → IsNamedFunction modules name (get_or symbols i e)
named_at modules exports all symbols i name e same_exports within is named =
    subst (λ n. IsNamedFunction modules n (get_or symbols i e)) (sym is) (zip_get (IsNamedFunction modules) exports symbols i name e within (subst (λ ns. AllZip (IsNamedFunction modules) ns symbols) (sym same_exports) named))

stands_at : (exports all : List (List ℕ)) (i : ℕ) (name : List ℕ) → exports ≡ all → i < length exports → name ≡ get_or exports i name → all ≡ take i exports ++ name ∷ drop (i + 1) exports
stands_at exports all i name same_exports within is = sym same_exports ∙ names_at exports i name within is

there_at : (exports all : List (List ℕ)) (i : ℕ) (name : List ℕ) → exports ≡ all → i < length exports → name ≡ get_or exports i name → Contains all name
there_at exports all i name same_exports within is = subst (λ ns. Contains ns name) same_exports (subst (Contains exports) (sym is) (Contains-get_or exports i name within))

pub no_export_at : (modules : List Module) (d : Deployment) (exports : List (List ℕ)) (i : ℕ) (name : List ℕ) (symbols : List Sym) → exports ≡ d.exports → i < length exports → name ≡ get_or exports i name → AreKeptBefore modules d Rule.NoExport
    → AllZip (IsNamedFunction modules) (take i exports) symbols → LacksFunction modules name → IsRefused modules d Rule.NoExport name
no_export_at modules d exports i name symbols same_exports within is kept named lacks =
    no_export modules d (take i exports) (drop (i + 1) exports) name symbols kept (stands_at exports d.exports i name same_exports within is) named (there_at exports d.exports i name same_exports within is) lacks

pub export_misfits_at : (modules : List Module) (d : Deployment) (exports : List (List ℕ)) (i : ℕ) (name : List ℕ) (symbols : List Sym) (symbol : Sym) (func : Func) → exports ≡ d.exports → i < length exports → name ≡ get_or exports i name → AreKeptBefore modules d Rule.NoExport
    → AllZip (IsNamedFunction modules) d.exports symbols → All (IsShaped modules) (take i exports) → IsNamedFunction modules name symbol → item_at modules symbol ≡ Some (item.Func func) → (HasPlainShape func → ⊥) → IsRefused modules d Rule.ExportShape name
export_misfits_at modules d exports i name symbols symbol func same_exports within is kept named shaped function at misfits =
    export_misfits modules d (take i exports) (drop (i + 1) exports) name symbols symbol func kept named (stands_at exports d.exports i name same_exports within is) shaped (there_at exports d.exports i name same_exports within is) function at misfits

-- ---- the rules of names

pub two_refused : (modules : List Module) (d : Deployment) (name : List ℕ) → IsLeastName modules d Rule.TwoDefinitions (Some name) → IsRefused modules d Rule.TwoDefinitions name
two_refused modules d name least = record { earlier_kept = All-nil (IsKept modules d); chosen = least }

pub missing_refused : (modules : List Module) (d : Deployment) (name : List ℕ) → IsKept modules d Rule.TwoDefinitions → IsLeastName modules d Rule.NoDefinition (Some name) → IsRefused modules d Rule.NoDefinition name
missing_refused modules d name one least = record { earlier_kept = All-cons (IsKept modules d) Rule.TwoDefinitions [] one (All-nil (IsKept modules d)); chosen = least }

pub clash_refused : (modules : List Module) (d : Deployment) (name : List ℕ) → IsKept modules d Rule.TwoDefinitions → IsKept modules d Rule.NoDefinition → IsLeastName modules d Rule.TypeClash (Some name) → IsRefused modules d Rule.TypeClash name
clash_refused modules d name one defined least = record {
  earlier_kept = All-cons (IsKept modules d) Rule.TwoDefinitions (Rule.NoDefinition ∷ []) one (All-cons (IsKept modules d) Rule.NoDefinition [] defined (All-nil (IsKept modules d)));
  chosen = least;
}

pub names_kept : (modules : List Module) (d : Deployment) → IsKept modules d Rule.TwoDefinitions → IsKept modules d Rule.NoDefinition → IsKept modules d Rule.TypeClash → AreKeptBefore modules d Rule.NoEntry
names_kept modules d one defined alike =
    All-cons (IsKept modules d) Rule.TwoDefinitions (Rule.NoDefinition ∷ Rule.TypeClash ∷ []) one (All-cons (IsKept modules d) Rule.NoDefinition (Rule.TypeClash ∷ []) defined (All-cons (IsKept modules d) Rule.TypeClash [] alike (All-nil (IsKept modules d))))
