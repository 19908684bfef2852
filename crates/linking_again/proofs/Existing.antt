-- Modules that keep all rules of linking have a program.
use Rattle.std.proofs.Common.{◌≡◌, ◌∙◌, ◌⊎◌, inl, inr, ℕ, suc, Bool, true, false, List, [], ◌∷◌, Option, None, Some, All, Contains, refl, ap, sym}
use Rattle.std.specs.Prelude.{slice_get, IsTrue, bytes_eq}
use Rattle.std.specs.List.{AllZip}
use Rattle.std.proofs.lemmas.Bool.{false≢true}
use Rattle.std.proofs.lemmas.Slice.Eq.{bytes_eq-Decides}
use Rattle.ir_types.proofs.ListSteps.{All-at}
use Rattle.ir_syntax.specs.declared.symbol.Sym.{Sym}
use Rattle.ir_syntax.specs.declared.symbol.Target.{Target}
use Rattle.ir_syntax.specs.declared.symbol.Target.TheVariants as target
use Rattle.ir_syntax.specs.declared.symbol.Builtin.{Builtin}
use Rattle.ir_syntax.specs.declared.symbol.Intrinsic.{Intrinsic}
use Rattle.ir_syntax.specs.declared.item.Linkage.{Linkage}
use Rattle.ir_syntax.specs.declared.item.Linkage.TheVariants.{External, Internal, Private}
use Rattle.ir_syntax.specs.declared.item.Func.{Func}
use Rattle.ir_syntax.specs.declared.item.Item.{Item}
use Rattle.ir_syntax.specs.declared.item.Item.TheVariants as item
use Rattle.ir_syntax.specs.declared.item.Module.{Module}
use Rattle.ir_syntax.specs.Builtins.{builtin_named}
use Rattle.ir_syntax.specs.Intrinsics.{intrinsic_named}
use Rattle.ir_syntax.specs.FormedBody.{item_name}
use Rattle.ir_syntax.specs.Refusals.{Deployment, IsListed, Rule, IsKept, all_rules}
use Rattle.ir_syntax.specs.Refusals as rule
use Rattle.ir_syntax.specs.Symbols.{item_at, linkage_of, is_defined, IsItemOf, IsDefinitionOf, IsUndefined, IsFunctionOf}
use Rattle.ir_syntax.specs.Targets.{StandsFor, IsTarget, IsTargetBy, IsLeastItemOf, StandsAs, IsCanonical, IsCanonicalBy}
use Rattle.ir_syntax.specs.Programs.{ProgramData, arguments_of, IsNamedFunction, Linked}
use Rattle.fold_facts.proofs.Arriving.{place_in, in_place}
use Rattle.linking_again.proofs.Kept.{Decided}
use Rattle.linking_again.proofs.Searched.{FirstOf, NoneOf, first_of, FirstItem, NoItem, first_item, entries}

-- ---- what can be decided

decide_name : (name other : List ℕ) → Decided (name ≡ other)
decide_name name other = by (bytes_eq name other) refl
  where
    by : (c : Bool) → bytes_eq name other ≡ c → Decided (name ≡ other)
    by true e = inl ((bytes_eq-Decides name other).0 e)
    by false e = inr (λ same. false≢true (sym e ∙ (bytes_eq-Decides name other).1 same))

decide_external : (l : Linkage) → Decided (l ≡ External)
decide_external External = inl refl
decide_external Internal = inr (λ e. cc)
decide_external Private = inr (λ e. cc)

decide_true : (c : Bool) → Decided (IsTrue c)
decide_true true = inl refl
decide_true false = inr (λ e. false≢true e)

decide_both : (P Q : Type 0) → Decided P → Decided Q → Decided (P × Q)
decide_both P Q (inl p) (inl q) = inl (p, q)
decide_both P Q (inl p) (inr never) = inr (λ h. never h.1)
decide_both P Q (inr never) d = inr (λ h. never h.0)

decide_in : (names : List (List ℕ)) (name : List ℕ) → Decided (Contains names name)
decide_in names name = by (first_of (λ k other. other ≡ name) (λ k other. decide_name other name) names)
  where
    by : FirstOf (λ k other. other ≡ name) names ⊎ NoneOf (λ k other. other ≡ name) names → Decided (Contains names name)
    by (inl f) = inl (in_place names f.place name (f.at ∙ ap Some f.holds))
    by (inr none) = inr (λ c. let at = place_in names name c in none at.0 name at.1 refl)

abbrev IsFunction : Item → Type 0
IsFunction (item.Var var) = ⊥
IsFunction (item.Func func) = Unit {0}

decide_function : (found : Item) → Decided (IsFunction found)
decide_function (item.Var var) = inr (λ h. h)
decide_function (item.Func func) = inl tt

-- ---- items of a name

abbrev OfName : List ℕ → Sym → Item → Type 0
OfName name symbol found = (linkage_of found ≡ External) × (item_name found ≡ name)

decide_of : (name : List ℕ) (found : Item) → Decided ((linkage_of found ≡ External) × (item_name found ≡ name))
decide_of name found = decide_both (linkage_of found ≡ External) (item_name found ≡ name) (decide_external (linkage_of found)) (decide_name (item_name found) name)

definition_or_not : (modules : List Module) (name : List ℕ) → ((symbol : Sym) × IsDefinitionOf modules name symbol) ⊎ IsUndefined modules name
definition_or_not modules name = by (first_item (λ symbol found. OfName name symbol found × IsTrue (is_defined found)) (λ symbol found. decide_both (OfName name symbol found) (IsTrue (is_defined found)) (decide_of name found) (decide_true (is_defined found))) modules)
  where
    by : FirstItem (λ symbol found. OfName name symbol found × IsTrue (is_defined found)) modules ⊎ NoItem (λ symbol found. OfName name symbol found × IsTrue (is_defined found)) modules → ((symbol : Sym) × IsDefinitionOf modules name symbol) ⊎ IsUndefined modules name
    by (inl f) = inl (f.symbol, record { found = f.found; is_of = record { stands = f.stands; external = f.holds.0.0; named = f.holds.0.1 }; defined = f.holds.1 })
    by (inr none) = inr (λ symbol d. none symbol d.found d.is_of.stands ((d.is_of.external, d.is_of.named), d.defined))

-- a function of the name, with a body or without
function_or_not : (modules : List Module) (name : List ℕ) → ((symbol : Sym) × (func : Func) × IsItemOf modules name symbol (item.Func func)) ⊎ ((symbol : Sym) (func : Func) → IsItemOf modules name symbol (item.Func func) → ⊥)
function_or_not modules name = by (first_item (λ symbol found. OfName name symbol found × IsFunction found) (λ symbol found. decide_both (OfName name symbol found) (IsFunction found) (decide_of name found) (decide_function found)) modules)
  where
    func_of : (symbol : Sym) (found : Item) → item_at modules symbol ≡ Some found → OfName name symbol found → IsFunction found → (func : Func) × IsItemOf modules name symbol (item.Func func)
    func_of symbol (item.Var var) stands of is = absurd is
    func_of symbol (item.Func func) stands of is = (func, record { stands = stands; external = of.0; named = of.1 })

    by : FirstItem (λ symbol found. OfName name symbol found × IsFunction found) modules ⊎ NoItem (λ symbol found. OfName name symbol found × IsFunction found) modules
        → ((symbol : Sym) × (func : Func) × IsItemOf modules name symbol (item.Func func)) ⊎ ((symbol : Sym) (func : Func) → IsItemOf modules name symbol (item.Func func) → ⊥)
    by (inl f) = let g = func_of f.symbol f.found f.stands f.holds.0 f.holds.1 in inl (f.symbol, g.0, g.1)
    by (inr none) = inr (λ symbol func of. none symbol (item.Func func) of.stands ((of.external, of.named), tt))

-- a function of the name that has a body
body_or_not : (modules : List Module) (name : List ℕ) → ((symbol : Sym) × (func : Func) × IsFunctionOf modules name symbol func) ⊎ ((symbol : Sym) (func : Func) → IsFunctionOf modules name symbol func → ⊥)
body_or_not modules name = by (first_item (λ symbol found. OfName name symbol found × (IsFunction found × IsTrue (is_defined found)))
    (λ symbol found. decide_both (OfName name symbol found) (IsFunction found × IsTrue (is_defined found)) (decide_of name found) (decide_both (IsFunction found) (IsTrue (is_defined found)) (decide_function found) (decide_true (is_defined found)))) modules)
  where
    func_of : (symbol : Sym) (found : Item) → item_at modules symbol ≡ Some found → OfName name symbol found → IsFunction found → IsTrue (is_defined found) → (func : Func) × IsFunctionOf modules name symbol func
    func_of symbol (item.Var var) stands of is defined = absurd is
    func_of symbol (item.Func func) stands of is defined = (func, record { is_of = record { stands = stands; external = of.0; named = of.1 }; has_body = defined })

    by : FirstItem (λ symbol found. OfName name symbol found × (IsFunction found × IsTrue (is_defined found))) modules ⊎ NoItem (λ symbol found. OfName name symbol found × (IsFunction found × IsTrue (is_defined found))) modules
        → ((symbol : Sym) × (func : Func) × IsFunctionOf modules name symbol func) ⊎ ((symbol : Sym) (func : Func) → IsFunctionOf modules name symbol func → ⊥)
    by (inl f) = let g = func_of f.symbol f.found f.stands f.holds.0 f.holds.1.0 f.holds.1.1 in inl (f.symbol, g.0, g.1)
    by (inr none) = inr (λ symbol func of. none symbol (item.Func func) of.is_of.stands ((of.is_of.external, of.is_of.named), (tt, of.has_body)))

-- ---- targets

listed_or_not : (modules : List Module) (outside : List (List ℕ)) (name : List ℕ) → Decided (IsListed modules outside name)
listed_or_not modules outside name = by (decide_in outside name) (function_or_not modules name)
  where
    by : Decided (Contains outside name) → ((symbol : Sym) × (func : Func) × IsItemOf modules name symbol (item.Func func)) ⊎ ((symbol : Sym) (func : Func) → IsItemOf modules name symbol (item.Func func) → ⊥) → Decided (IsListed modules outside name)
    by (inl c) (inl (symbol, func, of)) = inl (record { listed = c; symbol = symbol; func = func; is_of = of })
    by (inl c) (inr none) = inr (λ h. none h.symbol h.func h.is_of)
    by (inr never) f = inr (λ h. never h.listed)

stands_for : (modules : List Module) (outside : List (List ℕ)) (name : List ℕ) → (to : Target) × StandsFor modules outside name to
stands_for modules outside name = by (definition_or_not modules name)
  where
    plain : IsUndefined modules name → builtin_named name ≡ None → intrinsic_named name ≡ None → Decided (IsListed modules outside name) → (to : Target) × StandsFor modules outside name to
    plain u e g (inl listed) = (target.Outside, (u, (e, g, listed)))
    plain u e g (inr never) = (target.Nothing, (u, (e, g, never)))

    intrinsic : IsUndefined modules name → builtin_named name ≡ None → (o : Option Intrinsic) → intrinsic_named name ≡ o → (to : Target) × StandsFor modules outside name to
    intrinsic u e None g = plain u e g (listed_or_not modules outside name)
    intrinsic u e (Some x) g = (target.Intrinsic x, (u, g))

    builtin : IsUndefined modules name → (o : Option Builtin) → builtin_named name ≡ o → (to : Target) × StandsFor modules outside name to
    builtin u None e = intrinsic u e (intrinsic_named name) refl
    builtin u (Some x) e = (target.Builtin x, (u, e))

    by : ((symbol : Sym) × IsDefinitionOf modules name symbol) ⊎ IsUndefined modules name → (to : Target) × StandsFor modules outside name to
    by (inl (symbol, d)) = (target.Def symbol, d)
    by (inr u) = builtin u (builtin_named name) refl

target_of : (modules : List Module) (outside : List (List ℕ)) (symbol : Sym) (found : Item) → (to : Target) × IsTarget modules outside symbol found to
target_of modules outside symbol found = by (linkage_of found)
  where
    by : (l : Linkage) → (to : Target) × IsTargetBy modules outside symbol (item_name found) l to
    by External = stands_for modules outside (item_name found)
    by Internal = (target.Def symbol, refl)
    by Private = (target.Def symbol, refl)

-- ---- canonical symbols

stands_as : (modules : List Module) (symbol : Sym) (found : Item) → item_at modules symbol ≡ Some found → linkage_of found ≡ External → (as_symbol : Sym) × StandsAs modules (item_name found) as_symbol
stands_as modules symbol found stands external = by (definition_or_not modules (item_name found))
  where
    least : FirstItem (OfName (item_name found)) modules ⊎ NoItem (OfName (item_name found)) modules → (as_symbol : Sym) × IsLeastItemOf modules (item_name found) as_symbol
    least (inl f) = (
      f.symbol,
      record {
        found = f.found;
        is_of = record { stands = f.stands; external = f.holds.0; named = f.holds.1 };
        least = λ other x of before. f.first other x of.stands (of.external, of.named) before;
      },
    )
    least (inr none) = absurd (none symbol found stands (external, refl))

    by : ((s : Sym) × IsDefinitionOf modules (item_name found) s) ⊎ IsUndefined modules (item_name found) → (as_symbol : Sym) × StandsAs modules (item_name found) as_symbol
    by (inl (s, d)) = (s, inl d)
    by (inr u) = let l = least (first_item (OfName (item_name found)) (λ s x. decide_of (item_name found) x) modules) in (l.0, inr (u, l.1))

canonical_of : (modules : List Module) (symbol : Sym) (found : Item) → item_at modules symbol ≡ Some found → (as_symbol : Sym) × IsCanonical modules symbol found as_symbol
canonical_of modules symbol found stands = by (linkage_of found) refl
  where
    by : (l : Linkage) → linkage_of found ≡ l → (as_symbol : Sym) × IsCanonicalBy modules symbol (item_name found) l as_symbol
    by External e = stands_as modules symbol found stands e
    by Internal e = (symbol, refl)
    by Private e = (symbol, refl)

-- ---- programs

named_functions : (modules : List Module) (names : List (List ℕ)) → ((name : List ℕ) → Contains names name → ((symbol : Sym) (func : Func) → IsFunctionOf modules name symbol func → ⊥) → ⊥) → (symbols : List Sym) × AllZip (IsNamedFunction modules) names symbols
named_functions modules [] h = ([], tt)
named_functions modules (name ∷ more) h = by (body_or_not modules name) (named_functions modules more (λ other c none. h other (behind other c) none))
  where
    behind : (other : List ℕ) → Contains more other → Contains (name ∷ more) other
    behind other c = let at = place_in more other c in in_place (name ∷ more) (suc at.0) other at.1

    by : ((symbol : Sym) × (func : Func) × IsFunctionOf modules name symbol func) ⊎ ((symbol : Sym) (func : Func) → IsFunctionOf modules name symbol func → ⊥) → (symbols : List Sym) × AllZip (IsNamedFunction modules) more symbols → (symbols : List Sym) × AllZip (IsNamedFunction modules) (name ∷ more) symbols
    by (inl (symbol, func, of)) rest = (symbol ∷ rest.0, (record { func = func; is_function = of }, rest.1))
    by (inr none) rest = absurd (h name (in_place (name ∷ more) 0 name refl) none)

-- Modules that keep all rules under a deployment are linked to a program.
pub rules_link : (modules : List Module) (d : Deployment) → All (IsKept modules d) all_rules → (q : ProgramData) × Linked modules d q
rules_link modules d kept = by (body_or_not modules d.entry)
  where
    rule_kept : (k : ℕ) (r : Rule) → slice_get all_rules k ≡ Some r → IsKept modules d r
    rule_kept k r is = All-at (IsKept modules d) all_rules k r kept is

    by : ((symbol : Sym) × (func : Func) × IsFunctionOf modules d.entry symbol func) ⊎ ((symbol : Sym) (func : Func) → IsFunctionOf modules d.entry symbol func → ⊥) → (q : ProgramData) × Linked modules d q
    by (inl (symbol, func, of)) =
        let targets = entries modules (IsTarget modules d.outside) (λ s found is. target_of modules d.outside s found) in
        let canonical = entries modules (IsCanonical modules) (λ s found is. canonical_of modules s found is) in
        let exports = named_functions modules d.exports (λ name c none. rule_kept 5 rule.NoExport refl name (c, none)) in (
          record { modules = modules; targets = targets.0; canonical = canonical.0; entry = symbol; entry_args = arguments_of func.params d.args; exports = exports.0 },
          record { modules_are = refl; kept = kept; targets = targets.1; canonical = canonical.1; entry = record { func = func; is_function = of; args = refl }; exports = exports.1 },
        )
    by (inr none) = absurd (rule_kept 3 rule.NoEntry refl d.entry (refl, none))
