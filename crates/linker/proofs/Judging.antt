-- What the symbols of an external name say of it.
use Rattle.std.proofs.Common.{◌≡◌, ◌∙◌, inl, inr, ℕ, Bool, true, false, cond, ◌&&◌, ◌||◌, ◌==◌, not, List, [], ◌∷◌, Option, None, Some, bytes_eq, codes, refl, sym, ap, subst, IsTrue, ◌↔◌, MatchBool}
use Rattle.std.specs.List.{All, Contains, find, list_any}
use Rattle.std.proofs.lemmas.Bool.{false≢true, and_parts, and_from, not-true, eqb-true, eq-eqb}
use Rattle.std.proofs.lemmas.List.Elements.{All-contains, All-cons}
use Rattle.ir_types.specs.declared.scalar.FnType.{FnType}
use Rattle.ir_syntax.specs.declared.symbol.Sym.{Sym}
use Rattle.ir_syntax.specs.declared.symbol.Builtin.{Builtin}
use Rattle.ir_syntax.specs.declared.symbol.Intrinsic.{Intrinsic}
use Rattle.ir_syntax.specs.declared.symbol.Intrinsic.TheVariants.{Memcpy, Memmove, Memset}
use Rattle.ir_syntax.specs.declared.symbol.Target.{Target}
use Rattle.ir_syntax.specs.declared.symbol.Target.TheVariants as target
use Rattle.ir_syntax.specs.declared.item.Item.{Item}
use Rattle.ir_syntax.specs.declared.item.Item.TheVariants as item
use Rattle.ir_syntax.specs.declared.item.Module.{Module}
use Rattle.ir_syntax.specs.Builtins.{builtin_named, type_of_builtin}
use Rattle.ir_syntax.specs.Intrinsics.{intrinsic_named, is_intrinsic}
use Rattle.ir_syntax.specs.FunctionTypes.{function_type}
use Rattle.ir_syntax.specs.Symbols.{item_at, IsItemOf, IsDefinitionOf, IsUndefined}
use Rattle.ir_syntax.specs.Refusals.{HasTwoDefinitions, IsListed, IsMissing, DifferInType, DiffersFromBuiltin, ClashesInType}
use Rattle.ir_syntax.specs.Targets.{StandsForUndefined, StandsFor, IsLeastItemOf}
use Rattle.linker.specs.Mirrors.Items.{defines, defined_at, name_or_none, name_at, is_function, function_at, is_same, other_definition}
use Rattle.linker.specs.Mirrors.Marks.{marks_of, mark_at}
use Rattle.linker.specs.Mirrors.Groups.{symbols_of, HasOtherType, HaveBuiltinType, HasOtherThanBuiltin, AreAlike, Differ}
use Rattle.linker.specs.Mirrors.Slots.{undefined_target, is_nothing, AreSame, IsSlot}
use Rattle.name_table.specs.Places.{is_among}
use Rattle.name_table.proofs.NameLists.{same, same-refl}
use Rattle.linker.proofs.Lists.{contains_here, contains_later, contains_none, contains_cases, any_to, any_from, find_to, find_none}
use Rattle.linker.proofs.Members.{members_to, members_from, first_is_least}
use Rattle.linker.proofs.Marking.{named_to, named_from}

-- ---- definitions

definition_to : (modules : List Module) (name : List ℕ) (symbol : Sym) → Contains (symbols_of modules name) symbol → defined_at modules symbol ≡ true → IsDefinitionOf modules name symbol
definition_to modules name symbol h d = let of = members_to modules name symbol h in record { found = of.0; is_of = of.1; defined = sym (ap defines of.1.stands) ∙ d }

definition_from : (modules : List Module) (name : List ℕ) (symbol : Sym) → IsDefinitionOf modules name symbol → Contains (symbols_of modules name) symbol × (defined_at modules symbol ≡ true)
definition_from modules name symbol d = (members_from modules name symbol d.found d.is_of, ap defines d.is_of.stands ∙ d.defined)

pub found_definition : (modules : List Module) (name : List ℕ) (symbol : Sym) → find (λ s. defined_at modules s) (symbols_of modules name) ≡ Some symbol → IsDefinitionOf modules name symbol
found_definition modules name symbol is = let found = find_to (λ s. defined_at modules s) (symbols_of modules name) symbol is in definition_to modules name symbol found.0 found.1

pub no_definition : (modules : List Module) (name : List ℕ) → find (λ s. defined_at modules s) (symbols_of modules name) ≡ None → IsUndefined modules name
no_definition modules name is symbol d =
    let from = definition_from modules name symbol d in
    false≢true (sym (find_none (λ s. defined_at modules s) (symbols_of modules name) symbol is from.0) ∙ from.1)

pub same_symbol : (a b : Sym) → is_same a b ≡ true → a ≡ b
same_symbol a b e =
    let parts = and_parts (a.module == b.module) (a.item == b.item) e in
    ap (λ m. record { «module» = m; item = a.item }) (eqb-true a.module b.module parts.0) ∙ ap (λ i. record { «module» = b.module; item = i }) (eqb-true a.item b.item parts.1)

pub symbol_same : (a b : Sym) → a ≡ b → is_same a b ≡ true
symbol_same a b e = and_from (a.module == b.module) (a.item == b.item) (eq-eqb a.module b.module (ap (λ s. s.module) e)) (eq-eqb a.item b.item (ap (λ s. s.item) e))

pub two_to : (modules : List Module) (name : List ℕ) (definition : Sym) → IsDefinitionOf modules name definition → list_any (λ s. other_definition modules definition s) (symbols_of modules name) ≡ true → HasTwoDefinitions modules name
two_to modules name definition d is =
    let found = any_to (λ s. other_definition modules definition s) (symbols_of modules name) is in
    let parts = and_parts (defined_at modules found.0) (not (is_same found.0 definition)) found.2 in
    record {
      one = definition;
      other = found.0;
      apart = λ e. false≢true (sym (not-true (is_same found.0 definition) parts.1) ∙ symbol_same found.0 definition (sym e));
      one_defined = d;
      other_defined = definition_to modules name found.0 found.1 parts.0;
    }

-- of two definitions one isn't this one
pub two_from : (modules : List Module) (name : List ℕ) (definition : Sym) → HasTwoDefinitions modules name → list_any (λ s. other_definition modules definition s) (symbols_of modules name) ≡ true
two_from modules name definition two = by (is_same two.one definition) refl
  where
    other : (symbol : Sym) → IsDefinitionOf modules name symbol → is_same symbol definition ≡ false → list_any (λ s. other_definition modules definition s) (symbols_of modules name) ≡ true
    other symbol d apart =
        let from = definition_from modules name symbol d in
        any_from (λ s. other_definition modules definition s) (symbols_of modules name) symbol from.0
        (and_from (defined_at modules symbol) (not (is_same symbol definition)) from.1 (ap not apart))

    second : two.one ≡ definition → (b : Bool) → is_same two.other definition ≡ b → list_any (λ s. other_definition modules definition s) (symbols_of modules name) ≡ true
    second first true e = absurd (two.apart (first ∙ sym (same_symbol two.other definition e)))
    second first false e = other two.other two.other_defined e

    by : (b : Bool) → is_same two.one definition ≡ b → list_any (λ s. other_definition modules definition s) (symbols_of modules name) ≡ true
    by true e = second (same_symbol two.one definition e) (is_same two.other definition) refl
    by false e = other two.one two.one_defined e

pub no_two : (modules : List Module) (name : List ℕ) → IsUndefined modules name → HasTwoDefinitions modules name → ⊥
no_two modules name none two = none two.one two.one_defined

-- ---- what is listed, and what is missing

pub listed_to : (modules : List Module) (outside : List (List ℕ)) (name : List ℕ) → Contains outside name → list_any (λ s. function_at modules s) (symbols_of modules name) ≡ true → IsListed modules outside name
listed_to modules outside name listed is =
    let found = any_to (λ s. function_at modules s) (symbols_of modules name) is in
    let of = members_to modules name found.0 found.1 in
    by found.0 of.0 of.1 (sym (ap is_function of.1.stands) ∙ found.2)
  where
    by : (symbol : Sym) (one : Item) → IsItemOf modules name symbol one → is_function (Some one) ≡ true → IsListed modules outside name
    by symbol (item.Var var) of e = absurd (false≢true e)
    by symbol (item.Func func) of e = record { listed = listed; symbol = symbol; func = func; is_of = of }

pub listed_from : (modules : List Module) (outside : List (List ℕ)) (name : List ℕ) → IsListed modules outside name → list_any (λ s. function_at modules s) (symbols_of modules name) ≡ true
listed_from modules outside name is =
    any_from (λ s. function_at modules s) (symbols_of modules name) is.symbol (members_from modules name is.symbol (item.Func is.func) is.is_of) (ap is_function is.is_of.stands)

-- a name that is no intrinsic's
pub no_intrinsic : (name : List ℕ) → intrinsic_named name ≡ None → is_intrinsic name ≡ false
no_intrinsic name e = by (bytes_eq name (codes "llvm.memcpy.p0.p0.i64")) (bytes_eq name (codes "llvm.memmove.p0.p0.i64")) (bytes_eq name (codes "llvm.memset.p0.i64")) e
  where
    by : (a b c : Bool) → cond a (Some Memcpy) (cond b (Some Memmove) (cond c (Some Memset) None)) ≡ None → (a || b || c) ≡ false
    by true b c e = cc
    by false true c e = cc
    by false false true e = cc
    by false false false e = refl

pub an_intrinsic : (name : List ℕ) (intrinsic : Intrinsic) → intrinsic_named name ≡ Some intrinsic → is_intrinsic name ≡ true
an_intrinsic name intrinsic e = by (bytes_eq name (codes "llvm.memcpy.p0.p0.i64")) (bytes_eq name (codes "llvm.memmove.p0.p0.i64")) (bytes_eq name (codes "llvm.memset.p0.i64")) e
  where
    by : (a b c : Bool) → cond a (Some Memcpy) (cond b (Some Memmove) (cond c (Some Memset) None)) ≡ Some intrinsic → (a || b || c) ≡ true
    by true true c e = refl
    by true false true e = refl
    by true false false e = refl
    by false true c e = refl
    by false false true e = refl
    by false false false e = cc

-- what a name without a definition stands for says whether it is missing
pub missing_to : (modules : List Module) (outside : List (List ℕ)) (name : List ℕ) (to : Target) → IsUndefined modules name → StandsForUndefined modules outside name to
    → (is_nothing to && list_any (λ s. mark_at (marks_of modules) s) (symbols_of modules name)) ≡ true → IsMissing modules outside name
missing_to modules outside name (target.Def symbol) none stands e = absurd stands
missing_to modules outside name target.Outside none stands e = absurd (false≢true e)
missing_to modules outside name (target.Builtin builtin) none stands e = absurd (false≢true e)
missing_to modules outside name (target.Intrinsic intrinsic) none stands e = absurd (false≢true e)
missing_to modules outside name target.Nothing none stands e =
    let found = any_to (λ s. mark_at (marks_of modules) s) (symbols_of modules name) e in
    record {
      named = named_to modules name found.0 found.1 found.2;
      undefined = none;
      not_intrinsic = no_intrinsic name stands.1;
      not_builtin = stands.0;
      not_listed = stands.2;
    }

pub missing_from : (modules : List Module) (outside : List (List ℕ)) (name : List ℕ) (to : Target) → StandsForUndefined modules outside name to → IsMissing modules outside name
    → (is_nothing to && list_any (λ s. mark_at (marks_of modules) s) (symbols_of modules name)) ≡ true
missing_from modules outside name (target.Def symbol) stands m = absurd stands
missing_from modules outside name target.Outside stands m = absurd (m.not_listed stands.2)
missing_from modules outside name (target.Builtin builtin) stands m = let wrong : None ≡ Some builtin = sym m.not_builtin ∙ stands in cc
missing_from modules outside name (target.Intrinsic intrinsic) stands m = absurd (false≢true (sym m.not_intrinsic ∙ an_intrinsic name intrinsic stands))
missing_from modules outside name target.Nothing stands m =
    let found = named_from modules name m.named in
    any_from (λ s. mark_at (marks_of modules) s) (symbols_of modules name) found.0 found.1 found.2

pub defined_is_not_missing : (modules : List Module) (outside : List (List ℕ)) (name : List ℕ) (symbol : Sym) → IsDefinitionOf modules name symbol → IsMissing modules outside name → ⊥
defined_is_not_missing modules outside name symbol d m = m.undefined symbol d

-- ---- types

abbrev pub type_at : List Module → Sym → Option FnType
type_at modules symbol = function_type (item_at modules symbol)

abbrev HaveType : List Module → List ℕ → Option FnType → Type 0
HaveType modules name ty = All (λ s. type_at modules s ≡ ty) (symbols_of modules name)

has_type : (modules : List Module) (name : List ℕ) (ty : Option FnType) (symbol : Sym) (found : Item) → HaveType modules name ty → IsItemOf modules name symbol found → function_type (Some found) ≡ ty
has_type modules name ty symbol found all of =
    sym (ap function_type of.stands) ∙ All-contains (λ s. type_at modules s ≡ ty) (symbols_of modules name) symbol all (members_from modules name symbol found of)

-- all items are of the type of one
pub alike_in_type : (modules : List Module) (name : List ℕ) (ty : Option FnType) → HaveType modules name ty → DifferInType modules name → ⊥
alike_in_type modules name ty all d = d.differ (has_type modules name ty d.one d.one_found all d.one_of ∙ sym (has_type modules name ty d.other d.other_found all d.other_of))

pub differ_in_type : (modules : List Module) (name : List ℕ) (first : Sym) → Contains (symbols_of modules name) first → HasOtherType modules (type_at modules first) (symbols_of modules name) → DifferInType modules name
differ_in_type modules name first h other =
    let one = members_to modules name first h in
    let found = members_to modules name other.symbol other.within in
    record {
      one = other.symbol;
      other = first;
      one_found = found.0;
      other_found = one.0;
      one_of = found.1;
      other_of = one.1;
      differ = λ e. other.differs (ap function_type found.1.stands ∙ e ∙ sym (ap function_type one.1.stands));
    }

pub alike_builtin : (modules : List Module) (name : List ℕ) (builtin : Builtin) → builtin_named name ≡ Some builtin → HaveType modules name (Some (type_of_builtin builtin)) → DiffersFromBuiltin modules name → ⊥
alike_builtin modules name builtin is all d =
    let same_one : builtin ≡ d.builtin = (let e : Some builtin ≡ Some d.builtin = sym is ∙ d.is_builtin in cc) in
    d.differs (has_type modules name (Some (type_of_builtin builtin)) d.symbol d.found all d.is_of ∙ ap (λ b. Some (type_of_builtin b)) same_one)

pub differs_builtin : (modules : List Module) (name : List ℕ) (builtin : Builtin) → builtin_named name ≡ Some builtin → IsUndefined modules name → HasOtherType modules (Some (type_of_builtin builtin)) (symbols_of modules name) → DiffersFromBuiltin modules name
differs_builtin modules name builtin is none other =
    let found = members_to modules name other.symbol other.within in
    record {
      builtin = builtin;
      is_builtin = is;
      undefined = none;
      symbol = other.symbol;
      found = found.0;
      is_of = found.1;
      differs = λ e. other.differs (ap function_type found.1.stands ∙ e);
    }

pub no_builtin : (modules : List Module) (name : List ℕ) → builtin_named name ≡ None → DiffersFromBuiltin modules name → ⊥
no_builtin modules name is d = let wrong : None ≡ Some d.builtin = sym is ∙ d.is_builtin in cc

pub not_undefined : (modules : List Module) (name : List ℕ) (symbol : Sym) → IsDefinitionOf modules name symbol → DiffersFromBuiltin modules name → ⊥
not_undefined modules name symbol is d = d.undefined symbol is

-- ---- canonical symbols

pub least_item : (modules : List Module) (name : List ℕ) (first : Sym) (rest : List Sym) → first ∷ rest ≡ symbols_of modules name → IsLeastItemOf modules name first
least_item modules name first rest is =
    let of = members_to modules name first (subst (λ xs. Contains xs first) is (contains_here first rest)) in
    record { found = of.0; is_of = of.1; least = λ other other_found other_of before. first_is_least modules name first rest other other_found is other_of before }

-- ---- the slot

-- what the first of a name's symbols is called
pub first_name : (modules : List Module) (name : List ℕ) (first : Sym) (rest : List Sym) → first ∷ rest ≡ symbols_of modules name → name_at modules first ≡ name
first_name modules name first rest is =
    let of = members_to modules name first (subst (λ xs. Contains xs first) is (contains_here first rest)) in
    ap name_or_none of.1.stands ∙ of.1.named

clash_defined : (modules : List Module) (name : List ℕ) (symbol first : Sym) (rest : List Sym) (b : Bool) → first ∷ rest ≡ symbols_of modules name → IsDefinitionOf modules name symbol
    → MatchBool b (Differ modules None (first ∷ rest) first) (AreAlike modules None (first ∷ rest) first) → IsTrue b ↔ ClashesInType modules name
clash_defined modules name symbol first rest true is d h =
    let here : Contains (symbols_of modules name) first = subst (λ xs. Contains xs first) is (contains_here first rest) in
    (λ e. elim h [ inl other ↦ inl (differ_in_type modules name first here (subst (HasOtherType modules (type_at modules first)) is other)) | inr wrong ↦ absurd wrong ], λ c. refl)
clash_defined modules name symbol first rest false is d h = (
  λ e. absurd (false≢true e),
  λ c. elim c [
    | inl differ ↦ absurd (alike_in_type modules name (type_at modules first) (subst (All (λ s. type_at modules s ≡ type_at modules first)) is h.types) differ)
    | inr differs ↦ absurd (not_undefined modules name symbol d differs)
  ],
)

clash_undefined : (modules : List Module) (name : List ℕ) (first : Sym) (rest : List Sym) (b : Bool) → first ∷ rest ≡ symbols_of modules name → IsUndefined modules name
    → MatchBool b (Differ modules (builtin_named name) (first ∷ rest) first) (AreAlike modules (builtin_named name) (first ∷ rest) first) → IsTrue b ↔ ClashesInType modules name
clash_undefined modules name first rest true is none h = (
  λ e. elim h [
    | inl other ↦ inl (differ_in_type modules name first (subst (λ xs. Contains xs first) is (contains_here first rest)) (subst (HasOtherType modules (type_at modules first)) is other))
    | inr other ↦ inr (by (builtin_named name) refl other)
  ],
  λ c. refl,
)
  where
    by : (o : Option Builtin) → builtin_named name ≡ o → HasOtherThanBuiltin modules o (first ∷ rest) → DiffersFromBuiltin modules name
    by None e other = absurd other
    by (Some builtin) e other = differs_builtin modules name builtin e none (subst (HasOtherType modules (Some (type_of_builtin builtin))) is other)
clash_undefined modules name first rest false is none h = (
  λ e. absurd (false≢true e),
  λ c. elim c [
    | inl differ ↦ absurd (alike_in_type modules name (type_at modules first) (subst (All (λ s. type_at modules s ≡ type_at modules first)) is h.types) differ)
    | inr differs ↦ absurd (by (builtin_named name) refl h.built_in differs)
  ],
)
  where
    by : (o : Option Builtin) → builtin_named name ≡ o → HaveBuiltinType modules o (first ∷ rest) → DiffersFromBuiltin modules name → ⊥
    by None e all d = no_builtin modules name e d
    by (Some builtin) e all d = alike_builtin modules name builtin e (subst (All (λ s. type_at modules s ≡ Some (type_of_builtin builtin))) is all) d

pub defined_slot : (modules : List Module) (outside : List (List ℕ)) (name : List ℕ) (symbol first : Sym) (rest : List Sym) (doubled clashes : Bool) → first ∷ rest ≡ symbols_of modules name → IsDefinitionOf modules name symbol
    → doubled ≡ list_any (λ s. other_definition modules symbol s) (first ∷ rest) → MatchBool clashes (Differ modules None (first ∷ rest) first) (AreAlike modules None (first ∷ rest) first)
    → IsSlot modules outside name (record { target = target.Def symbol; canonical = symbol; doubled = doubled; missing = false; clashes = clashes })
defined_slot modules outside name symbol first rest doubled clashes is d doubled_is clash =
    let any : doubled ≡ list_any (λ s. other_definition modules symbol s) (symbols_of modules name) = doubled_is ∙ ap (list_any (λ s. other_definition modules symbol s)) is in
    record {
      doubled = (λ e. two_to modules name symbol d (sym any ∙ e), λ two. any ∙ two_from modules name symbol two);
      missing = (λ e. absurd (false≢true e), λ m. absurd (defined_is_not_missing modules outside name symbol d m));
      clashes = clash_defined modules name symbol first rest clashes is d clash;
      target = d;
      canonical = inl d;
    }

stands_for : (modules : List Module) (outside : List (List ℕ)) (name : List ℕ) (to : Target) → IsUndefined modules name → StandsForUndefined modules outside name to → StandsFor modules outside name to
stands_for modules outside name (target.Def symbol) none stands = absurd stands
stands_for modules outside name target.Outside none stands = (none, stands)
stands_for modules outside name (target.Builtin builtin) none stands = (none, stands)
stands_for modules outside name (target.Intrinsic intrinsic) none stands = (none, stands)
stands_for modules outside name target.Nothing none stands = (none, stands)

-- what stands for an undefined name
undefined_stands : (modules : List Module) (outside : List (List ℕ)) (name : List ℕ) (listed : Bool) → (listed ≡ true → IsListed modules outside name) → (IsListed modules outside name → listed ≡ true)
    → StandsForUndefined modules outside name (undefined_target (builtin_named name) (intrinsic_named name) listed)
undefined_stands modules outside name listed to from = by (builtin_named name) (intrinsic_named name) listed refl refl to from
  where
    by : (b : Option Builtin) (i : Option Intrinsic) (l : Bool) → builtin_named name ≡ b → intrinsic_named name ≡ i → (l ≡ true → IsListed modules outside name) → (IsListed modules outside name → l ≡ true)
        → StandsForUndefined modules outside name (undefined_target b i l)
    by (Some builtin) i l eb ei t f = eb
    by None (Some intrinsic) l eb ei t f = ei
    by None None true eb ei t f = (eb, ei, t refl)
    by None None false eb ei t f = (eb, ei, λ is. false≢true (f is))

among_contains : (name : List ℕ) (names : List (List ℕ)) → is_among name names ≡ true → Contains names name
among_contains name [] e = absurd (false≢true e)
among_contains name (other ∷ others) e = by (bytes_eq name other) refl (among_contains name others) e
  where
    by : (b : Bool) → bytes_eq name other ≡ b → (is_among name others ≡ true → Contains others name) → cond b true (is_among name others) ≡ true → Contains (other ∷ others) name
    by true s later h = subst (λ n. Contains (n ∷ others) name) (same name other s) (contains_here name others)
    by false s later h = contains_later other others name (later h)

contains_among : (name : List ℕ) (names : List (List ℕ)) → Contains names name → is_among name names ≡ true
contains_among name [] h = absurd (contains_none name h)
contains_among name (other ∷ others) h = elim (contains_cases other others name h) [
  | inl here ↦ ap (λ b. cond b true (is_among name others)) (ap (bytes_eq name) here ∙ same-refl name)
  | inr rest ↦ by (bytes_eq name other) (is_among name others) (contains_among name others rest)
]
  where
    by : (b a : Bool) → a ≡ true → cond b true a ≡ true
    by true a e = refl
    by false a e = e

pub undefined_slot : (modules : List Module) (outside listed : List (List ℕ)) (name : List ℕ) (first : Sym) (rest : List Sym) (clashes : Bool) → first ∷ rest ≡ symbols_of modules name → AreSame outside listed → IsUndefined modules name
    → MatchBool clashes (Differ modules (builtin_named name) (first ∷ rest) first) (AreAlike modules (builtin_named name) (first ∷ rest) first)
    → (to : Target) → to ≡ undefined_target (builtin_named name) (intrinsic_named name) (is_among name outside && list_any (λ s. function_at modules s) (first ∷ rest))
    → IsSlot modules listed name (record { target = to; canonical = first; doubled = false; missing = is_nothing to && list_any (λ s. mark_at (marks_of modules) s) (first ∷ rest); clashes = clashes })
undefined_slot modules outside listed name first rest clashes is alike none clash to to_is =
    let any : list_any (λ s. mark_at (marks_of modules) s) (first ∷ rest) ≡ list_any (λ s. mark_at (marks_of modules) s) (symbols_of modules name) = ap (list_any (λ s. mark_at (marks_of modules) s)) is in
    let missing : (is_nothing to && list_any (λ s. mark_at (marks_of modules) s) (first ∷ rest)) ≡ (is_nothing to && list_any (λ s. mark_at (marks_of modules) s) (symbols_of modules name)) = ap (λ b. is_nothing to && b) any in
    let functions : list_any (λ s. function_at modules s) (first ∷ rest) ≡ list_any (λ s. function_at modules s) (symbols_of modules name) = ap (list_any (λ s. function_at modules s)) is in
    let stands : StandsForUndefined modules listed name to
    = subst (StandsForUndefined modules listed name) (sym to_is)
    (undefined_stands modules listed name (is_among name outside && list_any (λ s. function_at modules s) (first ∷ rest))
    (λ e. let parts = and_parts (is_among name outside) (list_any (λ s. function_at modules s) (first ∷ rest)) e in
    listed_to modules listed name (among_contains name listed (sym (alike name) ∙ parts.0)) (sym functions ∙ parts.1))
    (λ l. and_from (is_among name outside) (list_any (λ s. function_at modules s) (first ∷ rest)) (alike name ∙ contains_among name listed l.listed) (functions ∙ listed_from modules listed name l))) in
    record {
      doubled = (λ e. absurd (false≢true e), λ two. absurd (no_two modules name none two));
      missing = (λ e. missing_to modules listed name to none stands (sym missing ∙ e), λ m. missing ∙ missing_from modules listed name to stands m);
      clashes = clash_undefined modules name first rest clashes is none clash;
      target = stands_for modules listed name to none stands;
      canonical = inr (none, least_item modules name first rest is);
    }

-- ---- one more symbol

pub types_more : (modules : List Module) (ty : Option FnType) (first : Sym) (others : List Sym) (b : Bool) → type_at modules first ≡ ty
    → MatchBool b (All (λ s. type_at modules s ≡ ty) others) (HasOtherType modules ty others) → MatchBool b (All (λ s. type_at modules s ≡ ty) (first ∷ others)) (HasOtherType modules ty (first ∷ others))
types_more modules ty first others true is h = All-cons (λ s. type_at modules s ≡ ty) first others is h
types_more modules ty first others false is h = record { symbol = h.symbol; within = contains_later first others h.symbol h.within; differs = h.differs }

-- ---- the slot, as the code makes it

pub first_defined : (modules : List Module) (name : List ℕ) (symbols : List Sym) (symbol : Sym) → symbols ≡ symbols_of modules name → Some symbol ≡ find (λ s. defined_at modules s) symbols → IsDefinitionOf modules name symbol
first_defined modules name symbols symbol is found = found_definition modules name symbol (ap (find (λ s. defined_at modules s)) (sym is) ∙ sym found)

pub none_defined : (modules : List Module) (name : List ℕ) (symbols : List Sym) → symbols ≡ symbols_of modules name → None ≡ find (λ s. defined_at modules s) symbols → IsUndefined modules name
none_defined modules name symbols is found = no_definition modules name (ap (find (λ s. defined_at modules s)) (sym is) ∙ sym found)

pub undefined_made : (modules : List Module) (marks : List (List Bool)) (outside listed : List (List ℕ)) (name called : List ℕ) (first : Sym) (rest : List Sym) (builtin : Option Builtin) (is_listed missing clashes : Bool) (to : Target)
    → marks ≡ marks_of modules → called ≡ name_at modules first → builtin ≡ builtin_named called
    → is_listed ≡ (is_among called outside && list_any (λ s. function_at modules s) (first ∷ rest))
    → to ≡ undefined_target (builtin_named called) (intrinsic_named called) is_listed
    → missing ≡ (is_nothing to && list_any (λ s. mark_at marks s) (first ∷ rest))
    → MatchBool clashes (Differ modules builtin (first ∷ rest) first) (AreAlike modules builtin (first ∷ rest) first)
    → first ∷ rest ≡ symbols_of modules name → AreSame outside listed → IsUndefined modules name
    → IsSlot modules listed name (record { target = to; canonical = first; doubled = false; missing = missing; clashes = clashes })
undefined_made modules marks outside listed name called first rest builtin is_listed missing clashes to marks_are called_is builtin_is listed_is to_is missing_is clash is alike none =
    let e : called ≡ name = called_is ∙ first_name modules name first rest is in
    let listed_eq : is_listed ≡ (is_among name outside && list_any (λ s. function_at modules s) (first ∷ rest)) = listed_is ∙ ap (λ n. is_among n outside && list_any (λ s. function_at modules s) (first ∷ rest)) e in
    let to_eq : to ≡ undefined_target (builtin_named name) (intrinsic_named name) (is_among name outside && list_any (λ s. function_at modules s) (first ∷ rest))
    = to_is ∙ ap (λ n. undefined_target (builtin_named n) (intrinsic_named n) is_listed) e ∙ ap (undefined_target (builtin_named name) (intrinsic_named name)) listed_eq in
    let missing_eq : missing ≡ (is_nothing to && list_any (λ s. mark_at (marks_of modules) s) (first ∷ rest)) = missing_is ∙ ap (λ ms. is_nothing to && list_any (λ s. mark_at ms s) (first ∷ rest)) marks_are in
    let builtin_eq : builtin ≡ builtin_named name = builtin_is ∙ ap builtin_named e in
    subst (λ m. IsSlot modules listed name (record { target = to; canonical = first; doubled = false; missing = m; clashes = clashes })) (sym missing_eq)
    (undefined_slot modules outside listed name first rest clashes is alike none (subst (λ b. MatchBool clashes (Differ modules b (first ∷ rest) first) (AreAlike modules b (first ∷ rest) first)) builtin_eq clash) to to_eq)

-- a test that is made only where another holds
pub both_then : (first second left : Bool) → left ≡ true → first ≡ second → first ≡ (left && second)
both_then first second left l e = e ∙ ap (λ b. b && second) (sym l)

pub both_else : (first second left : Bool) → left ≡ false → first ≡ false → first ≡ (left && second)
both_else first second left l e = e ∙ ap (λ b. b && second) (sym l)
