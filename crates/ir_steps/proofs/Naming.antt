-- The names that a program writes: each is the name of a block.
use Rattle.std.proofs.Common.{◌≡◌, ◌≢◌, ◌∙◌, inl, inr, ℕ, zero, suc, ◌<◌, nat_lt, length, arith, map, Bool, true, false, cond, ◌||◌, ◌==◌, ◌&&◌, IsTrue, List, [], ◌∷◌, Option, None, Some, IsSome, IfNone, option_and_then, option_map, slice_get, bytes_eq, codes, refl, sym, ap, subst, Contains}
use Rattle.std.proofs.lemmas.Bool.{false≢true, and_parts, ltb-true, eqb-true, eq-eqb}
use Rattle.std.proofs.lemmas.Slice.Eq.{bytes_eq-Decides}
use Rattle.ir_types.proofs.ListSteps.{All-at}
use Rattle.ir_types.specs.declared.scalar.Scalar.{Scalar}
use Rattle.ir_types.specs.declared.scalar.Scalar.TheVariants.{I1, I8, I16, I32, I64, Ptr}
use Rattle.ir_types.specs.declared.shape.Ty.{Ty}
use Rattle.ir_types.specs.declared.shape.Ty.TheBlock.{One}
use Rattle.ir_types.specs.declared.shape.Ty.TheVariants.{outs-One}
use Rattle.ir_syntax.specs.declared.symbol.Sym.{Sym}
use Rattle.ir_syntax.specs.declared.symbol.Builtin.{Builtin}
use Rattle.ir_syntax.specs.declared.symbol.Intrinsic.{Intrinsic}
use Rattle.ir_syntax.specs.declared.symbol.Intrinsic.TheVariants.{Memcpy, Memmove, Memset}
use Rattle.ir_syntax.specs.declared.symbol.Target.{Target}
use Rattle.ir_syntax.specs.declared.symbol.Target.TheVariants as target
use Rattle.ir_syntax.specs.declared.constant.Const.{Const, out-Const}
use Rattle.ir_syntax.specs.declared.constant.Const.TheFolds.{map-Const, fold_out-Const}
use Rattle.ir_syntax.specs.declared.constant.Const.TheOpen.{Const-F}
use Rattle.ir_syntax.specs.declared.body.Body.{Body}
use Rattle.ir_syntax.specs.declared.item.Linkage.{Linkage}
use Rattle.ir_syntax.specs.declared.item.Linkage.TheVariants.{External, Internal, Private}
use Rattle.ir_syntax.specs.declared.item.Var.{Var}
use Rattle.ir_syntax.specs.declared.item.Func.{Func}
use Rattle.ir_syntax.specs.declared.item.Item.{Item}
use Rattle.ir_syntax.specs.declared.item.Item.TheVariants as item
use Rattle.ir_syntax.specs.declared.item.Module.{Module}
use Rattle.ir_syntax.specs.Builtins.{builtin_named, type_of_builtin}
use Rattle.ir_syntax.specs.Intrinsics.{intrinsic_named, is_intrinsic, intrinsic_type, type_of_intrinsic}
use Rattle.ir_syntax.specs.FunctionTypes.{type_of, function_type}
use Rattle.ir_syntax.specs.FormedBody.{item_name}
use Rattle.ir_syntax.specs.FormedItem.{is_reserved, FormedVar, FormedFunc, FormedItem}
use Rattle.ir_syntax.specs.Typed.{TypedItem}
use Rattle.ir_syntax.specs.Named.{names, names_step, item_names}
use Rattle.ir_syntax.specs.Programs.{ProgramData, IsProgram, IsSoundModule}
use Rattle.ir_syntax.specs.Refusals.{IsListed}
use Rattle.ir_syntax.specs.Symbols.{item_at, linkage_of, is_defined, IsItemOf, IsDefinitionOf, IsUndefined}
use Rattle.ir_syntax.specs.Targets.{StandsFor, IsTargetBy, IsTarget, IsCanonicalBy, entry_at}
use Rattle.ir_syntax.specs.Suits.{suits, suits_step, Suits, is_pointer, takes_number, takes_address, takes_zero, takes_text, takes_parts}
use Rattle.block_memory.specs.declared.value.Val.TheVariants as val
use Rattle.block_memory.specs.Starts.{name_as, name_of}
use Rattle.ir_steps.specs.Operands.{constant_in, constant_value}
use Rattle.ir_steps.proofs.Fits.{Has, IsDefinedVar, Answers, IsCallable, IsThere, IsValue}
use Rattle.ir_steps.proofs.Safely.{has_from, has_map}
use Rattle.ir_steps.proofs.NamingTypes.{types_are_one}

-- Some item of the module at home names the place.
pub record IsNamedAt (p : ProgramData) (home place : ℕ) : Type 0 where
  -- the item whose body or initialiser it is
  pub by : Sym
  pub at_home : by.module ≡ home
  pub user : Item
  pub stands : item_at p.modules by ≡ Some user
  pub names : Contains (item_names user) place

-- ---- items of sound modules

pub there_is : (modules : List Module) (symbol : Sym) (found : Item) → item_at modules symbol ≡ Some found → (m : Module) × (slice_get modules symbol.module ≡ Some m) × (slice_get m.items symbol.item ≡ Some found)
there_is modules symbol found is = of (slice_get modules symbol.module) refl is
  where
    of : (o : Option Module) → slice_get modules symbol.module ≡ o → option_and_then (λ m. slice_get m.items symbol.item) o ≡ Some found → (m : Module) × (slice_get modules symbol.module ≡ Some m) × (slice_get m.items symbol.item ≡ Some found)
    of None e i = absurd (cc)
    of (Some m) e i = (m, e, i)

-- the items that an item stands among, where it is formed and typed
pub record IsSoundItem (found : Item) : Type 0 where
  pub items : List Item
  pub formed : FormedItem items found
  pub typed : TypedItem items found

pub sound_item : (p : ProgramData) → IsProgram p → (symbol : Sym) (found : Item) → item_at p.modules symbol ≡ Some found → IsSoundItem found
sound_item p is symbol found stands =
    let there = there_is p.modules symbol found stands in
    let sound = All-at IsSoundModule p.modules symbol.module there.0 is.sound.sound there.1 in
    record {
      items = there.0.items;
      formed = All-at (FormedItem there.0.items) there.0.items symbol.item found sound.formed.has_items there.2;
      typed = All-at (TypedItem there.0.items) there.0.items symbol.item found sound.typed there.2;
    }

-- ---- symbols, and reserved names

pub symbols_are_one : (a b : Sym) → ((a ≢ b) → ⊥) → a ≡ b
symbols_are_one a b never = of (a.module == b.module) (a.item == b.item) refl refl
  where
    of : (x y : Bool) → (a.module == b.module) ≡ x → (a.item == b.item) ≡ y → a ≡ b
    of true true d e = ap (λ m. record { «module» = m; item = a.item }) (eqb-true a.module b.module d) ∙ ap (λ i. record { «module» = b.module; item = i }) (eqb-true a.item b.item e)
    of true false d e = absurd (never (λ one. false≢true (sym e ∙ eq-eqb a.item b.item (ap (λ s. s.item) one))))
    of false y d e = absurd (never (λ one. false≢true (sym d ∙ eq-eqb a.module b.module (ap (λ s. s.module) one))))

-- The names of the intrinsics begin with `llvm.`.
intrinsic_is_reserved : (name : List ℕ) → is_intrinsic name ≡ true → is_reserved name ≡ true
intrinsic_is_reserved name e = of (bytes_eq name (codes "llvm.memcpy.p0.p0.i64")) (bytes_eq name (codes "llvm.memmove.p0.p0.i64")) (bytes_eq name (codes "llvm.memset.p0.i64")) refl refl refl e
  where
    named : (other : List ℕ) → bytes_eq name other ≡ true → is_reserved other ≡ true → is_reserved name ≡ true
    named other one reserved = ap is_reserved ((bytes_eq-Decides name other).0 one) ∙ reserved

    of : (a b c : Bool) → bytes_eq name (codes "llvm.memcpy.p0.p0.i64") ≡ a → bytes_eq name (codes "llvm.memmove.p0.p0.i64") ≡ b → bytes_eq name (codes "llvm.memset.p0.i64") ≡ c → (a || b || c) ≡ true → is_reserved name ≡ true
    of true b c x y z h = named (codes "llvm.memcpy.p0.p0.i64") x refl
    of false true c x y z h = named (codes "llvm.memmove.p0.p0.i64") y refl
    of false false true x y z h = named (codes "llvm.memset.p0.i64") z refl
    of false false false x y z h = absurd (false≢true h)

-- a name that is no intrinsic's
not_an_intrinsic : (name : List ℕ) → intrinsic_named name ≡ None → is_intrinsic name ≡ false
not_an_intrinsic name e = of (bytes_eq name (codes "llvm.memcpy.p0.p0.i64")) (bytes_eq name (codes "llvm.memmove.p0.p0.i64")) (bytes_eq name (codes "llvm.memset.p0.i64")) e
  where
    of : (a b c : Bool) → cond a (Some Memcpy) (cond b (Some Memmove) (cond c (Some Memset) None)) ≡ None → (a || b || c) ≡ false
    of true b c e = cc
    of false true c e = cc
    of false false true e = cc
    of false false false e = refl

-- a name that is
an_intrinsic : (name : List ℕ) (intrinsic : Intrinsic) → intrinsic_named name ≡ Some intrinsic → is_intrinsic name ≡ true
an_intrinsic name intrinsic e = of (bytes_eq name (codes "llvm.memcpy.p0.p0.i64")) (bytes_eq name (codes "llvm.memmove.p0.p0.i64")) (bytes_eq name (codes "llvm.memset.p0.i64")) e
  where
    of : (a b c : Bool) → cond a (Some Memcpy) (cond b (Some Memmove) (cond c (Some Memset) None)) ≡ Some intrinsic → (a || b || c) ≡ true
    of true true c e = refl
    of true false true e = refl
    of true false false e = refl
    of false true c e = refl
    of false false true e = refl
    of false false false e = cc

-- and its type
type_of_named : (name : List ℕ) (intrinsic : Intrinsic) → intrinsic_named name ≡ Some intrinsic → intrinsic_type name ≡ type_of_intrinsic intrinsic
type_of_named name intrinsic e = of (bytes_eq name (codes "llvm.memcpy.p0.p0.i64")) (bytes_eq name (codes "llvm.memmove.p0.p0.i64")) (bytes_eq name (codes "llvm.memset.p0.i64")) refl refl refl e
  where
    named : (other : List ℕ) (found : Intrinsic) → bytes_eq name other ≡ true → found ≡ intrinsic → intrinsic_type other ≡ type_of_intrinsic found → intrinsic_type name ≡ type_of_intrinsic intrinsic
    named other found one same is = ap intrinsic_type ((bytes_eq-Decides name other).0 one) ∙ is ∙ ap type_of_intrinsic same

    of : (a b c : Bool) → bytes_eq name (codes "llvm.memcpy.p0.p0.i64") ≡ a → bytes_eq name (codes "llvm.memmove.p0.p0.i64") ≡ b → bytes_eq name (codes "llvm.memset.p0.i64") ≡ c
        → cond a (Some Memcpy) (cond b (Some Memmove) (cond c (Some Memset) None)) ≡ Some intrinsic → intrinsic_type name ≡ type_of_intrinsic intrinsic
    of true b c x y z e = named (codes "llvm.memcpy.p0.p0.i64") Memcpy x (cc) refl
    of false true c x y z e = named (codes "llvm.memmove.p0.p0.i64") Memmove y (cc) refl
    of false false true x y z e = named (codes "llvm.memset.p0.i64") Memset z (cc) refl
    of false false false x y z e = absurd (cc)

-- ---- what is known of one external name

-- Where all items of the name are of one type, one that has a type beside it is the same.
same_type_there : (p : ProgramData) → IsProgram p → (name : List ℕ) (one other : Sym) (one_found other_found : Item) → IsItemOf p.modules name one one_found → IsItemOf p.modules name other other_found → (function_type (Some one_found) ≢ function_type (Some other_found)) → ⊥
same_type_there p is name one other one_found other_found one_of other_of differ =
    is.linked.no_clash name (inl (record { one = one; other = other; one_found = one_found; other_found = other_found; one_of = one_of; other_of = other_of; differ = differ }))

-- A variable and a function don't have one external name.
apart : (p : ProgramData) → IsProgram p → (name : List ℕ) (one other : Sym) (var : Var) (func : Func) → IsItemOf p.modules name one (item.Var var) → IsItemOf p.modules name other (item.Func func) → ⊥
apart p is name one other var func one_of other_of = same_type_there p is name one other (item.Var var) (item.Func func) one_of other_of (λ e. cc)

-- The item that is named is its name's, or its module's alone.
itself : (p : ProgramData) (symbol : Sym) (found : Item) → item_at p.modules symbol ≡ Some found → linkage_of found ≡ External → IsItemOf p.modules (item_name found) symbol found
itself p symbol found stands external = record { stands = stands; external = external; named = refl }

-- A name without a definition that a body or an initialiser names is an intrinsic's, a built-in function's, or listed.
never_missing : (p : ProgramData) → (is : IsProgram p) → (home place : ℕ) → IsNamedAt p home place → (found : Item) → IsItemOf p.modules (item_name found) (record { «module» = home; item = place }) found → IsUndefined p.modules (item_name found)
    → is_intrinsic (item_name found) ≡ false → builtin_named (item_name found) ≡ None → (IsListed p.modules is.outside (item_name found) → ⊥) → ⊥
never_missing p is home place named found of none plain own unlisted =
    is.linked.none_missing (item_name found) (record {
      named = record {
        by = named.by;
        user = named.user;
        stands = named.stands;
        place = place;
        names = named.names;
        found = found;
        is_of = subst (λ m. IsItemOf p.modules (item_name found) (record { «module» = m; item = place }) found) (sym named.at_home) of;
      };
      undefined = none;
      not_intrinsic = plain;
      not_builtin = own;
      not_listed = unlisted;
    })

-- ---- functions

-- what a function at a symbol stands for, where it is the canonical one of its name
pub callable : (p : ProgramData) (symbol : Sym) (func : Func) → item_at p.modules symbol ≡ Some (item.Func func) → (to : Target) → entry_at p.targets symbol ≡ Some to → Answers symbol func to → IsCallable p symbol
callable p symbol func stands to entry answers = record { func = func; is = stands; to = to; stands = entry; answers = answers }

some_is : {A : Type 0} (o : Option A) (x : A) → o ≡ Some x → IsSome o
some_is None x e = absurd (cc)
some_is (Some y) x e = refl

-- A local one is its own definition.
local_answers : (symbol : Sym) (func : Func) (to : Target) → to ≡ target.Def symbol → IsSome func.body → Answers symbol func to
local_answers symbol func to e body = subst (Answers symbol func) (sym e) (refl, body)

-- An external one that is defined is the only definition.
defined_answers : (p : ProgramData) → (is : IsProgram p) → (symbol : Sym) (func : Func) → IsDefinitionOf p.modules func.name symbol → IsSome func.body → (to : Target) → StandsFor p.modules is.outside func.name to → Answers symbol func to
defined_answers p is symbol func d body (target.Def other) stands =
    (symbols_are_one other symbol (λ apart. is.linked.one_definition func.name (record { one = other; other = symbol; apart = apart; one_defined = stands; other_defined = d })), body)
defined_answers p is symbol func d body target.Outside stands = absurd (stands.0 symbol d)
defined_answers p is symbol func d body (target.Builtin of) stands = absurd (stands.0 symbol d)
defined_answers p is symbol func d body (target.Intrinsic of) stands = absurd (stands.0 symbol d)
defined_answers p is symbol func d body target.Nothing stands = absurd (stands.0 symbol d)

-- One without a definition answers by its name, which isn't missing.
undefined_answers : (p : ProgramData) → (is : IsProgram p) → (symbol : Sym) (func : Func) → IsItemOf p.modules func.name symbol (item.Func func) → IsUndefined p.modules func.name
    → (is_intrinsic func.name ≡ false → builtin_named func.name ≡ None → (IsListed p.modules is.outside func.name → ⊥) → ⊥) → (to : Target) → StandsFor p.modules is.outside func.name to → Answers symbol func to
undefined_answers p is symbol func of none known (target.Def other) stands = absurd (none other stands)
undefined_answers p is symbol func of none known target.Outside stands = tt
undefined_answers p is symbol func of none known (target.Builtin builtin) stands =
    types_are_one (type_of func) (type_of_builtin builtin)
    (λ differs. is.linked.no_clash func.name (inr (record {
      builtin = builtin;
      is_builtin = stands.1;
      undefined = none;
      symbol = symbol;
      found = item.Func func;
      is_of = of;
      differs = λ e. differs (cc);
    })))
undefined_answers p is symbol func of none known (target.Intrinsic intrinsic) stands =
    (sound_item p is symbol (item.Func func) of.stands).typed.intrinsic (an_intrinsic func.name intrinsic stands.1) ∙ type_of_named func.name intrinsic stands.1
undefined_answers p is symbol func of none known target.Nothing stands = known (not_an_intrinsic func.name stands.1.1) stands.1.0 stands.1.2

-- ---- the canonical symbol of what is named

-- a local variable is defined, and so is a local function
local_var : (items : List Item) (var : Var) → FormedVar items var → (var.linkage ≡ External → ⊥) → IsSome var.init
local_var items var formed local = of var.init formed.declared
  where
    of : (o : Option Const) → IfNone o (var.linkage ≡ External) → IsSome o
    of None e = absurd (local e)
    of (Some init) e = refl

local_func : (items : List Item) (func : Func) → FormedFunc items func → (func.linkage ≡ External → ⊥) → IsSome func.body
local_func items func formed local = of func.body formed.declared
  where
    of : (o : Option Body) → IfNone o (func.linkage ≡ External) → IsSome o
    of None e = absurd (local e)
    of (Some body) e = refl

-- the block of a local item
local_there : (p : ProgramData) → (is : IsProgram p) → (symbol : Sym) (found : Item) → item_at p.modules symbol ≡ Some found → (linkage_of found ≡ External → ⊥)
    → ((to : Target) → IsTarget p.modules is.outside symbol found to → to ≡ target.Def symbol) → (made : ℕ) → IsThere p made (name_as found symbol)
local_there p is symbol (item.Var var) stands local own made =
    subst IsDefinedVar (sym stands) (local_var (sound_item p is symbol (item.Var var) stands).items var (sound_item p is symbol (item.Var var) stands).formed local)
local_there p is symbol (item.Func func) stands local own made =
    let target = is.linked.targets.each symbol (item.Func func) stands in
    let sound = sound_item p is symbol (item.Func func) stands in
    callable p symbol func stands target.entry target.stands (local_answers symbol func target.entry (own target.entry target.is) (local_func sound.items func sound.formed local))

-- a variable that is named is defined
never_undefined : (p : ProgramData) → (is : IsProgram p) → (home place : ℕ) → IsNamedAt p home place → (var : Var) → IsItemOf p.modules var.name (record { «module» = home; item = place }) (item.Var var) → IsUndefined p.modules var.name → ⊥
never_undefined p is home place named var of none = never_missing p is home place named (item.Var var) of none (plain (is_intrinsic var.name) refl) (own (builtin_named var.name) refl) (λ listed. apart p is var.name symbol listed.symbol var listed.func of listed.is_of)
  where
    symbol : Sym
    symbol = record { «module» = home; item = place }

    plain : (b : Bool) → is_intrinsic var.name ≡ b → is_intrinsic var.name ≡ false
    plain true e = absurd (false≢true (sym (sound_item p is symbol (item.Var var) of.stands).formed.not_reserved ∙ intrinsic_is_reserved var.name e))
    plain false e = e

    own : (o : Option Builtin) → builtin_named var.name ≡ o → builtin_named var.name ≡ None
    own None e = e
    own (Some builtin) e = absurd (is.linked.no_clash var.name (inr (record { builtin = builtin; is_builtin = e; undefined = none; symbol = symbol; found = item.Var var; is_of = of; differs = λ d. cc })))

-- The canonical symbol of an external name that has a definition,
defined_there : (p : ProgramData) → (is : IsProgram p) → (symbol : Sym) (found : Item) → IsItemOf p.modules (item_name found) symbol found → (entry : Sym) → IsDefinitionOf p.modules (item_name found) entry → (made : ℕ) → IsThere p made (name_as found entry)
defined_there p is symbol (item.Var var) of entry d made = at d.found d.is_of d.defined
  where
    at : (other : Item) → IsItemOf p.modules var.name entry other → IsTrue (is_defined other) → IsDefinedVar (item_at p.modules entry)
    at (item.Var v) entry_of defined = subst IsDefinedVar (sym entry_of.stands) defined
    at (item.Func f) entry_of defined = absurd (apart p is var.name symbol entry var f of entry_of)
defined_there p is symbol (item.Func func) of entry d made = at d.found d.is_of d.defined
  where
    at : (other : Item) → IsItemOf p.modules func.name entry other → IsTrue (is_defined other) → IsCallable p entry
    at (item.Var v) entry_of defined = absurd (apart p is func.name entry symbol v func entry_of of)
    at (item.Func f) entry_of defined =
        let target = is.linked.targets.each entry (item.Func f) entry_of.stands in
        let stands : StandsFor p.modules is.outside f.name target.entry = subst (λ l. IsTargetBy p.modules is.outside entry f.name l target.entry) entry_of.external target.is in
        let definition : IsDefinitionOf p.modules f.name entry = record { found = item.Func f; is_of = itself p entry (item.Func f) entry_of.stands entry_of.external; defined = defined } in
        callable p entry f entry_of.stands target.entry target.stands (defined_answers p is entry f definition defined target.entry stands)

-- and of one that has none
undefined_there : (p : ProgramData) → (is : IsProgram p) → (home place : ℕ) → IsNamedAt p home place → (found : Item) → IsItemOf p.modules (item_name found) (record { «module» = home; item = place }) found
    → IsUndefined p.modules (item_name found) → (entry : Sym) (other : Item) → IsItemOf p.modules (item_name found) entry other → (made : ℕ) → IsThere p made (name_as found entry)
undefined_there p is home place named (item.Var var) of none entry other entry_of made = absurd (never_undefined p is home place named var of none)
undefined_there p is home place named (item.Func func) of none entry (item.Var v) entry_of made = absurd (apart p is func.name entry (record { «module» = home; item = place }) v func entry_of of)
undefined_there p is home place named (item.Func func) of none entry (item.Func f) entry_of made =
    let target = is.linked.targets.each entry (item.Func f) entry_of.stands in
    let stands : StandsFor p.modules is.outside f.name target.entry = subst (λ l. IsTargetBy p.modules is.outside entry f.name l target.entry) entry_of.external target.is in
    callable p entry f entry_of.stands target.entry target.stands
    (undefined_answers p is entry f (itself p entry (item.Func f) entry_of.stands entry_of.external)
    (subst (IsUndefined p.modules) (sym entry_of.named) none)
    (subst (λ name. is_intrinsic name ≡ false → builtin_named name ≡ None → (IsListed p.modules is.outside name → ⊥) → ⊥) (sym entry_of.named) (never_missing p is home place named (item.Func func) of none))
    target.entry stands)

-- ---- what is named is there

-- the block that a canonical symbol names
canonical_there : (p : ProgramData) → (is : IsProgram p) → (home place : ℕ) → IsNamedAt p home place → (found : Item) → item_at p.modules (record { «module» = home; item = place }) ≡ Some found
    → (linkage : Linkage) → linkage_of found ≡ linkage → (entry : Sym) → IsCanonicalBy p.modules (record { «module» = home; item = place }) (item_name found) linkage entry
    → ((to : Target) → IsTarget p.modules is.outside (record { «module» = home; item = place }) found to → IsTargetBy p.modules is.outside (record { «module» = home; item = place }) (item_name found) linkage to)
    → (made : ℕ) → IsThere p made (name_as found entry)
canonical_there p is home place named found stands External external entry (inl d) targets made = defined_there p is (record { «module» = home; item = place }) found (itself p (record { «module» = home; item = place }) found stands external) entry d made
canonical_there p is home place named found stands External external entry (inr none) targets made =
    undefined_there p is home place named found (itself p (record { «module» = home; item = place }) found stands external) none.0 entry none.1.found none.1.is_of made
canonical_there p is home place named found stands Internal local entry same targets made =
    subst (λ s. IsThere p made (name_as found s)) (sym same) (local_there p is (record { «module» = home; item = place }) found stands (λ e. cc) targets made)
canonical_there p is home place named found stands Private local entry same targets made =
    subst (λ s. IsThere p made (name_as found s)) (sym same) (local_there p is (record { «module» = home; item = place }) found stands (λ e. cc) targets made)

-- An item of the module that is named has the name of a block.
pub found_is_there : (p : ProgramData) → IsProgram p → (home place : ℕ) → IsNamedAt p home place → (found : Item) → item_at p.modules (record { «module» = home; item = place }) ≡ Some found → (made : ℕ) → Has (IsThere p made) (name_of p (record { «module» = home; item = place }))
found_is_there p is home place named found stands made =
    let canonical = is.canonical.each (record { «module» = home; item = place }) found stands in
    has_from (IsThere p made) (name_of p (record { «module» = home; item = place })) (name_as found canonical.entry)
    (ap (option_and_then (λ one. option_map (name_as one) (entry_at p.canonical (record { «module» = home; item = place })))) stands ∙ ap (option_map (name_as found)) canonical.stands)
    (canonical_there p is home place named found stands (linkage_of found) refl canonical.entry canonical.is (λ to own. own) made)

-- ---- constants

-- the item at a place of a module
pub item_in : (modules : List Module) (home place : ℕ) (m : Module) → slice_get modules home ≡ Some m → place < length m.items → (found : Item) × (item_at modules (record { «module» = home; item = place }) ≡ Some found)
item_in modules home place m at within =
    let found = there_at m.items place within in
    (found.0, ap (option_and_then (λ one. slice_get one.items place)) at ∙ found.1)
  where
    there_at : (items : List Item) (k : ℕ) → k < length items → (found : Item) × (slice_get items k ≡ Some found)
    there_at [] k within = absurd (omega arith)
    there_at (x ∷ items) zero within = (x, refl)
    there_at (x ∷ items) (suc k) within = there_at items k (omega arith)

pointer_is : (ty : Scalar) → is_pointer ty ≡ true → ty ≡ Ptr
pointer_is I1 e = absurd (false≢true e)
pointer_is I8 e = absurd (false≢true e)
pointer_is I16 e = absurd (false≢true e)
pointer_is I32 e = absurd (false≢true e)
pointer_is I64 e = absurd (false≢true e)
pointer_is Ptr e = refl

-- what takes a constant and what it names, by its layer
suits_out : (items : ℕ) (c : Const) (ty : Ty) → suits items c ty ≡ suits_step items (map-Const Const (Ty → Bool) (suits items) (out-Const c)) ty
unfolding suits
suits_out items c ty = ap (λ f. f ty) (fold_out-Const (Ty → Bool) (suits_step items) c)

names_out : (c : Const) → names c ≡ names_step (map-Const Const (List ℕ) names (out-Const c))
unfolding names
names_out c = fold_out-Const (List ℕ) names_step c

layer_fits : (p : ProgramData) → IsProgram p → (home : ℕ) (m : Module) → slice_get p.modules home ≡ Some m → (x : Const-F Const) (ty : Scalar) → suits_step (length m.items) (map-Const Const (Ty → Bool) (suits (length m.items)) x) (One ty) ≡ true
    → ((place : ℕ) → Contains (names_step (map-Const Const (List ℕ) names x)) place → IsNamedAt p home place) → (made : ℕ) → Has (IsValue p made ty) (constant_in p home x)
layer_fits p is home m at (Const-F.Int n) ty fit named made = sym (ap (λ x. takes_number x n) (outs-One ty)) ∙ fit
layer_fits p is home m at Const-F.Null ty fit named made = pointer_is ty (sym (ap takes_address (outs-One ty)) ∙ fit)
layer_fits p is home m at (Const-F.Addr place offset) ty fit named made =
    let both = and_parts (is_pointer ty) (nat_lt place (length m.items)) (sym (ap (λ x. takes_address x && nat_lt place (length m.items)) (outs-One ty)) ∙ fit) in
    let found = item_in p.modules home place m at (ltb-true place (length m.items) both.1) in
    let there = found_is_there p is home place (named place (0, omega arith, refl)) found.0 found.1 made in
    has_map (IsThere p made) (IsValue p made ty) (λ of. val.At of offset) (name_of p (record { «module» = home; item = place })) there (λ of h. (pointer_is ty both.0, h))
layer_fits p is home m at Const-F.Undef ty fit named made = tt
layer_fits p is home m at Const-F.Poison ty fit named made = tt
layer_fits p is home m at Const-F.Zero ty fit named made = absurd (false≢true (sym (ap takes_zero (outs-One ty)) ∙ fit))
layer_fits p is home m at (Const-F.Text bytes) ty fit named made = absurd (false≢true (sym (ap (λ x. takes_text x (length bytes)) (outs-One ty)) ∙ fit))
layer_fits p is home m at (Const-F.Many parts) ty fit named made = absurd (false≢true (sym (ap (λ x. takes_parts x (map (suits (length m.items)) parts)) (outs-One ty)) ∙ fit))

-- A constant that suits a scalar type, and whose names are named in its module, has a value of the type.
pub constant_fits : (p : ProgramData) → IsProgram p → (home : ℕ) (m : Module) → slice_get p.modules home ≡ Some m → (c : Const) (ty : Scalar) → Suits (length m.items) (One ty) c
    → ((place : ℕ) → Contains (names c) place → IsNamedAt p home place) → (made : ℕ) → Has (IsValue p made ty) (constant_value p home c)
constant_fits p is home m at c ty fit named made =
    layer_fits p is home m at (out-Const c) ty (sym (suits_out (length m.items) c (One ty)) ∙ fit) (λ place h. named place (subst (λ places. Contains places place) (sym (names_out c)) h)) made
