-- What the functions of a program stand for, and their types.
use Rattle.std.proofs.Common.{◌≡◌, ◌≢◌, ◌∙◌, inl, inr, ℕ, Bool, true, false, cond, ◌||◌, ◌==◌, List, [], ◌∷◌, Option, None, Some, slice_get, bytes_eq, codes, refl, sym, ap, subst}
use Rattle.std.specs.Prelude.{◌&&◌}
use Rattle.std.proofs.lemmas.Bool.{false≢true, and_from, eqb-true, eq-eqb}
use Rattle.ir_types.proofs.ListSteps.{All-at}
use Rattle.ir_types.specs.declared.scalar.Scalar.{Scalar}
use Rattle.ir_types.specs.declared.scalar.Scalar.TheVariants.{I1, I8, I16, I32, I64, Ptr}
use Rattle.ir_types.specs.declared.scalar.FnType.{FnType}
use Rattle.ir_types.specs.Scalars.{same}
use Rattle.ir_syntax.specs.declared.symbol.Sym.{Sym}
use Rattle.ir_syntax.specs.declared.symbol.Builtin.{Builtin}
use Rattle.ir_syntax.specs.declared.symbol.Intrinsic.{Intrinsic}
use Rattle.ir_syntax.specs.declared.symbol.Intrinsic.TheVariants.{Memcpy, Memmove, Memset}
use Rattle.ir_syntax.specs.declared.symbol.Target.{Target}
use Rattle.ir_syntax.specs.declared.symbol.Target.TheVariants as target
use Rattle.ir_syntax.specs.declared.item.Linkage.{Linkage}
use Rattle.ir_syntax.specs.declared.item.Linkage.TheVariants.{External, Internal, Private}
use Rattle.ir_syntax.specs.declared.item.Func.{Func}
use Rattle.ir_syntax.specs.declared.item.Item.{Item}
use Rattle.ir_syntax.specs.declared.item.Item.TheVariants as item
use Rattle.ir_syntax.specs.declared.item.Module.{Module}
use Rattle.ir_syntax.specs.Builtins.{type_of_builtin}
use Rattle.ir_syntax.specs.FormedBody.{item_name}
use Rattle.ir_syntax.specs.FunctionTypes.{type_of}
use Rattle.ir_syntax.specs.Intrinsics.{intrinsic_named, is_intrinsic}
use Rattle.ir_syntax.specs.Programs.{ProgramData, IsProgram, IsSoundModule}
use Rattle.ir_syntax.specs.Symbols.{item_at, linkage_of, IsItemOf, IsDefinitionOf}
use Rattle.ir_syntax.specs.Targets.{entry_at, HasEntry, IsTargetBy, IsTarget, IsCanonicalBy, IsCanonical}
use Rattle.ir_syntax.specs.Typed.{TypedItem, TypedFunc}
use Rattle.ir_steps.specs.Calls.{func_of, function_at, same_types, same_return, same_truth, same_type}
use Rattle.ir_steps.proofs.CallingTypes.{type_same}
use Rattle.fold_facts.proofs.Lists.{some_is}
use Rattle.known_values.proofs.Giving.{then_some}

-- ---- types of functions

scalar_same : (a : Scalar) → same a a ≡ true
scalar_same I1 = refl
scalar_same I8 = refl
scalar_same I16 = refl
scalar_same I32 = refl
scalar_same I64 = refl
scalar_same Ptr = refl

types_same : (tys : List Scalar) → same_types tys tys ≡ true
types_same [] = refl
types_same (ty ∷ more) = and_from (same ty ty) (same_types more more) (scalar_same ty) (types_same more)

truth_same : (b : Bool) → same_truth b b ≡ true
truth_same true = refl
truth_same false = refl

return_same : (o : Option Scalar) → same_return o o ≡ true
return_same None = refl
return_same (Some ty) = scalar_same ty

same_as_itself : (ty : FnType) → same_type ty ty ≡ true
same_as_itself ty = and_from (same_types ty.params ty.params && same_truth ty.variadic ty.variadic) (same_return ty.returns ty.returns)
    (and_from (same_types ty.params ty.params) (same_truth ty.variadic ty.variadic) (types_same ty.params) (truth_same ty.variadic)) (return_same ty.returns)

-- Types that can't differ are one.
one_type : (a b : FnType) → ((a ≢ b) → ⊥) → a ≡ b
one_type a b never = by (same_type a b) refl
  where
    by : (t : Bool) → same_type a b ≡ t → a ≡ b
    by true e = type_same a b e
    by false e = absurd (never (λ one. false≢true (sym e ∙ ap (same_type a) (sym one) ∙ same_as_itself a)))

-- ---- symbols

one_symbol : (a b : Sym) → ((a ≢ b) → ⊥) → a ≡ b
one_symbol a b never = by (a.module == b.module) (a.item == b.item) refl refl
  where
    by : (x y : Bool) → (a.module == b.module) ≡ x → (a.item == b.item) ≡ y → a ≡ b
    by true true d e = ap (λ m. record { «module» = m; item = a.item }) (eqb-true a.module b.module d) ∙ ap (λ i. record { «module» = b.module; item = i }) (eqb-true a.item b.item e)
    by true false d e = absurd (never (λ one. false≢true (sym e ∙ eq-eqb a.item b.item (ap (λ s. s.item) one))))
    by false y d e = absurd (never (λ one. false≢true (sym d ∙ eq-eqb a.module b.module (ap (λ s. s.module) one))))

func_is : (found : Item) (func : Func) → func_of found ≡ Some func → found ≡ item.Func func
func_is (item.Var var) func e = cc
func_is (item.Func other) func e = ap item.Func (some_is e)

-- the item of a function
pub function_is : (p : ProgramData) (symbol : Sym) (func : Func) → function_at p symbol ≡ Some func → item_at p.modules symbol ≡ Some (item.Func func)
function_is p symbol func e =
    let h = then_some func_of (item_at p.modules symbol) func e in
    h.1 ∙ ap Some (func_is h.0 func h.2)

-- ---- what it stands for

entry_is : {A : Type 0} (entries : List (List A)) (symbol : Sym) (Is : A → Type 0) (x : A) → HasEntry A entries symbol Is → entry_at entries symbol ≡ Some x → Is x
entry_is entries symbol Is x h e = subst Is (some_is (sym h.stands ∙ e)) h.is

pub target_is : (p : ProgramData) (program : IsProgram p) (symbol : Sym) (found : Item) (to : Target) → item_at p.modules symbol ≡ Some found → entry_at p.targets symbol ≡ Some to → IsTarget p.modules program.outside symbol found to
target_is p program symbol found to stands e = entry_is p.targets symbol (IsTarget p.modules program.outside symbol found) to (program.linked.targets.each symbol found stands) e

-- A definition has the type of what stands for it.
type_defined : (p : ProgramData) → IsProgram p → (name : List ℕ) (one other : Sym) (f g : Func) → IsItemOf p.modules name one (item.Func f) → IsItemOf p.modules name other (item.Func g) → type_of f ≡ type_of g
type_defined p program name one other f g one_of other_of =
    one_type (type_of f) (type_of g) (λ differ. program.linked.no_clash name (inl (record {
      one = one;
      other = other;
      one_found = item.Func f;
      other_found = item.Func g;
      one_of = one_of;
      other_of = other_of;
      differ = λ e. differ (some_is e);
    })))

local_is : (a b : Sym) → target.Def a ≡ target.Def b → a ≡ b
local_is a b e = cc

pub type_of_definition : (p : ProgramData) (program : IsProgram p) (symbol of : Sym) (func body : Func) → item_at p.modules symbol ≡ Some (item.Func func) → item_at p.modules of ≡ Some (item.Func body)
    → IsTarget p.modules program.outside symbol (item.Func func) (target.Def of) → type_of body ≡ type_of func
type_of_definition p program symbol of func body stands defined is = by func.linkage refl is
  where
    local : of ≡ symbol → type_of body ≡ type_of func
    local e = ap type_of (same_function (some_is (sym defined ∙ ap (item_at p.modules) e ∙ stands)))
      where
        same_function : item.Func body ≡ item.Func func → body ≡ func
        same_function h = cc

    by : (l : Linkage) → func.linkage ≡ l → IsTargetBy p.modules program.outside symbol func.name l (target.Def of) → type_of body ≡ type_of func
    by External external d =
        let same : ◌≡◌ {A = Item} d.found (item.Func body) = some_is (sym d.is_of.stands ∙ defined) in
        type_defined p program func.name of symbol body func (subst (λ x. IsItemOf p.modules func.name of x) same d.is_of)
        (record { stands = stands; external = external; named = refl })
    by Internal e h = local (local_is of symbol h)
    by Private e h = local (local_is of symbol h)

-- A built-in function is of its type.
pub type_of_builtin_is : (p : ProgramData) (program : IsProgram p) (symbol : Sym) (func : Func) (of : Builtin) → item_at p.modules symbol ≡ Some (item.Func func)
    → IsTarget p.modules program.outside symbol (item.Func func) (target.Builtin of) → type_of func ≡ type_of_builtin of
type_of_builtin_is p program symbol func of stands is = by func.linkage refl is
  where
    by : (l : Linkage) → func.linkage ≡ l → IsTargetBy p.modules program.outside symbol func.name l (target.Builtin of) → type_of func ≡ type_of_builtin of
    by External external h =
        one_type (type_of func) (type_of_builtin of) (λ differ. program.linked.no_clash func.name (inr (record {
          builtin = of;
          is_builtin = h.1;
          undefined = h.0;
          symbol = symbol;
          found = item.Func func;
          is_of = record { stands = stands; external = external; named = refl };
          differs = λ e. differ (some_is e);
        })))
    by Internal e h = cc
    by Private e h = cc

an_intrinsic : (name : List ℕ) (of : Intrinsic) → intrinsic_named name ≡ Some of → is_intrinsic name ≡ true
an_intrinsic name of e = by (bytes_eq name (codes "llvm.memcpy.p0.p0.i64")) (bytes_eq name (codes "llvm.memmove.p0.p0.i64")) (bytes_eq name (codes "llvm.memset.p0.i64")) e
  where
    by : (a b c : Bool) → cond a (Some Memcpy) (cond b (Some Memmove) (cond c (Some Memset) None)) ≡ Some of → (a || b || c) ≡ true
    by true b c e = refl
    by false true c e = refl
    by false false true e = refl
    by false false false e = cc

typed_at : (p : ProgramData) (program : IsProgram p) (symbol : Sym) (func : Func) → item_at p.modules symbol ≡ Some (item.Func func) → (m : Module) × TypedFunc m.items func
typed_at p program symbol func stands =
    let home = then_some (λ (m : Module). slice_get m.items symbol.item) (slice_get p.modules symbol.module) (item.Func func) stands in
    let sound = All-at IsSoundModule p.modules symbol.module home.0 program.sound.sound home.1 in
    (home.0, All-at (TypedItem home.0.items) home.0.items symbol.item (item.Func func) sound.typed home.2)

-- An intrinsic returns nothing.
pub intrinsic_returns : (p : ProgramData) (program : IsProgram p) (symbol : Sym) (func : Func) (of : Intrinsic) → item_at p.modules symbol ≡ Some (item.Func func)
    → IsTarget p.modules program.outside symbol (item.Func func) (target.Intrinsic of) → func.returns ≡ None
intrinsic_returns p program symbol func of stands is = by func.linkage is
  where
    by : (l : Linkage) → IsTargetBy p.modules program.outside symbol func.name l (target.Intrinsic of) → func.returns ≡ None
    by External h = ap (λ (t : FnType). t.returns) ((typed_at p program symbol func stands).1.intrinsic (an_intrinsic func.name of h.1))
    by Internal h = cc
    by Private h = cc

-- ---- canonical symbols

-- What an item stands for is what its canonical symbol stands for.
pub canonical_same : (p : ProgramData) (program : IsProgram p) (symbol canonical one other : Sym) (found there : Item) → item_at p.modules symbol ≡ Some found → item_at p.modules canonical ≡ Some there
    → entry_at p.canonical symbol ≡ Some canonical → entry_at p.targets symbol ≡ Some (target.Def one) → entry_at p.targets canonical ≡ Some (target.Def other) → one ≡ other
canonical_same p program symbol canonical one other found there stands at is first second =
    by (linkage_of found) refl (entry_is p.canonical symbol (IsCanonical p.modules symbol found) canonical (program.canonical.each symbol found stands) is)
    (target_is p program symbol found (target.Def one) stands first)
  where
    itself : canonical ≡ symbol → one ≡ other
    itself e = local_is one other (some_is (sym first ∙ ap (entry_at p.targets) (sym e) ∙ second))

    defined : IsDefinitionOf p.modules (item_name found) one → IsDefinitionOf p.modules (item_name found) canonical → one ≡ other
    defined d c =
        let same : ◌≡◌ {A = Item} c.found there = some_is (sym c.is_of.stands ∙ at) in
        let external : linkage_of there ≡ External = sym (ap linkage_of same) ∙ c.is_of.external in
        let named : item_name there ≡ item_name found = sym (ap item_name same) ∙ c.is_of.named in
        let stands_for : IsTargetBy p.modules program.outside canonical (item_name there) External (target.Def other) =
        subst (λ l. IsTargetBy p.modules program.outside canonical (item_name there) l (target.Def other)) external (target_is p program canonical there (target.Def other) at second) in
        let also : IsDefinitionOf p.modules (item_name found) other = subst (λ n. IsDefinitionOf p.modules n other) named stands_for in
        one_symbol one other (λ apart. program.linked.one_definition (item_name found) (record { one = one; other = other; apart = apart; one_defined = d; other_defined = also }))

    by : (l : Linkage) → linkage_of found ≡ l → IsCanonicalBy p.modules symbol (item_name found) l canonical → IsTarget p.modules program.outside symbol found (target.Def one) → one ≡ other
    by External e c t = of c (subst (λ l. IsTargetBy p.modules program.outside symbol (item_name found) l (target.Def one)) e t)
      where
        of : IsCanonicalBy p.modules symbol (item_name found) External canonical → IsTargetBy p.modules program.outside symbol (item_name found) External (target.Def one) → one ≡ other
        of (inl d) h = defined h d
        of (inr none) h = absurd (none.0 one h)
    by Internal e c t = itself c
    by Private e c t = itself c
