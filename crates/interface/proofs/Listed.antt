-- What a program says of the items that symbols name.
use Rattle.std.proofs.Common.{◌≡◌, ◌∙◌, ℕ, zero, suc, ◌+◌, ◌≤◌, ◌<◌, ◌^◌, List, [], ◌∷◌, ◌++◌, Option, None, Some, IsSome, All, length, map, drop, refl, ap, sym, subst, arith, add-one}
use Rattle.std.specs.Prelude.{slice_get, option_and_then}
use Rattle.std.specs.Option.{IfSome}
use Rattle.std.specs.List.{AllZip}
use Rattle.ir_types.specs.declared.scalar.Known.{Known}
use Rattle.ir_types.proofs.ListSteps.{All-at, slice_get-within}
use Rattle.ir_syntax.specs.declared.symbol.Sym.{Sym}
use Rattle.ir_syntax.specs.declared.item.Func.{Func}
use Rattle.ir_syntax.specs.declared.item.Item.{Item}
use Rattle.ir_syntax.specs.declared.item.Item.TheVariants as item
use Rattle.ir_syntax.specs.declared.item.Module.{Module}
use Rattle.ir_syntax.specs.FormedItem.{FormedItem, FormedFunc}
use Rattle.ir_syntax.specs.Symbols.{item_at, IsKnownOf, IsFunctionFor}
use Rattle.ir_syntax.specs.Targets.{entry_at, AreEntries}
use Rattle.ir_syntax.specs.Programs.{ProgramData, IsProgram, AreSoundModules, IsSoundModule}
use Rattle.ir_syntax.specs.SoundFunctions.{IsSoundFunction}
use Rattle.ir_syntax.proofs.SoundLemmas.{sound_function}
use Rattle.demands.specs.Rows.{IsShortSymbol}

-- the module of an item, and the item in it
pub record IsIn (modules : List Module) (symbol : Sym) (found : Item) : Type 0 where
  pub home : Module
  pub there : slice_get modules symbol.module ≡ Some home
  pub stands : slice_get home.items symbol.item ≡ Some found

pub is_in : (modules : List Module) (symbol : Sym) (found : Item) → item_at modules symbol ≡ Some found → IsIn modules symbol found
is_in modules symbol found is = by (slice_get modules symbol.module) refl is
  where
    by : (o : Option Module) → slice_get modules symbol.module ≡ o → option_and_then (λ m. slice_get m.items symbol.item) o ≡ Some found → IsIn modules symbol found
    by None e h = cc
    by (Some m) e h = record { home = m; there = e; stands = h }

pub short_symbol : (p : ProgramData) (symbol : Sym) (found : Item) → IsProgram p → item_at p.modules symbol ≡ Some found → IsShortSymbol symbol
short_symbol p symbol found is stands =
    let within = is_in p.modules symbol found stands in
    record {
      short_module = omega (arith, is.sound.few, slice_get-within p.modules symbol.module within.home within.there);
      short_item = omega (arith, All-at (λ m. length m.items < 2 ^ 32) p.modules symbol.module within.home is.sound.few_items within.there, slice_get-within within.home.items symbol.item found within.stands);
    }

pub sound_in : (p : ProgramData) (symbol : Sym) (func : Func) → IsProgram p → item_at p.modules symbol ≡ Some (item.Func func) → IsSoundFunction func
sound_in p symbol func is stands =
    let within = is_in p.modules symbol (item.Func func) stands in
    let sound = All-at IsSoundModule p.modules symbol.module within.home is.sound.sound within.there in
    sound_function within.home symbol.item func sound.formed sound.typed sound.definite within.stands

pub few_params : (p : ProgramData) (symbol : Sym) (func : Func) → IsProgram p → item_at p.modules symbol ≡ Some (item.Func func) → length func.params ≤ 32
few_params p symbol func is stands = (sound_in p symbol func is stands).formed.few_params

zip_long : (params : List _) (known : List Known) → AllZip IsKnownOf params known → length known ≡ length params
zip_long [] [] all = refl
zip_long [] (k ∷ ks) all = absurd all
zip_long (x ∷ xs) [] all = absurd all
zip_long (x ∷ xs) (k ∷ ks) all = ap suc (zip_long xs ks all.1)

pub few_entry_args : (p : ProgramData) → IsProgram p → length p.entry_args ≤ 32
few_entry_args p is = by (item_at p.modules p.entry) refl is.entry
  where
    by : (o : Option Item) → item_at p.modules p.entry ≡ o → IsFunctionFor p.entry_args o → length p.entry_args ≤ 32
    by None e h = absurd h
    by (Some (item.Var var)) e h = absurd h
    by (Some (item.Func func)) e h = omega (arith, zip_long func.params p.entry_args h.1, few_params p p.entry func is e)

-- where no item is, nothing is entered
pub no_entry : {A : Type 0} (entries : List (List A)) (modules : List Module) (symbol : Sym) → map length entries ≡ map (λ m. length m.items) modules → item_at modules symbol ≡ None → entry_at entries symbol ≡ None
no_entry entries modules symbol lengths none = by entries modules symbol.module lengths none
  where
    past : {A B : Type 0} (xs : List A) (ys : List B) (k : ℕ) → length xs ≡ length ys → slice_get ys k ≡ None → slice_get xs k ≡ None
    past [] ys k long e = refl
    past (x ∷ xs) [] k long e = absurd (omega (arith, long))
    past (x ∷ xs) (y ∷ ys) zero long e = cc
    past (x ∷ xs) (y ∷ ys) (suc k) long e = past xs ys k (omega (arith, long)) e

    by : {A : Type 0} (rows : List (List A)) (ms : List Module) (k : ℕ) → map length rows ≡ map (λ m. length m.items) ms → option_and_then (λ m. slice_get m.items symbol.item) (slice_get ms k) ≡ None
        → option_and_then (λ row. slice_get row symbol.item) (slice_get rows k) ≡ None
    by [] ms k e h = refl
    by (row ∷ rows) [] k e h = cc
    by (row ∷ rows) (m ∷ ms) zero e h = past row m.items symbol.item (cc) h
    by (row ∷ rows) (m ∷ ms) (suc k) e h = by rows ms k (cc) h

-- ---- lists that are copied element by element

dropped : {A : Type 0} (xs : List A) (k : ℕ) (x : A) → slice_get xs k ≡ Some x → drop k xs ≡ x ∷ drop (suc k) xs
dropped [] k x is = cc
dropped {A} (y ∷ ys) zero x is = ap (λ z. z ∷ ys) (some_is is)
  where
    some_is : {a b : A} → Some a ≡ Some b → a ≡ b
    some_is e = cc
dropped (y ∷ ys) (suc k) x is = dropped ys k x is

assoc : {A : Type 0} (xs ys zs : List A) → (xs ++ ys) ++ zs ≡ xs ++ (ys ++ zs)
assoc [] ys zs = refl
assoc (x ∷ xs) ys zs = ap (λ l. x ∷ l) (assoc xs ys zs)

append_none : {A : Type 0} (xs : List A) → xs ++ [] ≡ xs
append_none [] = refl
append_none (x ∷ xs) = ap (λ l. x ∷ l) (append_none xs)

dropped_all : {A : Type 0} (xs : List A) (k : ℕ) → length xs ≤ k → drop k xs ≡ []
dropped_all [] zero past = refl
dropped_all [] (suc k) past = refl
dropped_all (x ∷ xs) zero past = absurd (omega (arith, past))
dropped_all (x ∷ xs) (suc k) past = dropped_all xs k (omega (arith, past))

pub push_next : {A : Type 0} (xs made next : List A) (k : ℕ) (x : A) → made ++ drop k xs ≡ xs → next ≡ made ++ x ∷ [] → slice_get xs k ≡ Some x → next ++ drop (k + 1) xs ≡ xs
push_next xs made next k x so pushed is =
    ap (λ l. l ++ drop (k + 1) xs) pushed ∙ assoc made (x ∷ []) (drop (k + 1) xs) ∙ ap (λ n. made ++ x ∷ drop n xs) (add-one k) ∙ ap (λ l. made ++ l) (sym (dropped xs k x is)) ∙ so

pub push_whole : {A : Type 0} (xs made : List A) (k : ℕ) → made ++ drop k xs ≡ xs → length xs ≤ k → made ≡ xs
push_whole xs made k so past = sym (append_none made) ∙ ap (λ l. made ++ l) (sym (dropped_all xs k past)) ∙ so
