-- What stands for each item of each module.
use Rattle.std.proofs.Common.{◌≡◌, ◌∙◌, ℕ, zero, suc, ◌+◌, ◌<◌, ◌≤◌, List, [], ◌∷◌, ◌++◌, length, take, get_or, map, Some, option_and_then, cond, refl, sym, ap, subst, arith}
use Rattle.std.specs.List.{slice_get}
use Rattle.std.proofs.lemmas.List.{take_all}
use Rattle.ir_types.proofs.ListSteps.{take_at}
use Rattle.ir_syntax.specs.declared.symbol.Sym.{Sym}
use Rattle.ir_syntax.specs.declared.symbol.Target.{Target}
use Rattle.ir_syntax.specs.declared.symbol.Target.TheVariants as target
use Rattle.ir_syntax.specs.declared.item.Linkage.{Linkage}
use Rattle.ir_syntax.specs.declared.item.Linkage.TheVariants.{External, Internal, Private}
use Rattle.ir_syntax.specs.declared.item.Item.{Item}
use Rattle.ir_syntax.specs.declared.item.Module.{Module}
use Rattle.ir_syntax.specs.FormedBody.{item_name}
use Rattle.ir_syntax.specs.Symbols.{item_at, linkage_of, is_external}
use Rattle.ir_syntax.specs.Targets.{IsTarget, IsTargetBy, IsCanonical, IsCanonicalBy, entry_at, AreEntries}
use Rattle.linker.specs.declared.slot.Slot.{Slot}
use Rattle.linker.specs.Mirrors.Slots.{slot_of, IsTable}
use Rattle.linker.specs.Mirrors.Rows.{row_of, rows_from, target_or_nothing, canonical_or_own, target_in, canonical_in}
use Rattle.linker.proofs.Lists.{length_taken}
use Rattle.linker.proofs.Members.{there_is}
use Rattle.linker.proofs.Tables.{slot_there}

-- ---- rows

pub row_push : {A : Type 0} (entry : Sym → Item → A) (m place : ℕ) (items : List Item) (found : Item) → row_of entry m place (items ++ found ∷ []) ≡ row_of entry m place items ++ entry (record { «module» = m; item = place + length items }) found ∷ []
row_push entry m place [] found = ap (λ p. entry (record { «module» = m; item = p }) found ∷ []) (let at : place ≡ place + 0 = omega arith in at)
row_push entry m place (x ∷ items) found =
    ap (λ xs. entry (record { «module» = m; item = place }) x ∷ xs)
    (row_push entry m (place + 1) items found ∙ ap (λ p. row_of entry m (place + 1) items ++ entry (record { «module» = m; item = p }) found ∷ []) (let at : (place + 1) + length items ≡ place + length (x ∷ items) = omega arith in at))

pub rows_push : {A : Type 0} (entry : Sym → Item → A) (m : ℕ) (modules : List Module) (one : Module) → rows_from entry m (modules ++ one ∷ []) ≡ rows_from entry m modules ++ row_of entry (m + length modules) 0 one.items ∷ []
rows_push entry m [] one = ap (λ p. row_of entry p 0 one.items ∷ []) (let at : m ≡ m + 0 = omega arith in at)
rows_push entry m (x ∷ modules) one =
    ap (λ xs. row_of entry m 0 x.items ∷ xs)
    (rows_push entry (m + 1) modules one ∙ ap (λ p. rows_from entry (m + 1) modules ++ row_of entry p 0 one.items ∷ []) (let at : (m + 1) + length modules ≡ m + length (x ∷ modules) = omega arith in at))

row_long : {A : Type 0} (entry : Sym → Item → A) (m place : ℕ) (items : List Item) → length (row_of entry m place items) ≡ length items
row_long entry m place [] = refl
row_long entry m place (x ∷ items) = ap suc (row_long entry m (place + 1) items)

rows_long : {A : Type 0} (entry : Sym → Item → A) (m : ℕ) (modules : List Module) → map length (rows_from entry m modules) ≡ map (λ one. length one.items) modules
rows_long entry m [] = refl
rows_long entry m (x ∷ modules) = ap (λ n. n ∷ map length (rows_from entry (m + 1) modules)) (row_long entry m 0 x.items) ∙ ap (λ ns. length x.items ∷ ns) (rows_long entry (m + 1) modules)

row_get : {A : Type 0} (entry : Sym → Item → A) (m place : ℕ) (items : List Item) (k : ℕ) (found : Item) → slice_get items k ≡ Some found → slice_get (row_of entry m place items) k ≡ Some (entry (record { «module» = m; item = place + k }) found)
row_get entry m place [] k found is = absurd (cc)
row_get entry m place (x ∷ items) zero found is =
    let one : x ≡ found = cc in
    ap (λ y. Some (entry (record { «module» = m; item = place }) y)) one ∙ ap (λ p. Some (entry (record { «module» = m; item = p }) found)) (let at : place ≡ place + 0 = omega arith in at)
row_get entry m place (x ∷ items) (suc k) found is = row_get entry m (place + 1) items k found is ∙ ap (λ p. Some (entry (record { «module» = m; item = p }) found)) (let at : (place + 1) + k ≡ place + suc k = omega arith in at)

rows_get : {A : Type 0} (entry : Sym → Item → A) (m : ℕ) (modules : List Module) (k : ℕ) (one : Module) → slice_get modules k ≡ Some one → slice_get (rows_from entry m modules) k ≡ Some (row_of entry (m + k) 0 one.items)
rows_get entry m [] k one is = absurd (cc)
rows_get entry m (x ∷ modules) zero one is =
    let same_one : x ≡ one = cc in
    ap (λ y. Some (row_of entry m 0 y.items)) same_one ∙ ap (λ p. Some (row_of entry p 0 one.items)) (let at : m ≡ m + 0 = omega arith in at)
rows_get entry m (x ∷ modules) (suc k) one is = rows_get entry (m + 1) modules k one is ∙ ap (λ p. Some (row_of entry p 0 one.items)) (let at : (m + 1) + k ≡ m + suc k = omega arith in at)

entry_is : {A : Type 0} (entry : Sym → Item → A) (modules : List Module) (symbol : Sym) (found : Item) → item_at modules symbol ≡ Some found → entry_at (rows_from entry 0 modules) symbol ≡ Some (entry symbol found)
entry_is entry modules symbol found is =
    let there = there_is modules symbol found is in
    ap (option_and_then (λ row. slice_get row symbol.item)) (rows_get entry 0 modules symbol.module there.0 there.1)
    ∙ row_get entry (0 + symbol.module) 0 there.0.items symbol.item found there.2
    ∙ ap (λ p. Some (entry (record { «module» = p; item = 0 + symbol.item }) found)) (let a : 0 + symbol.module ≡ symbol.module = omega arith in a)
    ∙ ap (λ p. Some (entry (record { «module» = symbol.module; item = p }) found)) (let b : 0 + symbol.item ≡ symbol.item = omega arith in b)

entries_are : (A : Type 0) (entry : Sym → Item → A) (modules : List Module) (Is : Sym → Item → A → Type 0) → ((symbol : Sym) (found : Item) → item_at modules symbol ≡ Some found → Is symbol found (entry symbol found)) → AreEntries A modules Is (rows_from entry 0 modules)
entries_are A entry modules Is h = record {
  lengths = rows_long entry 0 modules;
  each = λ symbol found is. record { entry = entry symbol found; stands = entry_is entry modules symbol found is; is = h symbol found is };
}

-- ---- targets and canonical symbols

pub targets_are : (modules : List Module) (outside names : List (List ℕ)) (slots : List Slot) → IsTable modules outside names slots → AreEntries Target modules (IsTarget modules outside) (rows_from (target_in names slots) 0 modules)
targets_are modules outside names slots table = entries_are Target (target_in names slots) modules (IsTarget modules outside) (λ symbol found is. by symbol found is (linkage_of found) refl)
  where
    by : (symbol : Sym) (found : Item) → item_at modules symbol ≡ Some found → (linkage : Linkage) → linkage_of found ≡ linkage
        → IsTargetBy modules outside symbol (item_name found) linkage (cond (is_external linkage) (target_or_nothing (slot_of names slots (item_name found))) (target.Def symbol))
    by symbol found is External e =
        let has = slot_there modules outside names slots (item_name found) symbol found table (record { stands = is; external = e; named = refl }) in
        subst (λ o. IsTargetBy modules outside symbol (item_name found) External (target_or_nothing o)) (sym has.is) has.says.target
    by symbol found is Internal e = refl
    by symbol found is Private e = refl

pub canonical_are : (modules : List Module) (outside names : List (List ℕ)) (slots : List Slot) → IsTable modules outside names slots → AreEntries Sym modules (IsCanonical modules) (rows_from (canonical_in names slots) 0 modules)
canonical_are modules outside names slots table = entries_are Sym (canonical_in names slots) modules (IsCanonical modules) (λ symbol found is. by symbol found is (linkage_of found) refl)
  where
    by : (symbol : Sym) (found : Item) → item_at modules symbol ≡ Some found → (linkage : Linkage) → linkage_of found ≡ linkage
        → IsCanonicalBy modules symbol (item_name found) linkage (cond (is_external linkage) (canonical_or_own symbol (slot_of names slots (item_name found))) symbol)
    by symbol found is External e =
        let has = slot_there modules outside names slots (item_name found) symbol found table (record { stands = is; external = e; named = refl }) in
        subst (λ o. IsCanonicalBy modules symbol (item_name found) External (canonical_or_own symbol o)) (sym has.is) has.says.canonical
    by symbol found is Internal e = refl
    by symbol found is Private e = refl

-- ---- one more item, and one more module

pub row_step : {A : Type 0} (entry : Sym → Item → A) (m : ℕ) (items : List Item) (i : ℕ) (found : Item) (row next : List A) (made : A) → i < length items → found ≡ get_or items i found
    → row ≡ row_of entry m 0 (take i items) → made ≡ entry (record { «module» = m; item = i }) found → next ≡ row ++ made ∷ [] → next ≡ row_of entry m 0 (take (i + 1) items)
row_step entry m items i found row next made within is h made_is next_is =
    next_is ∙ ap (λ r. r ++ made ∷ []) h ∙ ap (λ a. row_of entry m 0 (take i items) ++ a ∷ []) (made_is ∙ ap (λ p. entry (record { «module» = m; item = p }) found) (let long : length (take i items) ≡ i = length_taken items i (omega arith) in let at : i ≡ 0 + length (take i items) = omega arith in at))
    ∙ sym (row_push entry m 0 (take i items) found) ∙ ap (row_of entry m 0) (sym (take_at items i found within is))

pub rows_step : {A : Type 0} (entry : Sym → Item → A) (modules : List Module) (i : ℕ) (one : Module) (rows next : List (List A)) (made : List A) → i < length modules → one ≡ get_or modules i one
    → rows ≡ rows_from entry 0 (take i modules) → made ≡ row_of entry i 0 one.items → next ≡ rows ++ made ∷ [] → next ≡ rows_from entry 0 (take (i + 1) modules)
rows_step entry modules i one rows next made within is h made_is next_is =
    next_is ∙ ap (λ r. r ++ made ∷ []) h ∙ ap (λ a. rows_from entry 0 (take i modules) ++ a ∷ []) (made_is ∙ ap (λ p. row_of entry p 0 one.items) (let long : length (take i modules) ≡ i = length_taken modules i (omega arith) in let at : i ≡ 0 + length (take i modules) = omega arith in at))
    ∙ sym (rows_push entry 0 (take i modules) one) ∙ ap (rows_from entry 0) (sym (take_at modules i one within is))

pub row_whole : {A : Type 0} (entry : Sym → Item → A) (m : ℕ) (items : List Item) (i : ℕ) (row : List A) → length items ≤ i → row ≡ row_of entry m 0 (take i items) → row ≡ row_of entry m 0 items
row_whole entry m items i row past h = h ∙ ap (row_of entry m 0) (take_all i items past)

pub rows_whole : {A : Type 0} (entry : Sym → Item → A) (modules : List Module) (i : ℕ) (rows : List (List A)) → length modules ≤ i → rows ≡ rows_from entry 0 (take i modules) → rows ≡ rows_from entry 0 modules
rows_whole entry modules i rows past h = h ∙ ap (rows_from entry 0) (take_all i modules past)
