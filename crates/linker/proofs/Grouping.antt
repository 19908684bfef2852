-- Groups of symbols while symbols are added.
use Rattle.std.proofs.Common.{◌≡◌, ◌∙◌, ℕ, zero, suc, ◌+◌, ◌<◌, ◌≤◌, Bool, true, false, cond, ◌&&◌, not, List, [], ◌∷◌, ◌++◌, length, take, get_or, Option, None, Some, option_map, bytes_eq, refl, sym, ap, subst, arith, append_assoc}
use Rattle.std.specs.List.{AllZip}
use Rattle.std.proofs.lemmas.Bool.{false≢true, and_parts, not-true}
use Rattle.std.proofs.lemmas.List.{append-nil, take_all}
use Rattle.ir_types.proofs.ListSteps.{take_at}
use Rattle.ir_syntax.specs.declared.symbol.Sym.{Sym}
use Rattle.ir_syntax.specs.declared.item.Item.{Item}
use Rattle.ir_syntax.specs.declared.item.Module.{Module}
use Rattle.ir_syntax.specs.FormedBody.{item_name}
use Rattle.ir_syntax.specs.Symbols.{linkage_of, is_external}
use Rattle.name_table.specs.Places.{place_among, is_among, are_distinct}
use Rattle.name_table.proofs.NameLists.{same, same-refl, differ-sym, absent-head, absent-tail, absent-front, not_placed, placed_among, among-append, distinct-more}
use Rattle.linker.specs.declared.group.Group.{Group}
use Rattle.linker.specs.Mirrors.Groups.{is_item_of, symbols_in_row, symbols_from, symbols_of, symbols_in, with_symbol, with_member, AreGroups}
use Rattle.name_table.specs.declared.Placed.{Placed}
use Rattle.name_table.specs.declared.Placed.TheVariants.{Found, Added}
use Rattle.name_table.specs.Mirrors.Placed.{IsPlaced}
use Rattle.linker.proofs.Lists.{zip_push, length_taken}

abbrev Symbols : Type 0
Symbols = List ℕ → List Sym

abbrev Holds : Symbols → List ℕ → Group → Type 0
Holds symbols name group = symbols_in group ≡ symbols name

-- ---- the symbols of all names

pub same_groups : (symbols other : Symbols) (names : List (List ℕ)) (groups : List Group) → ((name : List ℕ) → symbols name ≡ other name) → AreGroups symbols names groups → AreGroups other names groups
same_groups symbols other names groups alike h = record {
  distinct = h.distinct;
  each = each names groups h.each;
  others = λ name absent. sym (alike name) ∙ h.others name absent;
}
  where
    each : (ns : List (List ℕ)) (gs : List Group) → AllZip (Holds symbols) ns gs → AllZip (Holds other) ns gs
    each [] [] z = z
    each [] (g ∷ gs) z = absurd z
    each (n ∷ ns) [] z = absurd z
    each (n ∷ ns) (g ∷ gs) z = (z.0 ∙ alike n, each ns gs z.1)

pub no_groups : AreGroups (λ name. []) [] []
no_groups = record { distinct = refl; each = tt; others = λ name absent. refl }

-- ---- one more symbol

unchanged : (symbols : Symbols) (name other : List ℕ) (symbol : Sym) → bytes_eq other name ≡ false → with_symbol symbols name symbol other ≡ symbols other
unchanged symbols name other symbol apart = ap (λ b. cond b (symbols other ++ symbol ∷ []) (symbols other)) apart

changed : (symbols : Symbols) (name other : List ℕ) (symbol : Sym) → bytes_eq other name ≡ true → with_symbol symbols name symbol other ≡ symbols other ++ symbol ∷ []
changed symbols name other symbol alike = ap (λ b. cond b (symbols other ++ symbol ∷ []) (symbols other)) alike

zip_absent : (symbols : Symbols) (name : List ℕ) (symbol : Sym) (names : List (List ℕ)) (groups : List Group) → is_among name names ≡ false → AllZip (Holds symbols) names groups → AllZip (Holds (with_symbol symbols name symbol)) names groups
zip_absent symbols name symbol [] [] absent h = h
zip_absent symbols name symbol [] (g ∷ gs) absent h = absurd h
zip_absent symbols name symbol (n ∷ ns) [] absent h = absurd h
zip_absent symbols name symbol (n ∷ ns) (g ∷ gs) absent h =
    (h.0 ∙ sym (unchanged symbols name n symbol (differ-sym name n (absent-head name n ns absent))), zip_absent symbols name symbol ns gs (absent-tail name n ns absent) h.1)

-- the name is new
pub added_new : (symbols : Symbols) (name : List ℕ) (symbol : Sym) (names : List (List ℕ)) (groups : List Group) → place_among name names ≡ None → AreGroups symbols names groups
    → AreGroups (with_symbol symbols name symbol) (names ++ name ∷ []) (groups ++ record { first = symbol; others = [] } ∷ [])
added_new symbols name symbol names groups none h = record {
  distinct = distinct-more names name h.distinct absent;
  each = zip_push (Holds (with_symbol symbols name symbol)) names groups name (record { first = symbol; others = [] }) (zip_absent symbols name symbol names groups absent h.each) last;
  others = λ other missing.
      let fore : is_among other names ≡ false = absent-front other names (name ∷ []) missing in
      unchanged symbols name other symbol (absent-head other name [] (sym (among-append other names (name ∷ []) fore) ∙ missing)) ∙ h.others other fore;
}
  where
    absent : is_among name names ≡ false
    absent = not_placed name names none

    last : symbol ∷ [] ≡ with_symbol symbols name symbol name
    last = sym (changed symbols name name symbol (same-refl name) ∙ ap (λ s. s ++ symbol ∷ []) (h.others name absent))

zip_found : (symbols : Symbols) (name : List ℕ) (symbol : Sym) (names : List (List ℕ)) (groups : List Group) (place : ℕ) → are_distinct names ≡ true → place_among name names ≡ Some place
    → AllZip (Holds symbols) names groups → AllZip (Holds (with_symbol symbols name symbol)) names (with_member groups place symbol)
zip_found symbols name symbol [] groups place distinct is h = cc
zip_found symbols name symbol (n ∷ ns) [] place distinct is h = absurd h
zip_found symbols name symbol (n ∷ ns) (g ∷ gs) place distinct is h = by (bytes_eq name n) refl place (place_among name ns) refl (λ at p. zip_found symbols name symbol ns gs at (and_parts (not (is_among n ns)) (are_distinct ns) distinct).1 p h.1) is
  where
    parts : (not (is_among n ns) ≡ true) × (are_distinct ns ≡ true)
    parts = and_parts (not (is_among n ns)) (are_distinct ns) distinct

    by : (b : Bool) → bytes_eq name n ≡ b → (at : ℕ) (o : Option ℕ) → place_among name ns ≡ o → ((k : ℕ) → place_among name ns ≡ Some k → AllZip (Holds (with_symbol symbols name symbol)) ns (with_member gs k symbol)) → cond b (Some 0) (option_map (λ k. suc k) o) ≡ Some at
        → AllZip (Holds (with_symbol symbols name symbol)) (n ∷ ns) (with_member (g ∷ gs) at symbol)
    by true e zero o w later i =
        let one : name ≡ n = same name n e in (
          ap (λ s. s ++ symbol ∷ []) h.0 ∙ sym (changed symbols name n symbol (ap (bytes_eq n) one ∙ same-refl n)),
          zip_absent symbols name symbol ns gs (ap (λ m. is_among m ns) one ∙ not-true (is_among n ns) parts.0) h.1,
        )
    by true e (suc at) o w later i = absurd (let wrong : 0 ≡ suc at = cc in omega arith)
    by false e at None w later i = absurd (let wrong : None ≡ Some at = i in cc)
    by false e zero (Some k) w later i = absurd (let wrong : suc k ≡ 0 = cc in omega arith)
    by false e (suc at) (Some k) w later i =
        let k_is : k ≡ at = (let up : suc k ≡ suc at = cc in omega arith) in (
          h.0 ∙ sym (unchanged symbols name n symbol (differ-sym name n e)),
          later at (w ∙ ap Some k_is),
        )

-- the name is there
pub added_found : (symbols : Symbols) (name : List ℕ) (symbol : Sym) (names : List (List ℕ)) (groups : List Group) (place : ℕ) → place_among name names ≡ Some place → AreGroups symbols names groups
    → AreGroups (with_symbol symbols name symbol) names (with_member groups place symbol)
added_found symbols name symbol names groups place is h = record {
  distinct = h.distinct;
  each = zip_found symbols name symbol names groups place h.distinct is h.each;
  others = λ other missing. unchanged symbols name other symbol (apart other missing (bytes_eq other name) refl) ∙ h.others other missing;
}
  where
    apart : (other : List ℕ) → is_among other names ≡ false → (b : Bool) → bytes_eq other name ≡ b → bytes_eq other name ≡ false
    apart other missing true e = absurd (false≢true (sym missing ∙ ap (λ n. is_among n names) (same other name e) ∙ placed_among name names place is))
    apart other missing false e = e

-- ---- one more item, and one more module

row_push : (m place : ℕ) (items : List Item) (found : Item) (name : List ℕ) → symbols_in_row m place (items ++ found ∷ []) name ≡ symbols_in_row m place items name ++ symbols_in_row m (place + length items) (found ∷ []) name
row_push m place [] found name = ap (λ p. symbols_in_row m p (found ∷ []) name) (omega arith)
row_push m place (x ∷ items) found name =
    by (is_item_of name x) (symbols_in_row m (place + 1) (items ++ found ∷ []) name) (symbols_in_row m (place + 1) items name) (symbols_in_row m (place + length (x ∷ items)) (found ∷ []) name) (row_push m (place + 1) items found name ∙ ap (λ p. symbols_in_row m (place + 1) items name ++ symbols_in_row m p (found ∷ []) name) (omega arith))
  where
    by : (b : Bool) (rest fore back : List Sym) → rest ≡ fore ++ back → cond b (record { «module» = m; item = place } ∷ rest) rest ≡ cond b (record { «module» = m; item = place } ∷ fore) fore ++ back
    by true rest fore back e = ap (λ s. record { «module» = m; item = place } ∷ s) e
    by false rest fore back e = e

-- an item that is seen by all, and a local one
external_item : (symbols : Symbols) (m i : ℕ) (found : Item) (called : List ℕ) → called ≡ item_name found → true ≡ is_external (linkage_of found) → (name : List ℕ)
    → with_symbol symbols called (record { «module» = m; item = i }) name ≡ symbols name ++ symbols_in_row m i (found ∷ []) name
external_item symbols m i found called is external name =
    ap (λ n. with_symbol symbols n (record { «module» = m; item = i }) name) is ∙ by (bytes_eq name (item_name found))
    ∙ ap (λ b. symbols name ++ cond (b && bytes_eq name (item_name found)) (record { «module» = m; item = i } ∷ []) []) external
  where
    by : (b : Bool) → cond b (symbols name ++ record { «module» = m; item = i } ∷ []) (symbols name) ≡ symbols name ++ cond b (record { «module» = m; item = i } ∷ []) []
    by true = refl
    by false = sym (append-nil (symbols name))

local_item : (symbols : Symbols) (m i : ℕ) (found : Item) → false ≡ is_external (linkage_of found) → (name : List ℕ) → symbols name ≡ symbols name ++ symbols_in_row m i (found ∷ []) name
local_item symbols m i found hidden name =
    sym (append-nil (symbols name)) ∙ ap (λ b. symbols name ++ cond (b && bytes_eq name (item_name found)) (record { «module» = m; item = i } ∷ []) []) hidden

pub with_external : (symbols : Symbols) (m i : ℕ) (found : Item) (called : List ℕ) (names : List (List ℕ)) (groups : List Group) → called ≡ item_name found → true ≡ is_external (linkage_of found)
    → AreGroups (with_symbol symbols called (record { «module» = m; item = i })) names groups → AreGroups (λ name. symbols name ++ symbols_in_row m i (found ∷ []) name) names groups
with_external symbols m i found called names groups is external h =
    same_groups (with_symbol symbols called (record { «module» = m; item = i })) (λ name. symbols name ++ symbols_in_row m i (found ∷ []) name) names groups (external_item symbols m i found called is external) h

pub with_local : (symbols : Symbols) (m i : ℕ) (found : Item) (names : List (List ℕ)) (groups : List Group) → false ≡ is_external (linkage_of found)
    → AreGroups symbols names groups → AreGroups (λ name. symbols name ++ symbols_in_row m i (found ∷ []) name) names groups
with_local symbols m i found names groups hidden h = same_groups symbols (λ name. symbols name ++ symbols_in_row m i (found ∷ []) name) names groups (local_item symbols m i found hidden) h

pub items_step : (symbols : Symbols) (m : ℕ) (items : List Item) (i : ℕ) (found : Item) (names : List (List ℕ)) (groups : List Group) → i < length items → found ≡ get_or items i found
    → AreGroups (λ name. (symbols name ++ symbols_in_row m 0 (take i items) name) ++ symbols_in_row m i (found ∷ []) name) names groups
    → AreGroups (λ name. symbols name ++ symbols_in_row m 0 (take (i + 1) items) name) names groups
items_step symbols m items i found names groups within is h =
    same_groups (λ name. (symbols name ++ symbols_in_row m 0 (take i items) name) ++ symbols_in_row m i (found ∷ []) name) (λ name. symbols name ++ symbols_in_row m 0 (take (i + 1) items) name) names groups more h
  where
    more : (name : List ℕ) → (symbols name ++ symbols_in_row m 0 (take i items) name) ++ symbols_in_row m i (found ∷ []) name ≡ symbols name ++ symbols_in_row m 0 (take (i + 1) items) name
    more name =
        let long : length (take i items) ≡ i = length_taken items i (omega arith) in
        append_assoc (symbols name) (symbols_in_row m 0 (take i items) name) (symbols_in_row m i (found ∷ []) name)
        ∙ ap (λ s. symbols name ++ s) (ap (λ p. symbols_in_row m 0 (take i items) name ++ symbols_in_row m p (found ∷ []) name) (let at : i ≡ 0 + length (take i items) = omega arith in at)
        ∙ sym (row_push m 0 (take i items) found name) ∙ ap (λ its. symbols_in_row m 0 its name) (sym (take_at items i found within is)))

pub items_whole : (symbols : Symbols) (m : ℕ) (items : List Item) (i : ℕ) (names : List (List ℕ)) (groups : List Group) → length items ≤ i
    → AreGroups (λ name. symbols name ++ symbols_in_row m 0 (take i items) name) names groups → AreGroups (λ name. symbols name ++ symbols_in_row m 0 items name) names groups
items_whole symbols m items i names groups past h =
    same_groups (λ name. symbols name ++ symbols_in_row m 0 (take i items) name) (λ name. symbols name ++ symbols_in_row m 0 items name) names groups (λ name. ap (λ its. symbols name ++ symbols_in_row m 0 its name) (take_all i items past)) h

pub items_start : (symbols : Symbols) (m : ℕ) (items : List Item) (names : List (List ℕ)) (groups : List Group) → AreGroups symbols names groups → AreGroups (λ name. symbols name ++ symbols_in_row m 0 (take 0 items) name) names groups
items_start symbols m items names groups h = same_groups symbols (λ name. symbols name ++ symbols_in_row m 0 (take 0 items) name) names groups (none items) h
  where
    none : (its : List Item) (name : List ℕ) → symbols name ≡ symbols name ++ symbols_in_row m 0 (take 0 its) name
    none [] name = sym (append-nil (symbols name))
    none (x ∷ xs) name = sym (append-nil (symbols name))

pub from_push : (m : ℕ) (modules : List Module) (one : Module) (name : List ℕ) → symbols_from m modules name ++ symbols_in_row (m + length modules) 0 one.items name ≡ symbols_from m (modules ++ one ∷ []) name
from_push m [] one name = ap (λ p. symbols_in_row p 0 one.items name) (let at : m + 0 ≡ m = omega arith in at) ∙ sym (append-nil (symbols_in_row m 0 one.items name))
from_push m (x ∷ modules) one name =
    append_assoc (symbols_in_row m 0 x.items name) (symbols_from (m + 1) modules name) (symbols_in_row (m + length (x ∷ modules)) 0 one.items name)
    ∙ ap (λ s. symbols_in_row m 0 x.items name ++ s) (ap (λ p. symbols_from (m + 1) modules name ++ symbols_in_row p 0 one.items name) (let at : m + length (x ∷ modules) ≡ (m + 1) + length modules = omega arith in at) ∙ from_push (m + 1) modules one name)

pub modules_step : (modules : List Module) (i : ℕ) (one : Module) (items : List Item) (names : List (List ℕ)) (groups : List Group) → i < length modules → one ≡ get_or modules i one → items ≡ one.items
    → AreGroups (λ name. symbols_from 0 (take i modules) name ++ symbols_in_row i 0 items name) names groups → AreGroups (λ name. symbols_from 0 (take (i + 1) modules) name) names groups
modules_step modules i one items names groups within is items_are h =
    same_groups (λ name. symbols_from 0 (take i modules) name ++ symbols_in_row i 0 items name) (λ name. symbols_from 0 (take (i + 1) modules) name) names groups more h
  where
    more : (name : List ℕ) → symbols_from 0 (take i modules) name ++ symbols_in_row i 0 items name ≡ symbols_from 0 (take (i + 1) modules) name
    more name =
        let long : length (take i modules) ≡ i = length_taken modules i (omega arith) in
        ap (λ its. symbols_from 0 (take i modules) name ++ symbols_in_row i 0 its name) items_are
        ∙ ap (λ p. symbols_from 0 (take i modules) name ++ symbols_in_row p 0 one.items name) (let at : i ≡ 0 + length (take i modules) = omega arith in at)
        ∙ from_push 0 (take i modules) one name
        ∙ ap (λ ms. symbols_from 0 ms name) (sym (take_at modules i one within is))

pub modules_whole : (modules : List Module) (i : ℕ) (names : List (List ℕ)) (groups : List Group) → length modules ≤ i → AreGroups (λ name. symbols_from 0 (take i modules) name) names groups → AreGroups (λ name. symbols_of modules name) names groups
modules_whole modules i names groups past h = same_groups (λ name. symbols_from 0 (take i modules) name) (λ name. symbols_of modules name) names groups (λ name. ap (λ ms. symbols_from 0 ms name) (take_all i modules past)) h

-- ---- by the answer of the table of names

pub placed_found : (symbols : Symbols) (name : List ℕ) (symbol : Sym) (old new : List (List ℕ)) (groups next : List Group) (placed : Placed) (place : ℕ) → placed ≡ Found place → IsPlaced name old new placed → next ≡ with_member groups place symbol
    → AreGroups symbols old groups → AreGroups (with_symbol symbols name symbol) new next
placed_found symbols name symbol old new groups next placed place is at made h =
    let there : (place_among name old ≡ Some place) × (new ≡ old) = subst (IsPlaced name old new) is at in
    subst (λ gs. AreGroups (with_symbol symbols name symbol) new gs) (sym made)
    (subst (λ ns. AreGroups (with_symbol symbols name symbol) ns (with_member groups place symbol)) (sym there.1) (added_found symbols name symbol old groups place there.0 h))

pub placed_added : (symbols : Symbols) (name : List ℕ) (symbol : Sym) (old new : List (List ℕ)) (groups next : List Group) (others : List Sym) (placed : Placed) (place : ℕ) → placed ≡ Added place → IsPlaced name old new placed → others ≡ []
    → next ≡ groups ++ record { first = symbol; others = others } ∷ [] → AreGroups symbols old groups → AreGroups (with_symbol symbols name symbol) new next
placed_added symbols name symbol old new groups next others placed place is at none made h =
    let there : (place_among name old ≡ None) × (place ≡ length old) × (new ≡ old ++ name ∷ []) = subst (IsPlaced name old new) is at in
    subst (λ gs. AreGroups (with_symbol symbols name symbol) new gs) (sym (made ∙ ap (λ o. groups ++ record { first = symbol; others = o } ∷ []) none))
    (subst (λ ns. AreGroups (with_symbol symbols name symbol) ns (groups ++ record { first = symbol; others = [] } ∷ [])) (sym there.2) (added_new symbols name symbol old groups there.0 h))
