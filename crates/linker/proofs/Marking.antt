-- An item is marked where a body or an initialiser of its module names it.
use Rattle.std.proofs.Common.{◌≡◌, ◌∙◌, ◌⊎◌, inl, inr, ℕ, zero, suc, ◌<◌, Bool, true, false, List, [], ◌∷◌, ◌++◌, length, replicate, Some, refl, sym, ap, subst, arith}
use Rattle.std.specs.List.{Contains, slice_get, slice_set, flat_map}
use Rattle.std.proofs.lemmas.Bool.{false≢true}
use Rattle.std.proofs.lemmas.List.{length-set}
use Rattle.ir_types.proofs.ListSteps.{slice_get-within}
use Rattle.ir_syntax.specs.declared.symbol.Sym.{Sym}
use Rattle.ir_syntax.specs.declared.item.Item.{Item}
use Rattle.ir_syntax.specs.declared.item.Module.{Module}
use Rattle.ir_syntax.specs.Named.{item_names}
use Rattle.ir_syntax.specs.Symbols.{IsItemOf}
use Rattle.ir_syntax.specs.Refusals.{IsNamed}
use Rattle.linker.specs.Mirrors.Marks.{marked_all, marks_in, marks_of, mark_or_none, mark_in, mark_at}
use Rattle.linker.specs.Mirrors.Groups.{symbols_of}
use Rattle.linker.proofs.Lists.{contains_none, contains_cases, contains_get, get_contains, flat_to, flat_from}
use Rattle.linker.proofs.Members.{item_there, there_is, members_to, members_from}

-- ---- places that are marked

abbrev at : List Bool → ℕ → Bool
at row k = mark_or_none (slice_get row k)

set_at : (row : List Bool) (place k : ℕ) → at (slice_set row place true) k ≡ true → (at row k ≡ true) ⊎ (place ≡ k)
set_at [] place k h = inl h
set_at (b ∷ row) zero zero h = inr refl
set_at (b ∷ row) zero (suc k) h = inl h
set_at (b ∷ row) (suc place) zero h = inl h
set_at (b ∷ row) (suc place) (suc k) h = elim (set_at row place k h) [ inl e ↦ inl e | inr e ↦ inr (ap suc e) ]

set_keeps : (row : List Bool) (place k : ℕ) → at row k ≡ true → at (slice_set row place true) k ≡ true
set_keeps [] place k h = h
set_keeps (b ∷ row) zero zero h = refl
set_keeps (b ∷ row) zero (suc k) h = h
set_keeps (b ∷ row) (suc place) zero h = h
set_keeps (b ∷ row) (suc place) (suc k) h = set_keeps row place k h

set_here : (row : List Bool) (place : ℕ) → place < length row → at (slice_set row place true) place ≡ true
set_here [] place less = absurd (omega arith)
set_here (b ∷ row) zero less = refl
set_here (b ∷ row) (suc place) less = set_here row place (omega arith)

marked_to : (row : List Bool) (places : List ℕ) (k : ℕ) → at (marked_all row places) k ≡ true → (at row k ≡ true) ⊎ Contains places k
marked_to row [] k h = inl h
marked_to row (place ∷ places) k h = elim (marked_to (slice_set row place true) places k h) [
  | inl before ↦ elim (set_at row place k before) [
    | inl e ↦ inl e
    | inr e ↦ inr (get_contains (place ∷ places) 0 k (ap Some e))
  ]
  | inr rest ↦ let found = contains_get places k rest in inr (get_contains (place ∷ places) (suc found.0) k found.1)
]

marked_keeps : (row : List Bool) (places : List ℕ) (k : ℕ) → at row k ≡ true → at (marked_all row places) k ≡ true
marked_keeps row [] k h = h
marked_keeps row (place ∷ places) k h = marked_keeps (slice_set row place true) places k (set_keeps row place k h)

marked_from : (row : List Bool) (places : List ℕ) (k : ℕ) → k < length row → Contains places k → at (marked_all row places) k ≡ true
marked_from row [] k less h = absurd (contains_none k h)
marked_from row (place ∷ places) k less h = elim (contains_cases place places k h) [
  | inl here ↦ marked_keeps (slice_set row place true) places k (subst (λ p. at (slice_set row p true) k ≡ true) (sym here) (set_here row k less))
  | inr rest ↦ marked_from (slice_set row place true) places k (let long : length (slice_set row place true) ≡ length row = length-set row place true in omega (arith, long, less)) rest
]

-- where more places are marked
pub marked_more : (row : List Bool) (places more : List ℕ) → marked_all row (places ++ more) ≡ marked_all (marked_all row places) more
marked_more row [] more = refl
marked_more row (place ∷ places) more = marked_more (slice_set row place true) places more

none_at : (n k : ℕ) → at (replicate n false) k ≡ true → ⊥
none_at zero k h = absurd (false≢true h)
none_at (suc n) zero h = absurd (false≢true h)
none_at (suc n) (suc k) h = none_at n k h

none_long : (n : ℕ) → length (replicate n false) ≡ n
none_long zero = refl
none_long (suc n) = ap suc (none_long n)

-- ---- the rows of modules

row_at : (m : ℕ) (modules : List Module) (one : Module) → slice_get modules m ≡ Some one → slice_get (marks_of modules) m ≡ Some (marks_in one.items)
row_at m [] one is = absurd (cc)
row_at zero (x ∷ modules) one is = let same_one : x ≡ one = cc in ap (λ y. Some (marks_in y.items)) same_one
row_at (suc m) (x ∷ modules) one is = row_at m modules one is

mark_is : (modules : List Module) (symbol : Sym) (one : Module) → slice_get modules symbol.module ≡ Some one → mark_at (marks_of modules) symbol ≡ at (marks_in one.items) symbol.item
mark_is modules symbol one is = ap (λ row. mark_in row symbol.item) (row_at symbol.module modules one is)

-- ---- the laws

pub named_to : (modules : List Module) (name : List ℕ) (symbol : Sym) → Contains (symbols_of modules name) symbol → mark_at (marks_of modules) symbol ≡ true → IsNamed modules name
named_to modules name symbol h marked =
    let of = members_to modules name symbol h in
    let there = there_is modules symbol of.0 of.1.stands in
    let places = flat_map item_names there.0.items in
    by of.0 of.1 there.0 there.1 (marked_to (replicate (length there.0.items) false) places symbol.item (sym (mark_is modules symbol there.0 there.1) ∙ marked))
  where
    by : (found : Item) → IsItemOf modules name symbol found → (one : Module) → slice_get modules symbol.module ≡ Some one
        → (at (replicate (length one.items) false) symbol.item ≡ true) ⊎ Contains (flat_map item_names one.items) symbol.item → IsNamed modules name
    by found is one is_one (inl none) = absurd (none_at (length one.items) symbol.item none)
    by found is one is_one (inr named) =
        let user = flat_to item_names one.items symbol.item named in
        let stands = contains_get one.items user.0 user.1 in
        record {
          by = record { «module» = symbol.module; item = stands.0 };
          user = user.0;
          stands = item_there modules symbol.module stands.0 one user.0 is_one stands.1;
          place = symbol.item;
          names = user.2;
          found = found;
          is_of = is;
        }

pub named_from : (modules : List Module) (name : List ℕ) → IsNamed modules name → (symbol : Sym) × Contains (symbols_of modules name) symbol × (mark_at (marks_of modules) symbol ≡ true)
named_from modules name named =
    let symbol : Sym = record { «module» = named.by.module; item = named.place } in
    let user = there_is modules named.by named.user named.stands in
    let there = there_is modules symbol named.found named.is_of.stands in
    let same_one : there.0 ≡ user.0 = (let e : Some there.0 ≡ Some user.0 = sym there.1 ∙ user.1 in cc) in
    let within : named.place < length user.0.items = subst (λ y. named.place < length y.items) same_one (slice_get-within there.0.items named.place named.found there.2) in
    let long : length (replicate (length user.0.items) false) ≡ length user.0.items = none_long (length user.0.items) in
    let listed = flat_from item_names user.0.items named.user named.place (get_contains user.0.items named.by.item named.user user.2) named.names in (
      symbol,
      members_from modules name symbol named.found named.is_of,
      mark_is modules symbol user.0 user.1 ∙ marked_from (replicate (length user.0.items) false) (flat_map item_names user.0.items) named.place (omega (arith, long, within)) listed,
    )
