-- The symbols of an external name are those of its items, in order.
use Rattle.std.proofs.Common.{◌≡◌, ◌∙◌, ◌⊎◌, inl, inr, ℕ, zero, suc, ◌+◌, ◌<◌, ◌≤◌, Bool, true, false, cond, List, [], ◌∷◌, ◌++◌, Option, None, Some, option_and_then, bytes_eq, refl, sym, ap, subst, arith}
use Rattle.std.specs.List.{Contains, slice_get}
use Rattle.std.proofs.lemmas.Bool.{false≢true, and_parts, and_from}
use Rattle.std.proofs.lemmas.List.Elements.{Contains-append_left, Contains-append_right, Contains-append_cases}
use Rattle.ir_syntax.specs.declared.symbol.Sym.{Sym}
use Rattle.ir_syntax.specs.declared.item.Linkage.{Linkage}
use Rattle.ir_syntax.specs.declared.item.Linkage.TheVariants.{External, Internal, Private}
use Rattle.ir_syntax.specs.declared.item.Item.{Item}
use Rattle.ir_syntax.specs.declared.item.Module.{Module}
use Rattle.ir_syntax.specs.FormedBody.{item_name}
use Rattle.ir_syntax.specs.Symbols.{item_at, linkage_of, is_external, IsItemOf, IsBefore}
use Rattle.name_table.proofs.NameLists.{same, same-refl}
use Rattle.linker.specs.Mirrors.Groups.{is_item_of, symbols_in_row, symbols_from, symbols_of}
use Rattle.linker.proofs.Lists.{contains_here, contains_later, contains_none, contains_cases}

-- ---- one item

external_is : (linkage : Linkage) → is_external linkage ≡ true → linkage ≡ External
external_is External e = refl
external_is Internal e = absurd (false≢true e)
external_is Private e = absurd (false≢true e)

is_item : (name : List ℕ) (found : Item) → is_item_of name found ≡ true → (linkage_of found ≡ External) × (item_name found ≡ name)
is_item name found e = let parts = and_parts (is_external (linkage_of found)) (bytes_eq name (item_name found)) e in (external_is (linkage_of found) parts.0, sym (same name (item_name found) parts.1))

item_is : (name : List ℕ) (found : Item) → linkage_of found ≡ External → item_name found ≡ name → is_item_of name found ≡ true
item_is name found e n = and_from (is_external (linkage_of found)) (bytes_eq name (item_name found)) (ap is_external e) (ap (bytes_eq name) n ∙ same-refl name)

-- ---- those of one module

pub record IsInRow (m place : ℕ) (items : List Item) (name : List ℕ) (symbol : Sym) : Type 0 where
  pub k : ℕ
  pub found : Item
  pub is : symbol ≡ record { «module» = m; item = place + k }
  pub stands : slice_get items k ≡ Some found
  pub matches : is_item_of name found ≡ true

row_to : (m place : ℕ) (items : List Item) (name : List ℕ) (symbol : Sym) → Contains (symbols_in_row m place items name) symbol → IsInRow m place items name symbol
row_to m place [] name symbol h = absurd (contains_none symbol h)
row_to m place (x ∷ items) name symbol h = by (is_item_of name x) refl (row_to m (place + 1) items name symbol) h
  where
    next : IsInRow m (place + 1) items name symbol → IsInRow m place (x ∷ items) name symbol
    next r = record { k = suc r.k; found = r.found; is = r.is ∙ ap (λ p. record { «module» = m; item = p }) (let at : (place + 1) + r.k ≡ place + suc r.k = omega arith in at); stands = r.stands; matches = r.matches }

    by : (b : Bool) → is_item_of name x ≡ b → (Contains (symbols_in_row m (place + 1) items name) symbol → IsInRow m (place + 1) items name symbol) → Contains (cond b (record { «module» = m; item = place } ∷ symbols_in_row m (place + 1) items name) (symbols_in_row m (place + 1) items name)) symbol → IsInRow m place (x ∷ items) name symbol
    by true e later c = elim (contains_cases (record { «module» = m; item = place }) (symbols_in_row m (place + 1) items name) symbol c) [
      | inl here ↦ record { k = 0; found = x; is = sym here ∙ ap (λ p. record { «module» = m; item = p }) (let at : place ≡ place + 0 = omega arith in at); stands = refl; matches = e }
      | inr rest ↦ next (later rest)
    ]
    by false e later c = next (later c)

row_from : (m place : ℕ) (items : List Item) (name : List ℕ) (k : ℕ) (found : Item) → slice_get items k ≡ Some found → is_item_of name found ≡ true → Contains (symbols_in_row m place items name) (record { «module» = m; item = place + k })
row_from m place [] name k found is e = absurd (cc)
row_from m place (x ∷ items) name zero found is e =
    let one : x ≡ found = cc in
    subst (λ b. Contains (cond b (record { «module» = m; item = place } ∷ symbols_in_row m (place + 1) items name) (symbols_in_row m (place + 1) items name)) (record { «module» = m; item = place + 0 }))
    (sym (ap (is_item_of name) one ∙ e))
    (subst (λ p. Contains (record { «module» = m; item = place } ∷ symbols_in_row m (place + 1) items name) (record { «module» = m; item = p })) (let at : place ≡ place + 0 = omega arith in at) (contains_here (record { «module» = m; item = place }) (symbols_in_row m (place + 1) items name)))
row_from m place (x ∷ items) name (suc k) found is e =
    let rest : Contains (symbols_in_row m (place + 1) items name) (record { «module» = m; item = place + suc k })
    = subst (λ p. Contains (symbols_in_row m (place + 1) items name) (record { «module» = m; item = p })) (let at : (place + 1) + k ≡ place + suc k = omega arith in at) (row_from m (place + 1) items name k found is e) in
    by (is_item_of name x) (record { «module» = m; item = place + suc k }) (symbols_in_row m (place + 1) items name) rest
  where
    by : (b : Bool) (symbol : Sym) (symbols : List Sym) → Contains symbols symbol → Contains (cond b (record { «module» = m; item = place } ∷ symbols) symbols) symbol
    by true symbol symbols c = contains_later (record { «module» = m; item = place }) symbols symbol c
    by false symbol symbols c = c

-- ---- those of all modules

pub record IsAmong (m : ℕ) (modules : List Module) (name : List ℕ) (symbol : Sym) : Type 0 where
  pub k : ℕ
  pub one : Module
  pub stands : slice_get modules k ≡ Some one
  pub row : IsInRow (m + k) 0 one.items name symbol

from_to : (m : ℕ) (modules : List Module) (name : List ℕ) (symbol : Sym) → Contains (symbols_from m modules name) symbol → IsAmong m modules name symbol
from_to m [] name symbol h = absurd (contains_none symbol h)
from_to m (x ∷ modules) name symbol h = elim (Contains-append_cases (symbols_in_row m 0 x.items name) (symbols_from (m + 1) modules name) symbol h) [
  | inl here ↦ record { k = 0; one = x; stands = refl; row = subst (λ p. IsInRow p 0 x.items name symbol) (let at : m ≡ m + 0 = omega arith in at) (row_to m 0 x.items name symbol here) }
  | inr rest ↦
      let r = from_to (m + 1) modules name symbol rest in
      record { k = suc r.k; one = r.one; stands = r.stands; row = subst (λ p. IsInRow p 0 r.one.items name symbol) (let at : (m + 1) + r.k ≡ m + suc r.k = omega arith in at) r.row }
]

from_from : (m : ℕ) (modules : List Module) (name : List ℕ) (k : ℕ) (one : Module) (symbol : Sym) → slice_get modules k ≡ Some one → Contains (symbols_in_row (m + k) 0 one.items name) symbol → Contains (symbols_from m modules name) symbol
from_from m [] name k one symbol is h = absurd (cc)
from_from m (x ∷ modules) name zero one symbol is h =
    let same_one : one ≡ x = cc in
    Contains-append_left (symbols_in_row m 0 x.items name) (symbols_from (m + 1) modules name) symbol
    (subst (λ y. Contains (symbols_in_row m 0 y.items name) symbol) same_one (subst (λ p. Contains (symbols_in_row p 0 one.items name) symbol) (let at : m + 0 ≡ m = omega arith in at) h))
from_from m (x ∷ modules) name (suc k) one symbol is h =
    Contains-append_right (symbols_in_row m 0 x.items name) (symbols_from (m + 1) modules name) symbol
    (from_from (m + 1) modules name k one symbol is (subst (λ p. Contains (symbols_in_row p 0 one.items name) symbol) (let at : m + suc k ≡ (m + 1) + k = omega arith in at) h))

-- ---- the laws

-- the item that a symbol names, by module and place
pub item_there : (modules : List Module) (m i : ℕ) (one : Module) (found : Item) → slice_get modules m ≡ Some one → slice_get one.items i ≡ Some found → item_at modules (record { «module» = m; item = i }) ≡ Some found
item_there modules m i one found a b = ap (option_and_then (λ y. slice_get y.items i)) a ∙ b

pub there_is : (modules : List Module) (symbol : Sym) (found : Item) → item_at modules symbol ≡ Some found → (one : Module) × (slice_get modules symbol.module ≡ Some one) × (slice_get one.items symbol.item ≡ Some found)
there_is modules symbol found is = by (slice_get modules symbol.module) refl is
  where
    by : (o : Option Module) → slice_get modules symbol.module ≡ o → option_and_then (λ y. slice_get y.items symbol.item) o ≡ Some found → (one : Module) × (slice_get modules symbol.module ≡ Some one) × (slice_get one.items symbol.item ≡ Some found)
    by None e i = absurd (cc)
    by (Some one) e i = (one, e, i)

pub members_to : (modules : List Module) (name : List ℕ) (symbol : Sym) → Contains (symbols_of modules name) symbol → (found : Item) × IsItemOf modules name symbol found
members_to modules name symbol h =
    let r = from_to 0 modules name symbol h in
    let named = is_item name r.row.found r.row.matches in
    let at : record { «module» = 0 + r.k; item = 0 + r.row.k } ≡ (let s : Sym = record { «module» = r.k; item = r.row.k } in s)
    = ap (λ p. record { «module» = p; item = 0 + r.row.k }) (let a : 0 + r.k ≡ r.k = omega arith in a) ∙ ap (λ p. record { «module» = r.k; item = p }) (let b : 0 + r.row.k ≡ r.row.k = omega arith in b) in (
      r.row.found,
      record {
        stands = ap (item_at modules) (r.row.is ∙ at) ∙ item_there modules r.k r.row.k r.one r.row.found r.stands r.row.stands;
        external = named.0;
        named = named.1;
      },
    )

pub members_from : (modules : List Module) (name : List ℕ) (symbol : Sym) (found : Item) → IsItemOf modules name symbol found → Contains (symbols_of modules name) symbol
members_from modules name symbol found is =
    let there = there_is modules symbol found is.stands in
    from_from 0 modules name symbol.module there.0 symbol there.1
    (subst (λ p. Contains (symbols_in_row p 0 there.0.items name) symbol) (let a : symbol.module ≡ 0 + symbol.module = omega arith in a)
    (subst (λ p. Contains (symbols_in_row symbol.module 0 there.0.items name) (record { «module» = symbol.module; item = p })) (let b : 0 + symbol.item ≡ symbol.item = omega arith in b)
    (row_from symbol.module 0 there.0.items name symbol.item found there.2 (item_is name found is.external is.named))))

-- ---- the first of them

pub record IsAtOrAfter (first other : Sym) : Type 0 where
  pub is : (first.module < other.module) ⊎ ((first.module ≡ other.module) × (first.item ≤ other.item))

not_before : (first other : Sym) → IsAtOrAfter first other → IsBefore other first → ⊥
not_before first other at b = elim at.is [
  | inl later ↦ elim b [ inl e ↦ absurd (omega arith) | inr e ↦ absurd (omega (arith, e.0)) ]
  | inr same_module ↦ elim b [ inl e ↦ absurd (omega (arith, same_module.0)) | inr e ↦ absurd (omega (arith, e.1, same_module.1)) ]
]

row_bound : (m place : ℕ) (items : List Item) (name : List ℕ) (symbol : Sym) → IsInRow m place items name symbol → (symbol.module ≡ m) × (place ≤ symbol.item)
row_bound m place items name symbol r = (ap (λ s. s.module) r.is, let at : symbol.item ≡ place + r.k = ap (λ s. s.item) r.is in omega (arith, at))

leads_row : (m place : ℕ) (items : List Item) (name : List ℕ) (first : Sym) (rest : List Sym) (other : Sym) → symbols_in_row m place items name ≡ first ∷ rest → Contains (symbols_in_row m place items name) other → IsAtOrAfter first other
leads_row m place [] name first rest other is h = absurd (cc)
leads_row m place (x ∷ items) name first rest other is h = by (is_item_of name x) refl (leads_row m (place + 1) items name first rest other) is h
  where
    by : (b : Bool) → is_item_of name x ≡ b → (symbols_in_row m (place + 1) items name ≡ first ∷ rest → Contains (symbols_in_row m (place + 1) items name) other → IsAtOrAfter first other) → cond b (record { «module» = m; item = place } ∷ symbols_in_row m (place + 1) items name) (symbols_in_row m (place + 1) items name) ≡ first ∷ rest
        → Contains (cond b (record { «module» = m; item = place } ∷ symbols_in_row m (place + 1) items name) (symbols_in_row m (place + 1) items name)) other → IsAtOrAfter first other
    by true e later i c =
        let bound = row_bound m place (x ∷ items) name other (row_to m place (x ∷ items) name other h) in
        let head : first ≡ record { «module» = m; item = place } = cc in
        let m_is : first.module ≡ m = ap (λ s. s.module) head in
        let i_is : first.item ≡ place = ap (λ s. s.item) head in
        record { is = inr (m_is ∙ sym bound.0, omega (arith, i_is, bound.1)) }
    by false e later i c = later i c

leads_from : (m : ℕ) (modules : List Module) (name : List ℕ) (first : Sym) (rest : List Sym) (other : Sym) → symbols_from m modules name ≡ first ∷ rest → Contains (symbols_from m modules name) other → IsAtOrAfter first other
leads_from m [] name first rest other is h = absurd (cc)
leads_from m (x ∷ modules) name first rest other is h = by (symbols_in_row m 0 x.items name) refl (leads_from (m + 1) modules name first rest other) is h
  where
    by : (row : List Sym) → symbols_in_row m 0 x.items name ≡ row → (symbols_from (m + 1) modules name ≡ first ∷ rest → Contains (symbols_from (m + 1) modules name) other → IsAtOrAfter first other) → row ++ symbols_from (m + 1) modules name ≡ first ∷ rest → Contains (row ++ symbols_from (m + 1) modules name) other → IsAtOrAfter first other
    by [] e next i c = next i c
    by (y ∷ ys) e next i c =
        let head : y ≡ first = cc in
        let row_is : symbols_in_row m 0 x.items name ≡ first ∷ ys = e ∙ ap (λ z. z ∷ ys) head in
        elim (Contains-append_cases (y ∷ ys) (symbols_from (m + 1) modules name) other c) [
          | inl here ↦ leads_row m 0 x.items name first ys other row_is (subst (λ r. Contains r other) (sym e) here)
          | inr later ↦
              let r = from_to (m + 1) modules name other later in
              let there : other.module ≡ (m + 1) + r.k = (row_bound ((m + 1) + r.k) 0 r.one.items name other r.row).0 in
              let here : first.module ≡ m = (row_bound m 0 x.items name first (row_to m 0 x.items name first (subst (λ r. Contains r first) (sym row_is) (contains_here first ys)))).0 in
              record { is = inl (omega (arith, there, here)) }
        ]

pub first_is_least : (modules : List Module) (name : List ℕ) (first : Sym) (rest : List Sym) (other : Sym) (found : Item) → first ∷ rest ≡ symbols_of modules name → IsItemOf modules name other found → IsBefore other first → ⊥
first_is_least modules name first rest other found is of = not_before first other (leads_from 0 modules name first rest other (sym is) (members_from modules name other found of))
