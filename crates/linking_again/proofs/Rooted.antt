-- The roots: the entry's is the first and no copy, and each export's has nothing known.
use Rattle.std.proofs.Common.{◌≡◌, ◌∙◌, ℕ, zero, suc, Bool, true, false, not, ◌&&◌, ◌||◌, List, [], ◌∷◌, Option, None, Some, Contains, map, refl, ap}
use Rattle.std.specs.Prelude.{slice_get, bytes_eq, ◌==◌, if◌then◌else◌}
use Rattle.std.specs.List.{filter, filter_map, list_any}
use Rattle.std.proofs.lemmas.Bool.{false≢true, and_parts, and_from, and_left, and_right, eq-eqb, eqb-true}
use Rattle.std.proofs.lemmas.Option.{none-some}
use Rattle.std.proofs.lemmas.Slice.Eq.{bytes_eq-Decides}
use Rattle.ir_syntax.specs.declared.symbol.Sym.{Sym}
use Rattle.ir_syntax.specs.declared.item.Func.{Func}
use Rattle.ir_syntax.specs.declared.item.Item.{Item}
use Rattle.ir_syntax.specs.declared.item.Item.TheVariants as item
use Rattle.ir_syntax.specs.Symbols.{item_at}
use Rattle.ir_syntax.specs.Programs.{ProgramData}
use Rattle.fold_facts.proofs.Lists.{some_is}
use Rattle.fold_facts.proofs.Arriving.{in_place}
use Rattle.demands.specs.declared.demand.Demand.{Demand}
use Rattle.demands.specs.declared.demand.Demand.TheVariants.{Func as function}
use Rattle.demands.specs.Names.{are_unknown}
use Rattle.demands.specs.Rows.{words_of}
use Rattle.interface.specs.Asked.{all_unknown, pattern_for, asked_by}
use Rattle.interface.specs.Roots.{is_symbol, is_export, is_named, once, is_only_entered, root_pattern, by_root, roots}
use Rattle.winnowed_form.specs.Basis.{basis, is_row}
use Rattle.winnowed_form.specs.Copies.{is_copy}
use Rattle.linking_again.proofs.Asking.{asked_is, plain_is_none, unknown_all}
use Rattle.linking_again.proofs.Facts.{same_symbol}
use Rattle.linking_again.proofs.Lists.{filter_has}

-- ---- lists

pub in_filter_map : {A B : Type 0} (g : A → Option B) (xs : List A) (k : ℕ) (x : A) (y : B) → slice_get xs k ≡ Some x → g x ≡ Some y → (j : ℕ) × (slice_get (filter_map g xs) j ≡ Some y)
in_filter_map g [] k x y is e = absurd (none-some x is)
in_filter_map {A} {B} g (z ∷ zs) zero x y is e = (0, ap (λ l. slice_get l 0) (some y (ap g (some_is is) ∙ e)))
  where
    some : (v : B) → g z ≡ Some v → filter_map g (z ∷ zs) ≡ v ∷ filter_map g zs
    some v h = rw h
in_filter_map {A} {B} g (z ∷ zs) (suc k) x y is e = by (g z) refl (in_filter_map g zs k x y is e)
  where
    none : g z ≡ None → filter_map g (z ∷ zs) ≡ filter_map g zs
    none h = rw h

    some : (v : B) → g z ≡ Some v → filter_map g (z ∷ zs) ≡ v ∷ filter_map g zs
    some v h = rw h

    by : (o : Option B) → g z ≡ o → (j : ℕ) × (slice_get (filter_map g zs) j ≡ Some y) → (j : ℕ) × (slice_get (filter_map g (z ∷ zs)) j ≡ Some y)
    by None h rest = (rest.0, ap (λ l. slice_get l rest.0) (none h) ∙ rest.1)
    by (Some v) h rest = (suc rest.0, ap (λ l. slice_get l (suc rest.0)) (some v h) ∙ rest.1)

pub any_in : {A : Type 0} (test : A → Bool) (xs : List A) (k : ℕ) (x : A) → slice_get xs k ≡ Some x → test x ≡ true → list_any test xs ≡ true
any_in test [] k x is e = absurd (none-some x is)
any_in test (y ∷ ys) zero x is e = first (test y) (ap test (some_is is) ∙ e)
  where
    first : (c : Bool) → c ≡ true → (c || list_any test ys) ≡ true
    first true h = refl
    first false h = absurd (false≢true h)
any_in test (y ∷ ys) (suc k) x is e = later (test y) (any_in test ys k x is e)
  where
    later : (c : Bool) → list_any test ys ≡ true → (c || list_any test ys) ≡ true
    later true h = refl
    later false h = h

-- ---- symbols

pub symbol_is : (s : Sym) → is_symbol s s ≡ true
symbol_is s = and_from (s.module == s.module) (s.item == s.item) (eq-eqb s.module s.module refl) (eq-eqb s.item s.item refl)

pub is_same_symbol : (s t : Sym) → is_symbol s t ≡ true → s ≡ t
is_same_symbol s t e = let h = and_parts (s.module == t.module) (s.item == t.item) e in same_symbol s t (eqb-true s.module t.module h.0) (eqb-true s.item t.item h.1)

-- each symbol stands once where it stands at all
pub in_once : (xs : List Sym) (k : ℕ) (x : Sym) → slice_get xs k ≡ Some x → (j : ℕ) × (slice_get (once xs) j ≡ Some x)
in_once [] k x is = absurd (none-some x is)
in_once (s ∷ more) zero x is = (0, is)
in_once (s ∷ more) (suc k) x is = by (is_symbol s x) refl (in_once more k x is)
  where
    by : (c : Bool) → is_symbol s x ≡ c → (j : ℕ) × (slice_get (once more) j ≡ Some x) → (j : ℕ) × (slice_get (once (s ∷ more)) j ≡ Some x)
    by true e rest = (0, ap Some (is_same_symbol s x e))
    by false e rest = let at = filter_has (λ other. not (is_symbol s other)) (once more) rest.0 x rest.1 (ap not e) in (suc at.0, at.1)

-- ---- roots

-- each symbol of the entry and the exports has its root
pub root_in : (p : ProgramData) (cycles : List (List Bool)) (k : ℕ) (symbol : Sym) (found : Item) → slice_get (p.entry ∷ p.exports) k ≡ Some symbol → item_at p.modules symbol ≡ Some found → Contains (roots p cycles) (by_root p cycles symbol found)
root_in p cycles k symbol found is stands =
    let at = in_once (p.entry ∷ p.exports) k symbol is in
    let one = in_filter_map (λ (s : Sym). asked_by (by_root p cycles) p (Some s)) (once (p.entry ∷ p.exports)) at.0 symbol (by_root p cycles symbol found) at.1 (asked_is (by_root p cycles) p (Some symbol) symbol found refl stands) in
    in_place (roots p cycles) one.0 (by_root p cycles symbol found) one.1

-- the entry's is the first
pub entry_row : (p : ProgramData) (cycles : List (List Bool)) (found : Item) → item_at p.modules p.entry ≡ Some found → (basis p cycles).entry ≡ Some (words_of (by_root p cycles p.entry found))
entry_row p cycles found stands = ap (λ l. slice_get (map words_of l) 0) (first (by_root p cycles p.entry found) (asked_is (by_root p cycles) p (Some p.entry) p.entry found refl stands))
  where
    first : (d : Demand) → asked_by (by_root p cycles) p (Some p.entry) ≡ Some d
        → filter_map (λ (s : Sym). asked_by (by_root p cycles) p (Some s)) (once (p.entry ∷ p.exports)) ≡ d ∷ filter_map (λ (s : Sym). asked_by (by_root p cycles) p (Some s)) (filter (λ other. not (is_symbol p.entry other)) (once p.exports))
    first d e = rw e

pub row_is : (row : List ℕ) → bytes_eq row row ≡ true
row_is row = (bytes_eq-Decides row row).1 refl

-- and no copy
pub entry_plain : (p : ProgramData) (cycles : List (List Bool)) (func : Func) → item_at p.modules p.entry ≡ Some (item.Func func) → is_copy (basis p cycles) (by_root p cycles p.entry (item.Func func)) ≡ false
entry_plain p cycles func stands =
    let d = by_root p cycles p.entry (item.Func func) in
    let row : is_row (basis p cycles).entry (words_of d) ≡ true = ap (λ o. is_row o (words_of d)) (entry_row p cycles (item.Func func) stands) ∙ row_is (words_of d) in
    and_right (not (are_unknown (root_pattern p cycles p.entry func))) (not (is_row (basis p cycles).entry (words_of d))) (ap not row)

-- an export's root has nothing known
pub export_plain : (p : ProgramData) (cycles : List (List Bool)) (k : ℕ) (symbol : Sym) (func : Func) → slice_get p.exports k ≡ Some symbol → is_copy (basis p cycles) (by_root p cycles symbol (item.Func func)) ≡ false
export_plain p cycles k symbol func is =
    let export : is_export p symbol ≡ true = any_in (is_symbol symbol) p.exports k symbol is (symbol_is symbol) in
    let entered : is_only_entered p symbol ≡ false = and_right (is_symbol p.entry symbol) (not (is_export p symbol) && not (is_named p symbol)) (and_left (not (is_export p symbol)) (not (is_named p symbol)) (ap not export)) in
    let pattern : root_pattern p cycles symbol func ≡ all_unknown func = ap (λ c. if c then pattern_for cycles symbol func p.entry_args else all_unknown func) entered in
    ap (λ l. is_copy (basis p cycles) (function symbol l)) pattern ∙ plain_is_none (basis p cycles) symbol (all_unknown func) (unknown_all func.params)
