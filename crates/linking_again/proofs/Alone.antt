-- Needed demands: copies have short names, and a function stands under its own name once.
use Rattle.std.proofs.Common.{◌≡◌, ◌∙◌, ◌⊎◌, inl, inr, ℕ, zero, suc, ◌+◌, ◌≤◌, Bool, true, false, not, ◌&&◌, ◌||◌, List, [], ◌∷◌, Option, None, Some, Contains, length, map, refl, ap, sym, subst, arith}
use Rattle.std.specs.Prelude.{slice_get, bytes_eq, nat_le, if◌then◌else◌}
use Rattle.std.specs.List.{list_any}
use Rattle.std.proofs.lemmas.Bool.{false≢true, and_parts, and_cases, or_cases, leb-true, not-true, not-false}
use Rattle.std.proofs.lemmas.Option.{none-some}
use Rattle.std.proofs.lemmas.Slice.Eq.{bytes_eq-Decides}
use Rattle.ir_types.specs.declared.scalar.Known.{Known}
use Rattle.ir_types.specs.declared.scalar.Known.TheVariants.{Unknown, Num, Null}
use Rattle.ir_syntax.specs.declared.symbol.Sym.{Sym}
use Rattle.ir_syntax.specs.declared.body.Body.{Body}
use Rattle.ir_syntax.specs.declared.item.Func.{Func}
use Rattle.ir_syntax.specs.declared.item.Item.{Item}
use Rattle.ir_syntax.specs.declared.item.Item.TheVariants as item
use Rattle.ir_syntax.specs.declared.item.Module.{Module}
use Rattle.ir_syntax.specs.Named.{item_names}
use Rattle.ir_syntax.specs.Symbols.{item_at}
use Rattle.ir_syntax.specs.Targets.{entry_at}
use Rattle.ir_syntax.specs.Programs.{ProgramData, IsProgram}
use Rattle.fold_facts.proofs.Lists.{some_is}
use Rattle.fold_facts.proofs.Arriving.{place_in}
use Rattle.demand_core.specs.Needed.{IsNeeded}
use Rattle.demands.specs.declared.demand.Demand.{Demand}
use Rattle.demands.specs.declared.demand.Demand.TheVariants.{Func as function, Var as variable}
use Rattle.demands.specs.Demands.{IsDemand}
use Rattle.demands.specs.Names.{is_unknown, are_unknown}
use Rattle.demands.specs.Order.{symbol_of}
use Rattle.demands.specs.Reading.{read_row}
use Rattle.demands.specs.Rows.{words_of}
use Rattle.demands.proofs.DemandReading.{one-demand}
use Rattle.interface.specs.Asked.{is_specialised, all_unknown, pattern_for, definition_of, by_call, by_name}
use Rattle.interface.specs.Masks.{flag_at}
use Rattle.interface.specs.Roots.{is_symbol, is_export, is_definition, names_symbol, is_named_from, is_named, is_only_entered, root_pattern, roots}
use Rattle.specialise.specs.Mirrors.Expanding.{row_needs}
use Rattle.winnowed_form.specs.Basis.{basis, is_row}
use Rattle.winnowed_form.specs.Copies.{is_copy}
use Rattle.linking_again.specs.Whole.{IsLeftOf, HasShortName}
use Rattle.linking_again.proofs.Asking.{unknown_all, named_symbol, called_symbol}
use Rattle.linking_again.proofs.Asks.{Ask}
use Rattle.linking_again.proofs.CopyNames.{known_long}
use Rattle.linking_again.proofs.Home.{function_at}
use Rattle.linking_again.proofs.Needing.{RootOf, read_of, row_short, root_demand, needed_are}
use Rattle.linking_again.proofs.Places.{stands_in}
use Rattle.linking_again.proofs.Rooted.{any_in, symbol_is, is_same_symbol, entry_row, row_is}
use Rattle.linking_again.proofs.Suiting.{copy_pattern}

or_left : (a b : Bool) → a ≡ true → (a || b) ≡ true
or_left true b e = refl
or_left false b e = absurd (false≢true e)

or_right : (a b : Bool) → b ≡ true → (a || b) ≡ true
or_right true b e = refl
or_right false b e = e

-- ---- copies have short names

abbrev short_item : Option Item → Bool
short_item None = true
short_item (Some (item.Var var)) = true
short_item (Some (item.Func func)) = nat_le (length func.name) 3072

abbrev is_short : ProgramData → Option Demand → Bool
is_short p None = true
is_short p (Some (variable symbol)) = true
is_short p (Some (function symbol pattern)) = are_unknown pattern || short_item (item_at p.modules symbol)

pattern_short : (p : ProgramData) (cycles : List (List Bool)) (symbol : Sym) (func : Func) (known : List Known) → item_at p.modules symbol ≡ Some (item.Func func) → (are_unknown (pattern_for cycles symbol func known) || short_item (item_at p.modules symbol)) ≡ true
pattern_short p cycles symbol func known stands = by (is_specialised cycles symbol func) refl
  where
    by : (c : Bool) → is_specialised cycles symbol func ≡ c → (are_unknown (if c then known else all_unknown func) || short_item (item_at p.modules symbol)) ≡ true
    by true e = or_right (are_unknown known) (short_item (item_at p.modules symbol)) (ap short_item stands ∙ (and_parts (not (flag_at (entry_at cycles symbol))) (nat_le (length func.name) 3072) e).1)
    by false e = or_left (are_unknown (all_unknown func)) (short_item (item_at p.modules symbol)) (unknown_all func.params)

root_short : (p : ProgramData) (cycles : List (List Bool)) (symbol : Sym) (func : Func) → item_at p.modules symbol ≡ Some (item.Func func) → is_short p (Some (function symbol (root_pattern p cycles symbol func))) ≡ true
root_short p cycles symbol func stands = by (is_only_entered p symbol)
  where
    by : (c : Bool) → (are_unknown (if c then pattern_for cycles symbol func p.entry_args else all_unknown func) || short_item (item_at p.modules symbol)) ≡ true
    by true = pattern_short p cycles symbol func p.entry_args stands
    by false = or_left (are_unknown (all_unknown func)) (short_item (item_at p.modules symbol)) (unknown_all func.params)

named_short : (p : ProgramData) (symbol : Sym) (found : Item) → is_short p (Some (by_name symbol found)) ≡ true
named_short p symbol (item.Var var) = refl
named_short p symbol (item.Func func) = or_left (are_unknown (all_unknown func)) (short_item (item_at p.modules symbol)) (unknown_all func.params)

called_short : (p : ProgramData) (cycles : List (List Bool)) (known : List Known) (symbol : Sym) (found : Item) → item_at p.modules symbol ≡ Some found → is_short p (Some (by_call cycles known symbol found)) ≡ true
called_short p cycles known symbol (item.Var var) stands = refl
called_short p cycles known symbol (item.Func func) stands = pattern_short p cycles symbol func known stands

ask_short : (p : ProgramData) (cycles : List (List Bool)) (home : ℕ) (d : Demand) → Ask p cycles home d → is_short p (Some d) ≡ true
ask_short p cycles home d ask = by ask.is
  where
    by : (by_name ask.symbol ask.found ≡ d) ⊎ ((known : List Known) × (by_call cycles known ask.symbol ask.found ≡ d)) → is_short p (Some d) ≡ true
    by (inl e) = ap (λ x. is_short p (Some x)) (sym e) ∙ named_short p ask.symbol ask.found
    by (inr (known, e)) = ap (λ x. is_short p (Some x)) (sym e) ∙ called_short p cycles known ask.symbol ask.found ask.stands

short_row : (p : ProgramData) (cycles : List (List Bool)) (row : List ℕ) → IsProgram p → IsNeeded (row_needs p cycles) (map words_of (roots p cycles)) row → is_short p (read_row p.modules row) ≡ true
short_row p cycles row program needed = needed_are p cycles (λ row. is_short p (read_row p.modules row)) program
    (λ d r. ap (is_short p) (read_of p d program (root_demand p cycles d program r)) ∙ ap (λ x. is_short p (Some x)) (sym r.is) ∙ root_short p cycles r.symbol r.func r.stands)
    (λ other need n. ap (λ r. is_short p (read_row p.modules r)) (sym n.has_row) ∙ ap (is_short p) (read_of p n.demand program n.asked.is_demand) ∙ ask_short p cycles (symbol_of n.of).module n.demand n.asked) row needed

-- A needed copy is of a function with a short name.
pub needed_short : (p : ProgramData) (cycles : List (List Bool)) (d : Demand) → IsProgram p → IsDemand p.modules d → IsNeeded (row_needs p cycles) (map words_of (roots p cycles)) (words_of d) → HasShortName (basis p cycles) d
needed_short p cycles (variable symbol) program demand needed copy func stands = absurd (false≢true copy)
needed_short p cycles (function symbol pattern) program demand needed copy func stands =
    let short : is_short p (Some (function symbol pattern)) ≡ true = ap (is_short p) (sym (read_of p (function symbol pattern) program demand)) ∙ short_row p cycles (words_of (function symbol pattern)) program needed in
    by (or_cases (are_unknown pattern) (short_item (item_at p.modules symbol)) short)
  where
    by : (are_unknown pattern ≡ true) ⊎ (short_item (item_at p.modules symbol) ≡ true) → length func.name ≤ 3072
    by (inl e) = absurd (false≢true (sym (copy_pattern (basis p cycles) symbol pattern copy) ∙ e))
    by (inr e) = leb-true (length func.name) 3072 (ap short_item (sym stands) ∙ e)

-- ---- the entry that is specialised stands alone

named_from : (p : ProgramData) (symbol : Sym) (start : ℕ) (ms : List Module) (k i : ℕ) (m : Module) (found : Item) (place : ℕ) → slice_get ms k ≡ Some m → slice_get m.items i ≡ Some found → Contains (item_names found) place → definition_of p (start + k) place ≡ Some symbol
    → is_named_from p symbol start ms ≡ true
named_from p symbol start [] k i m found place at is names def = absurd (none-some m at)
named_from p symbol start (n ∷ ms) zero i m found place at is names def =
    let here : start + 0 ≡ start = omega arith in
    let name = place_in (item_names found) place names in
    let one : names_symbol p symbol start found ≡ true = any_in (λ place. is_definition symbol (definition_of p start place)) (item_names found) name.0 place name.1 (ap (is_definition symbol) (ap (λ h. definition_of p h place) (sym here) ∙ def) ∙ symbol_is symbol) in
    or_left (list_any (names_symbol p symbol start) n.items) (is_named_from p symbol (suc start) ms) (any_in (names_symbol p symbol start) n.items i found (ap (λ (x : Module). slice_get x.items i) (some_is at) ∙ is) one)
named_from p symbol start (n ∷ ms) (suc k) i m found place at is names def =
    let here : start + suc k ≡ suc start + k = omega arith in
    or_right (list_any (names_symbol p symbol start) n.items) (is_named_from p symbol (suc start) ms) (named_from p symbol (suc start) ms k i m found place at is names (ap (λ h. definition_of p h place) (sym here) ∙ def))

-- what is asked for is named by an item of the program
ask_named : (p : ProgramData) (cycles : List (List Bool)) (home : ℕ) (d : Demand) → (ask : Ask p cycles home d) → is_named p ask.symbol ≡ true
ask_named p cycles home d ask =
    let at = stands_in p.modules ask.named.by ask.named.user ask.named.stands in
    named_from p ask.symbol 0 p.modules ask.named.by.module ask.named.by.item at.home ask.named.user ask.place at.stands at.is ask.named.names (ap (λ h. definition_of p h ask.place) (zero_on ask.named.by.module ∙ ask.named.here) ∙ ask.resolves)
  where
    zero_on : (n : ℕ) → 0 + n ≡ n
    zero_on n = omega arith

ask_symbol : (p : ProgramData) (cycles : List (List Bool)) (home : ℕ) (d : Demand) → (ask : Ask p cycles home d) → symbol_of d ≡ ask.symbol
ask_symbol p cycles home d ask = by ask.is
  where
    by : (by_name ask.symbol ask.found ≡ d) ⊎ ((known : List Known) × (by_call cycles known ask.symbol ask.found ≡ d)) → symbol_of d ≡ ask.symbol
    by (inl e) = sym (ap symbol_of e) ∙ named_symbol ask.symbol ask.found
    by (inr (known, e)) = sym (ap symbol_of e) ∙ called_symbol cycles known ask.symbol ask.found

-- a demand is no other of the entry than this one
abbrev is_lone : ProgramData → Demand → List ℕ → Option Demand → Bool
is_lone p root row None = true
is_lone p root row (Some d) = not (is_symbol p.entry (symbol_of d)) || bytes_eq row (words_of root)

-- Where the entry is only entered, its root is the one needed demand for it.
lone_row : (p : ProgramData) (cycles : List (List Bool)) (func : Func) (row : List ℕ) → IsProgram p → item_at p.modules p.entry ≡ Some (item.Func func) → is_only_entered p p.entry ≡ true → IsNeeded (row_needs p cycles) (map words_of (roots p cycles)) row
    → is_lone p (function p.entry (root_pattern p cycles p.entry func)) row (read_row p.modules row) ≡ true
lone_row p cycles func row program stands entered needed = needed_are p cycles (λ row. is_lone p root row (read_row p.modules row)) program
    (λ d r. ap (is_lone p root (words_of d)) (read_of p d program (root_demand p cycles d program r)) ∙ first d r (is_symbol p.entry (symbol_of d)) refl)
    (λ other need n. ap (λ r. is_lone p root r (read_row p.modules r)) (sym n.has_row) ∙ ap (is_lone p root (words_of n.demand)) (read_of p n.demand program n.asked.is_demand) ∙ step n.demand (symbol_of n.of).module n.asked (is_symbol p.entry (symbol_of n.demand)) refl) row needed
  where
    root : Demand
    root = function p.entry (root_pattern p cycles p.entry func)

    first : (d : Demand) → (r : RootOf p cycles d) → (c : Bool) → is_symbol p.entry (symbol_of d) ≡ c → (not c || bytes_eq (words_of d) (words_of (function p.entry (root_pattern p cycles p.entry func)))) ≡ true
    first d r false e = refl
    first d r true e =
        let symbol : r.symbol ≡ p.entry = ap symbol_of r.is ∙ sym (is_same_symbol p.entry (symbol_of d) e) in
        let same : item.Func r.func ≡ item.Func func = some_is (sym r.stands ∙ ap (item_at p.modules) symbol ∙ stands) in
        let funcs : r.func ≡ func = func_is same in
        let is : d ≡ function p.entry (root_pattern p cycles p.entry func) = sym r.is ∙ (λ i. function (symbol i) (root_pattern p cycles (symbol i) (funcs i))) in
        ap (λ x. bytes_eq (words_of x) (words_of (function p.entry (root_pattern p cycles p.entry func)))) is ∙ row_is (words_of (function p.entry (root_pattern p cycles p.entry func)))
      where
        func_is : {x y : Func} → item.Func x ≡ item.Func y → x ≡ y
        func_is g = cc

    step : (d : Demand) (home : ℕ) → (ask : Ask p cycles home d) → (c : Bool) → is_symbol p.entry (symbol_of d) ≡ c → (not c || bytes_eq (words_of d) (words_of (function p.entry (root_pattern p cycles p.entry func)))) ≡ true
    step d home ask false e = refl
    step d home ask true e =
        let symbol : p.entry ≡ ask.symbol = is_same_symbol p.entry (symbol_of d) e ∙ ask_symbol p cycles home d ask in
        let is_there : is_named p p.entry ≡ true = ap (is_named p) symbol ∙ ask_named p cycles home d ask in
        let parts = and_parts (is_symbol p.entry p.entry) (not (is_export p p.entry) && not (is_named p p.entry)) entered in
        let alone = and_parts (not (is_export p p.entry)) (not (is_named p p.entry)) parts.1 in
        absurd (false≢true (sym (ap not is_there) ∙ alone.1))

pub unknown_same : (xs ys : List Known) → are_unknown xs ≡ true → are_unknown ys ≡ true → length xs ≡ length ys → xs ≡ ys
unknown_same [] [] e g same = refl
unknown_same [] (y ∷ ys) e g same = absurd (omega (arith, same))
unknown_same (x ∷ xs) [] e g same = absurd (omega (arith, same))
unknown_same (x ∷ xs) (y ∷ ys) e g same =
    let one = and_parts (is_unknown x) (are_unknown xs) e in
    let other = and_parts (is_unknown y) (are_unknown ys) g in
    λ i. (item_is x one.0 ∙ sym (item_is y other.0)) i ∷ unknown_same xs ys one.1 other.1 (omega (arith, same)) i
  where
    item_is : (k : Known) → is_unknown k ≡ true → k ≡ Unknown
    item_is Unknown h = refl
    item_is (Num n) h = absurd (false≢true h)
    item_is Null h = absurd (false≢true h)

-- ---- one demand under its own name

-- A demand under its own name has nothing known, or is the entry's root.
plain_cases : (p : ProgramData) (cycles : List (List Bool)) (symbol : Sym) (pattern : List Known) (func : Func) → IsProgram p → item_at p.modules p.entry ≡ Some (item.Func func) → IsDemand p.modules (function symbol pattern) → IsDemand p.modules (function p.entry (root_pattern p cycles p.entry func))
    → is_copy (basis p cycles) (function symbol pattern) ≡ false → (are_unknown pattern ≡ true) ⊎ (function symbol pattern ≡ function p.entry (root_pattern p cycles p.entry func))
plain_cases p cycles symbol pattern func program stands demand root plain = by (and_cases (not (are_unknown pattern)) (not (is_row (basis p cycles).entry (words_of (function symbol pattern)))) plain)
  where
    by : (not (are_unknown pattern) ≡ false) ⊎ (not (is_row (basis p cycles).entry (words_of (function symbol pattern))) ≡ false) → (are_unknown pattern ≡ true) ⊎ (function symbol pattern ≡ function p.entry (root_pattern p cycles p.entry func))
    by (inl e) = inl (not-false (are_unknown pattern) e)
    by (inr e) =
        let row : is_row (basis p cycles).entry (words_of (function symbol pattern)) ≡ true = not-false (is_row (basis p cycles).entry (words_of (function symbol pattern))) e in
        let same : bytes_eq (words_of (function p.entry (root_pattern p cycles p.entry func))) (words_of (function symbol pattern)) ≡ true = ap (λ o. is_row o (words_of (function symbol pattern))) (sym (entry_row p cycles (item.Func func) stands)) ∙ row in
        let words : words_of (function p.entry (root_pattern p cycles p.entry func)) ≡ words_of (function symbol pattern) = (bytes_eq-Decides (words_of (function p.entry (root_pattern p cycles p.entry func))) (words_of (function symbol pattern))).0 same in
        inr (one-demand p.modules (words_of (function symbol pattern)) (function symbol pattern) (function p.entry (root_pattern p cycles p.entry func)) (row_short p (function symbol pattern) program demand) demand root refl words)

-- What is known of one demand under its own name, another for the same function has it too.
functions_alone : (p : ProgramData) (cycles : List (List Bool)) (symbol : Sym) (one other : List Known) (func entry : Func) → IsProgram p → item_at p.modules symbol ≡ Some (item.Func func) → length one ≡ length func.params → length other ≡ length func.params
    → item_at p.modules p.entry ≡ Some (item.Func entry) → IsDemand p.modules (function p.entry (root_pattern p cycles p.entry entry)) → IsDemand p.modules (function symbol one) → IsDemand p.modules (function symbol other)
    → IsNeeded (row_needs p cycles) (map words_of (roots p cycles)) (words_of (function symbol one)) → IsNeeded (row_needs p cycles) (map words_of (roots p cycles)) (words_of (function symbol other))
    → is_copy (basis p cycles) (function symbol one) ≡ false → is_copy (basis p cycles) (function symbol other) ≡ false → function symbol one ≡ function symbol other
functions_alone p cycles symbol one other func entry program stands long longer entry_at root demand_one demand_other needed_one needed_other plain_one plain_other =
    by (plain_cases p cycles symbol one entry program entry_at demand_one root plain_one) (plain_cases p cycles symbol other entry program entry_at demand_other root plain_other)
  where
    rooted : Demand
    rooted = function p.entry (root_pattern p cycles p.entry entry)

    -- beside the entry's root, one with nothing known
    beside : (x y : List Known) → length x ≡ length func.params → length y ≡ length func.params → IsDemand p.modules (function symbol y) → IsNeeded (row_needs p cycles) (map words_of (roots p cycles)) (words_of (function symbol y))
        → function symbol x ≡ function p.entry (root_pattern p cycles p.entry entry) → are_unknown y ≡ true → function symbol x ≡ function symbol y
    beside x y long_x long_y demand needed is unknown = by_known (are_unknown x) refl
      where
        same : symbol ≡ p.entry
        same = ap symbol_of is

        pattern : x ≡ root_pattern p cycles p.entry entry
        pattern = pattern_is is
          where
            pattern_is : {s t : Sym} {u v : List Known} → function s u ≡ function t v → u ≡ v
            pattern_is g = cc

        by_entered : (c : Bool) → is_only_entered p p.entry ≡ c → are_unknown x ≡ false → function symbol x ≡ function symbol y
        by_entered false c e = absurd (false≢true (sym e ∙ ap are_unknown pattern ∙ ap (λ t. are_unknown (if t then pattern_for cycles p.entry entry p.entry_args else all_unknown entry)) c ∙ unknown_all entry.params))
        by_entered true c e =
            let lone : is_lone p (function p.entry (root_pattern p cycles p.entry entry)) (words_of (function symbol y)) (Some (function symbol y)) ≡ true =
            ap (is_lone p (function p.entry (root_pattern p cycles p.entry entry)) (words_of (function symbol y))) (sym (read_of p (function symbol y) program demand)) ∙ lone_row p cycles entry (words_of (function symbol y)) program entry_at c needed in
            to (or_cases (not (is_symbol p.entry symbol)) (bytes_eq (words_of (function symbol y)) (words_of (function p.entry (root_pattern p cycles p.entry entry)))) lone)
          where
            to : (not (is_symbol p.entry symbol) ≡ true) ⊎ (bytes_eq (words_of (function symbol y)) (words_of (function p.entry (root_pattern p cycles p.entry entry))) ≡ true) → function symbol x ≡ function symbol y
            to (inl g) = absurd (false≢true (sym (not-true (is_symbol p.entry symbol) g) ∙ ap (is_symbol p.entry) same ∙ symbol_is p.entry))
            to (inr g) =
                let words : words_of (function symbol y) ≡ words_of (function p.entry (root_pattern p cycles p.entry entry)) = (bytes_eq-Decides (words_of (function symbol y)) (words_of (function p.entry (root_pattern p cycles p.entry entry)))).0 g in
                is ∙ sym (one-demand p.modules (words_of (function symbol y)) (function symbol y) (function p.entry (root_pattern p cycles p.entry entry)) (row_short p (function symbol y) program demand) demand root refl (sym words))

        by_known : (c : Bool) → are_unknown x ≡ c → function symbol x ≡ function symbol y
        by_known true e = ap (function symbol) (unknown_same x y e unknown (long_x ∙ sym long_y))
        by_known false e = by_entered (is_only_entered p p.entry) refl e

    by : (are_unknown one ≡ true) ⊎ (function symbol one ≡ function p.entry (root_pattern p cycles p.entry entry)) → (are_unknown other ≡ true) ⊎ (function symbol other ≡ function p.entry (root_pattern p cycles p.entry entry)) → function symbol one ≡ function symbol other
    by (inl e) (inl g) = ap (function symbol) (unknown_same one other e g (long ∙ sym longer))
    by (inl e) (inr g) = sym (beside other one longer long demand_one needed_one g e)
    by (inr e) (inl g) = beside one other long longer demand_other needed_other e g
    by (inr e) (inr g) = e ∙ sym g

-- Two needed demands for one symbol under its own name are one.
pub needed_alone : (p : ProgramData) (cycles : List (List Bool)) (entry : Func) (d e : Demand) (body other : Option Body) → IsProgram p → item_at p.modules p.entry ≡ Some (item.Func entry) → IsDemand p.modules (function p.entry (root_pattern p cycles p.entry entry))
    → IsDemand p.modules d → IsDemand p.modules e → IsLeftOf p d body → IsLeftOf p e other → IsNeeded (row_needs p cycles) (map words_of (roots p cycles)) (words_of d) → IsNeeded (row_needs p cycles) (map words_of (roots p cycles)) (words_of e)
    → is_copy (basis p cycles) d ≡ false → is_copy (basis p cycles) e ≡ false → symbol_of d ≡ symbol_of e → d ≡ e
needed_alone p cycles entry (variable s) (variable t) body other program entry_at root demand_d demand_e left right needed_d needed_e plain_d plain_e same = ap variable same
needed_alone p cycles entry (variable s) (function t q) body other program entry_at root demand_d demand_e left right needed_d needed_e plain_d plain_e same =
    absurd (apart (some_is (sym left.is_variable ∙ ap (item_at p.modules) same ∙ function_at p t q other right)))
  where
    apart : item.Var left.var ≡ item.Func right.func → ⊥
    apart g = cc
needed_alone p cycles entry (function s q) (variable t) body other program entry_at root demand_d demand_e left right needed_d needed_e plain_d plain_e same =
    absurd (apart (some_is (sym right.is_variable ∙ ap (item_at p.modules) (sym same) ∙ function_at p s q body left)))
  where
    apart : item.Var right.var ≡ item.Func left.func → ⊥
    apart g = cc
needed_alone p cycles entry (function s q) (function t r) body other program entry_at root demand_d demand_e left right needed_d needed_e plain_d plain_e same =
    let moved : function s r ≡ function t r = ap (λ x. function x r) same in
    let at_s : item_at p.modules s ≡ Some (item.Func left.func) = function_at p s q body left in
    let funcs : item.Func right.func ≡ item.Func left.func = some_is (sym (function_at p t r other right) ∙ ap (item_at p.modules) (sym same) ∙ at_s) in
    let params : length right.func.params ≡ length left.func.params = ap (λ (f : Func). length f.params) (func_is funcs) in
    functions_alone p cycles s q r left.func entry program at_s (known_long left.func.params q left.left.knows) (known_long right.func.params r right.left.knows ∙ params) entry_at root demand_d (subst (IsDemand p.modules) (sym moved) demand_e) needed_d
    (subst (λ x. IsNeeded (row_needs p cycles) (map words_of (roots p cycles)) (words_of x)) (sym moved) needed_e) plain_d (ap (is_copy (basis p cycles)) moved ∙ plain_e) ∙ moved
  where
    func_is : {x y : Func} → item.Func x ≡ item.Func y → x ≡ y
    func_is g = cc
