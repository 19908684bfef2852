-- What holds of each needed row: of the roots, and of what a row of which it holds asks for.
use Rattle.std.proofs.Common.{◌≡◌, ◌∙◌, ℕ, zero, suc, ◌≤◌, Bool, true, false, cond, not, ◌&&◌, List, [], ◌∷◌, Option, None, Some, Contains, length, map, refl, ap, sym, subst, arith}
use Rattle.std.specs.Prelude.{slice_get, IsSome, if◌then◌else◌}
use Rattle.std.specs.List.{AllZip, filter, filter_map}
use Rattle.std.proofs.lemmas.Bool.{false≢true, and_parts}
use Rattle.std.proofs.lemmas.List.{length-map}
use Rattle.std.proofs.lemmas.Option.{none-some}
use Rattle.ir_types.specs.declared.scalar.Known.{Known}
use Rattle.ir_types.proofs.ListSteps.{All-at}
use Rattle.ir_syntax.specs.declared.symbol.Sym.{Sym}
use Rattle.ir_syntax.specs.declared.body.Body.{Body}
use Rattle.ir_syntax.specs.declared.item.Func.{Func}
use Rattle.ir_syntax.specs.declared.item.Param.{Param}
use Rattle.ir_syntax.specs.declared.item.Item.{Item}
use Rattle.ir_syntax.specs.declared.item.Item.TheVariants as item
use Rattle.ir_syntax.specs.Definite.{DefiniteItem}
use Rattle.ir_syntax.specs.FormedItem.{FormedItem}
use Rattle.ir_syntax.specs.Symbols.{item_at, IsKnownOf, IsFunctionFor, IsDefinedFunction}
use Rattle.ir_syntax.specs.Typed.{TypedItem}
use Rattle.ir_syntax.specs.Programs.{ProgramData, IsProgram, IsSoundModule}
use Rattle.fold_facts.specs.Assigned.{Assigned}
use Rattle.fold_facts.specs.Closed.{IsLeastClosed}
use Rattle.fold_facts.specs.OfFunction.{AreKnownOf, IsAssignmentOf}
use Rattle.fold_facts.specs.Places.{blocks_of}
use Rattle.fold_facts.proofs.Lists.{some_is, of_map}
use Rattle.fold_facts.proofs.Arriving.{place_in, in_place}
use Rattle.demand_core.specs.Needed.{IsNeeded}
use Rattle.demands.specs.declared.demand.Demand.{Demand}
use Rattle.demands.specs.declared.demand.Demand.TheVariants.{Func as function, Var as variable}
use Rattle.demands.specs.Demands.{IsDemand, IsDefinition}
use Rattle.demands.specs.Order.{symbol_of, number_of}
use Rattle.demands.specs.Reading.{read_row}
use Rattle.demands.specs.Rows.{words_of}
use Rattle.demands.proofs.DemandReading.{row-sound, row-complete}
use Rattle.interface.specs.Asked.{is_specialised, all_unknown, asked_by}
use Rattle.interface.specs.Roots.{is_symbol, is_export, is_named, once, is_only_entered, root_pattern, by_root, roots}
use Rattle.interface.proofs.Listed.{sound_in, short_symbol}
use Rattle.specialise.specs.declared.piece.Piece.{Piece}
use Rattle.specialise.specs.Pieces.{IsExpansion, IsExpansionAt}
use Rattle.specialise.specs.Residual.{residual}
use Rattle.specialise.specs.Needs.{AreRowsOf}
use Rattle.specialise.specs.Mirrors.Expanding.{needs_at, needs_by, row_needs}
use Rattle.specialise.specs.Mirrors.Ordered.{ordered}
use Rattle.specialise.specs.Mirrors.Solving.{least_of}
use Rattle.specialise.proofs.Ordered.{ordered_is}
use Rattle.specialise.proofs.Rows.{known_fits}
use Rattle.specialise.proofs.Solving.{least_is}
use Rattle.residual_laws.specs.Left.{IsSoundAmong}
use Rattle.residual_laws.proofs.Every.{all_of_every, every_at, every_by, every_map}
use Rattle.residual_laws.proofs.Least.{least_led, least_asked}
use Rattle.linking_again.specs.Whole.{IsFunctionLeft, IsLeftOf, item_asks, left_asks, asks_by}
use Rattle.linking_again.proofs.Asking.{asked_of}
use Rattle.linking_again.proofs.Asks.{Ask, all_asked, unknown_fit}
use Rattle.linking_again.proofs.Places.{stands_in}
use Rattle.linking_again.proofs.Rooted.{is_same_symbol}

-- ---- what least closed assignments leave

function_left : (p : ProgramData) (symbol : Sym) (pattern : List Known) (func : Func) (a : Assigned) → IsProgram p → item_at p.modules symbol ≡ Some (item.Func func) → IsSome func.body → AreKnownOf func pattern → IsAssignmentOf func a
    → IsLeastClosed (record { known = pattern }) (blocks_of func) a → IsFunctionLeft p symbol pattern (Some (residual pattern func a))
function_left p symbol pattern func a program stands body knows of least =
    let at = stands_in p.modules symbol (item.Func func) stands in
    let sound = All-at IsSoundModule p.modules symbol.module at.home program.sound.sound at.stands in
    let among : IsSoundAmong at.home.items func = record {
      formed = All-at (FormedItem at.home.items) at.home.items symbol.item (item.Func func) sound.formed.has_items at.is;
      typed = All-at (TypedItem at.home.items) at.home.items symbol.item (item.Func func) sound.typed at.is;
      definite = All-at DefiniteItem at.home.items symbol.item (item.Func func) sound.definite at.is;
    } in
    record {
      home = at.home;
      stands = at.stands;
      func = func;
      is_function = at.is;
      assigned = a;
      left = record { defined = body; sound = among; knows = knows; of = of; closed = least.closed; led = least_led pattern func a least };
      asked = least_asked pattern func a least;
      is = refl;
    }

some_of : {A : Type 0} (o : Option A) → IsSome o → (x : A) × (o ≡ Some x)
some_of None h = absurd (false≢true h)
some_of (Some x) h = (x, refl)

left_at : (p : ProgramData) (cycles : List (List Bool)) (d : Demand) (o : Option Item) (piece : Piece) → IsProgram p → item_at p.modules (symbol_of d) ≡ o → IsDefinition d o → IsExpansionAt p cycles d o piece → IsLeftOf p d piece.body
left_at p cycles (variable symbol) None piece program e defined h = absurd h
left_at p cycles (variable symbol) (Some (item.Var var)) piece program e defined h = let init = some_of var.init defined in record { var = var; is_variable = e; init = init.0; defined = init.1; is = h.body }
left_at p cycles (variable symbol) (Some (item.Func func)) piece program e defined h = absurd h
left_at p cycles (function symbol pattern) None piece program e defined h = absurd h
left_at p cycles (function symbol pattern) (Some (item.Var var)) piece program e defined h = absurd h
left_at p cycles (function symbol pattern) (Some (item.Func func)) piece program e defined h =
    subst (IsFunctionLeft p symbol pattern) (sym h.is.body) (function_left p symbol pattern func h.facts program e defined.0 (known_fits func.params pattern defined.1) h.of h.least)

-- What a demand of the program expands into is what is left of it.
pub expansion_left : (p : ProgramData) (cycles : List (List Bool)) (d : Demand) (piece : Piece) → IsProgram p → IsDemand p.modules d → IsExpansion p cycles d piece → IsLeftOf p d piece.body
expansion_left p cycles d piece program demand h = left_at p cycles d (item_at p.modules (symbol_of d)) piece program refl demand.defined h

asks_at : (p : ProgramData) (cycles : List (List Bool)) (d : Demand) (o : Option Item) (piece : Piece) → item_at p.modules (symbol_of d) ≡ o → IsExpansionAt p cycles d o piece → AreRowsOf (asks_by p cycles d piece.body) piece.calls
asks_at p cycles (variable symbol) None piece e h = absurd h
asks_at p cycles (variable symbol) (Some (item.Var var)) piece e h = subst (λ (o : Option Item). AreRowsOf (item_asks p symbol.module o) piece.calls) (sym e) h.calls
asks_at p cycles (variable symbol) (Some (item.Func func)) piece e h = absurd h
asks_at p cycles (function symbol pattern) None piece e h = absurd h
asks_at p cycles (function symbol pattern) (Some (item.Var var)) piece e h = absurd h
asks_at p cycles (function symbol pattern) (Some (item.Func func)) piece e h = subst (λ (o : Option Body). AreRowsOf (left_asks p cycles symbol.module o) piece.calls) (sym h.is.body) h.is.calls

-- and its calls are the rows of what that asks for
pub expansion_asks : (p : ProgramData) (cycles : List (List Bool)) (d : Demand) (piece : Piece) → IsExpansion p cycles d piece → AreRowsOf (asks_by p cycles d piece.body) piece.calls
expansion_asks p cycles d piece h = asks_at p cycles d (item_at p.modules (symbol_of d)) piece refl h

-- ---- what a row needs

-- What is left of the demand of a row, and that the row needs what this asks for.
pub record RowLeft (p : ProgramData) (cycles : List (List Bool)) (row : List ℕ) (d : Demand) : Type 0 where
  pub body : Option Body
  pub left : IsLeftOf p d body
  pub needs : row_needs p cycles row ≡ ordered (map words_of (asks_by p cycles d body))

row_left_at : (p : ProgramData) (cycles : List (List Bool)) (d : Demand) (o : Option Item) → IsProgram p → item_at p.modules (symbol_of d) ≡ o → IsDefinition d o → (body : Option Body) × IsLeftOf p d body × (needs_at p cycles d o ≡ ordered (map words_of (asks_by p cycles d body)))
row_left_at p cycles (variable symbol) None program e defined = absurd defined
row_left_at p cycles (variable symbol) (Some (item.Var var)) program e defined =
    let init = some_of var.init defined in
    (None, record { var = var; is_variable = e; init = init.0; defined = init.1; is = refl }, ap (λ (o : Option Item). ordered (map words_of (item_asks p symbol.module o))) (sym e))
row_left_at p cycles (variable symbol) (Some (item.Func func)) program e defined = absurd defined
row_left_at p cycles (function symbol pattern) None program e defined = absurd defined
row_left_at p cycles (function symbol pattern) (Some (item.Var var)) program e defined = absurd defined
row_left_at p cycles (function symbol pattern) (Some (item.Func func)) program e defined =
    let knows : AreKnownOf func pattern = known_fits func.params pattern defined.1 in
    let a = least_of (record { known = pattern }) (blocks_of func) in
    let least = least_is func pattern knows (sound_in p symbol func program e) in
    (Some (residual pattern func a), function_left p symbol pattern func a program e defined.0 knows least.of least.least, refl)

pub row_left : (p : ProgramData) (cycles : List (List Bool)) (row : List ℕ) (d : Demand) → IsProgram p → read_row p.modules row ≡ Some d → RowLeft p cycles row d
row_left p cycles row d program read =
    let demand = (row-sound p.modules row d read).0 in
    let one = row_left_at p cycles d (item_at p.modules (symbol_of d)) program refl demand.defined in
    record { body = one.0; left = one.1; needs = ap (needs_by p cycles) read ∙ one.2 }

-- A need of a row: the row of what the row's demand asks for.
pub record RowNeed (p : ProgramData) (cycles : List (List Bool)) (row need : List ℕ) : Type 0 where
  pub of : Demand
  pub read : read_row p.modules row ≡ Some of
  pub demand : Demand
  pub has_row : words_of demand ≡ need
  pub asked : Ask p cycles (symbol_of of).module demand

pub row_need : (p : ProgramData) (cycles : List (List Bool)) (row need : List ℕ) → IsProgram p → Contains (row_needs p cycles row) need → RowNeed p cycles row need
row_need p cycles row need program c = by (read_row p.modules row) refl
  where
    by : (o : Option Demand) → read_row p.modules row ≡ o → RowNeed p cycles row need
    by None e = let at = place_in (row_needs p cycles row) need c in absurd (none-some need (sym (ap (λ o. slice_get (needs_by p cycles o) at.0) e) ∙ at.1))
    by (Some d) e =
        let left = row_left p cycles row d program e in
        let asks = asks_by p cycles d left.body in
        let at = place_in (row_needs p cycles row) need c in
        let among : Contains (map words_of asks) need = All-at (Contains (map words_of asks)) (ordered (map words_of asks)) at.0 need (ordered_is (map words_of asks)).only (sym (ap (λ l. slice_get l at.0) left.needs) ∙ at.1) in
        let place = place_in (map words_of asks) need among in
        let ask = of_map words_of asks place.0 need place.1 in
        record { of = d; read = e; demand = ask.0; has_row = ask.2; asked = every_at (Ask p cycles (symbol_of d).module) asks place.0 ask.0 (all_asked p cycles d left.body program left.left) ask.1 }

-- ---- rows are read

zip_long : (params : List Param) (known : List Known) → AllZip IsKnownOf params known → length known ≡ length params
zip_long [] [] all = refl
zip_long [] (k ∷ ks) all = absurd all
zip_long (x ∷ xs) [] all = absurd all
zip_long (x ∷ xs) (k ∷ ks) all = ap suc (zip_long xs ks all.1)

pub row_short : (p : ProgramData) (d : Demand) → IsProgram p → IsDemand p.modules d → length (words_of d) ≤ 34
row_short p (variable symbol) program demand = omega arith
row_short p (function symbol pattern) program demand = by (item_at p.modules symbol) refl demand.defined
  where
    by : (o : Option Item) → item_at p.modules symbol ≡ o → IsFunctionFor pattern o → length (words_of (function symbol pattern)) ≤ 34
    by None e h = absurd h
    by (Some (item.Var var)) e h = absurd h
    by (Some (item.Func func)) e h =
        let few : length func.params ≤ 32 = (sound_in p symbol func program e).formed.few_params in
        let long : length (map number_of pattern) ≡ length pattern = length-map pattern number_of in
        let same : length pattern ≡ length func.params = zip_long func.params pattern h.1 in
        let all : length (words_of (function symbol pattern)) ≡ suc (suc (length (map number_of pattern))) = refl in
        omega (arith, few, long, same, all)

pub read_of : (p : ProgramData) (d : Demand) → IsProgram p → IsDemand p.modules d → read_row p.modules (words_of d) ≡ Some d
read_of p d program demand = row-complete p.modules (words_of d) d (row_short p d program demand) demand refl

-- ---- roots

pub of_filter_map : {A B : Type 0} (g : A → Option B) (xs : List A) (j : ℕ) (y : B) → slice_get (filter_map g xs) j ≡ Some y → (k : ℕ) × (x : A) × (slice_get xs k ≡ Some x) × (g x ≡ Some y)
of_filter_map g [] j y is = absurd (none-some y is)
of_filter_map {A} {B} g (z ∷ zs) j y is = by (g z) refl (of_filter_map g zs) j is
  where
    none : g z ≡ None → filter_map g (z ∷ zs) ≡ filter_map g zs
    none h = rw h

    some : (v : B) → g z ≡ Some v → filter_map g (z ∷ zs) ≡ v ∷ filter_map g zs
    some v h = rw h

    by : (o : Option B) → g z ≡ o → ((i : ℕ) (v : B) → slice_get (filter_map g zs) i ≡ Some v → (k : ℕ) × (x : A) × (slice_get zs k ≡ Some x) × (g x ≡ Some v)) → (i : ℕ) → slice_get (filter_map g (z ∷ zs)) i ≡ Some y
        → (k : ℕ) × (x : A) × (slice_get (z ∷ zs) k ≡ Some x) × (g x ≡ Some y)
    by None e rest i h = let r = rest i y (sym (ap (λ l. slice_get l i) (none e)) ∙ h) in (suc r.0, r.1, r.2, r.3)
    by (Some v) e rest zero h = let same : v ≡ y = some_is (sym (ap (λ l. slice_get l 0) (some v e)) ∙ h) in (0, z, refl, e ∙ ap Some same)
    by (Some v) e rest (suc i) h = let r = rest i y (sym (ap (λ l. slice_get l (suc i)) (some v e)) ∙ h) in (suc r.0, r.1, r.2, r.3)

of_filter : {X : Type 0} (test : X → Bool) (xs : List X) (j : ℕ) (x : X) → slice_get (filter test xs) j ≡ Some x → (k : ℕ) × (slice_get xs k ≡ Some x)
of_filter test [] j x is = absurd (none-some x is)
of_filter {X} test (y ∷ ys) j x is = by (test y) (of_filter test ys) j is
  where
    by : (c : Bool) → ((i : ℕ) (v : X) → slice_get (filter test ys) i ≡ Some v → (k : ℕ) × (slice_get ys k ≡ Some v)) → (i : ℕ) → slice_get (cond c (y ∷ filter test ys) (filter test ys)) i ≡ Some x → (k : ℕ) × (slice_get (y ∷ ys) k ≡ Some x)
    by true rest zero h = (0, h)
    by true rest (suc i) h = let r = rest i x h in (suc r.0, r.1)
    by false rest i h = let r = rest i x h in (suc r.0, r.1)

of_once : (xs : List Sym) (j : ℕ) (x : Sym) → slice_get (once xs) j ≡ Some x → (k : ℕ) × (slice_get xs k ≡ Some x)
of_once [] j x is = absurd (none-some x is)
of_once (s ∷ more) zero x is = (0, is)
of_once (s ∷ more) (suc j) x is =
    let was = of_filter (λ other. not (is_symbol s other)) (once more) j x is in
    let r = of_once more was.0 x was.1 in
    (suc r.0, r.1)

-- A root: of the entry or an export, which is a function with a body.
pub record RootOf (p : ProgramData) (cycles : List (List Bool)) (d : Demand) : Type 0 where
  pub symbol : Sym
  pub func : Func
  pub stands : item_at p.modules symbol ≡ Some (item.Func func)
  pub body : IsSome func.body
  pub is : function symbol (root_pattern p cycles symbol func) ≡ d

defined_root : (p : ProgramData) (cycles : List (List Bool)) (symbol : Sym) (d : Demand) (found : Item) → item_at p.modules symbol ≡ Some found → IsDefinedFunction (item_at p.modules symbol) → by_root p cycles symbol found ≡ d → RootOf p cycles d
defined_root p cycles symbol d (item.Var var) stands defined is = absurd (subst IsDefinedFunction stands defined)
defined_root p cycles symbol d (item.Func func) stands defined is = record { symbol = symbol; func = func; stands = stands; body = subst IsDefinedFunction stands defined; is = is }

entry_defined : (p : ProgramData) → IsProgram p → IsDefinedFunction (item_at p.modules p.entry)
entry_defined p program = by (item_at p.modules p.entry) program.entry
  where
    by : (o : Option Item) → IsFunctionFor p.entry_args o → IsDefinedFunction o
    by None h = absurd h
    by (Some (item.Var var)) h = absurd h
    by (Some (item.Func func)) h = h.0

pub root_of : (p : ProgramData) (cycles : List (List Bool)) (d : Demand) → IsProgram p → Contains (roots p cycles) d → RootOf p cycles d
root_of p cycles d program c =
    let at = place_in (roots p cycles) d c in
    let was = of_filter_map (λ (s : Sym). asked_by (by_root p cycles) p (Some s)) (once (p.entry ∷ p.exports)) at.0 d at.1 in
    let asked = asked_of (by_root p cycles) p (Some was.1) d was.3 in
    let same : was.1 ≡ asked.symbol = some_is asked.resolved in
    let place = of_once (p.entry ∷ p.exports) was.0 was.1 was.2 in
    defined_root p cycles asked.symbol d asked.found asked.stands (subst (λ s. IsDefinedFunction (item_at p.modules s)) same (by place.0 was.1 place.1)) asked.is
  where
    by : (k : ℕ) (symbol : Sym) → slice_get (p.entry ∷ p.exports) k ≡ Some symbol → IsDefinedFunction (item_at p.modules symbol)
    by zero symbol is = subst (λ s. IsDefinedFunction (item_at p.modules s)) (some_is is) (entry_defined p program)
    by (suc k) symbol is = All-at (λ symbol. IsDefinedFunction (item_at p.modules symbol)) p.exports k symbol program.exports is

-- roots are demands
pub root_demand : (p : ProgramData) (cycles : List (List Bool)) (d : Demand) → IsProgram p → RootOf p cycles d → IsDemand p.modules d
root_demand p cycles d program r = subst (IsDemand p.modules) r.is (record { short = short_symbol p r.symbol (item.Func r.func) program r.stands; defined = subst (IsDefinition (function r.symbol (root_pattern p cycles r.symbol r.func))) (sym r.stands) (r.body, fits) })
  where
    entry_fits : r.symbol ≡ p.entry → AllZip IsKnownOf r.func.params p.entry_args
    entry_fits e = (subst (IsFunctionFor p.entry_args) (ap (item_at p.modules) (sym e) ∙ r.stands) program.entry).1

    by : (c s : Bool) → is_only_entered p r.symbol ≡ c → AllZip IsKnownOf r.func.params (if c then (if s then p.entry_args else all_unknown r.func) else all_unknown r.func)
    by true true e = entry_fits (sym (is_same_symbol p.entry r.symbol (and_parts (is_symbol p.entry r.symbol) (not (is_export p r.symbol) && not (is_named p r.symbol)) e).0))
    by true false e = unknown_fit r.func.params
    by false s e = unknown_fit r.func.params

    fits : AllZip IsKnownOf r.func.params (root_pattern p cycles r.symbol r.func)
    fits = by (is_only_entered p r.symbol) (is_specialised cycles r.symbol r.func) refl

-- ---- what holds of needed rows

-- What holds of the roots, and of each need of a row of which it holds, holds of each needed row.
pub needed_are : (p : ProgramData) (cycles : List (List Bool)) (good : List ℕ → Bool) → IsProgram p → ((d : Demand) → RootOf p cycles d → good (words_of d) ≡ true) → ((row need : List ℕ) → RowNeed p cycles row need → good need ≡ true)
    → (row : List ℕ) → IsNeeded (row_needs p cycles) (map words_of (roots p cycles)) row → good row ≡ true
needed_are p cycles good program first step row needed = needed good
    (all_of_every (λ row. good row ≡ true) (map words_of (roots p cycles)) (every_map (λ row. good row ≡ true) words_of (roots p cycles) (every_by (λ d. good (words_of d) ≡ true) (roots p cycles) (λ k d is. first d (root_of p cycles d program (in_place (roots p cycles) k d is))))))
    (λ other h. all_of_every (λ need. good need ≡ true) (row_needs p cycles other) (every_by (λ need. good need ≡ true) (row_needs p cycles other) (λ k need is. step other need (row_need p cycles other need program (in_place (row_needs p cycles other) k need is)))))
