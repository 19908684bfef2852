-- What is asked for in a plan of a straight module fits into rows, which are apart.
use Rattle.std.proofs.Common.{◌≡◌, ◌≢◌, ◌↔◌, ◌∙◌, ℕ, zero, suc, ◌^◌, ◌<◌, ◌≤◌, List, [], ◌∷◌, length, get_or, Option, Some, None, slice_get, All, AllPairs, IfSome, refl, ap, sym, subst, arith}
use Rattle.std.specs.declared.cmp.Ordering.TheVariants.{Less, Equal}
use Rattle.std.specs.List.{AllZip}
use Rattle.std.proofs.lemmas.List.{length-map, get_or-map}
use Rattle.std.proofs.lemmas.List.Elements.{All-head, All-tail, All-nil, All-cons}
use Rattle.ir_types.specs.declared.scalar.Known.{Known}
use Rattle.ir_syntax.specs.declared.item.Param.{Param}
use Rattle.ir_syntax.specs.declared.item.Func.{Func}
use Rattle.ir_syntax.specs.declared.item.Item.{Item}
use Rattle.ir_syntax.specs.declared.item.Item.TheVariants as item
use Rattle.ir_syntax.specs.declared.item.Module.{Module}
use Rattle.ir_syntax.specs.Straight.{IsStraight, IsStraightItem}
use Rattle.demands.specs.declared.demand.Demand.{Demand}
use Rattle.demands.specs.Order.{demand_order}
use Rattle.demands.specs.Demands.{IsFunctionFor, IsKnownOf}
use Rattle.demands.specs.Rows.{FitsRow}
use Rattle.straight_plan.specs.declared.cut.Ask.{Ask}
use Rattle.straight_plan.specs.declared.cut.Cut.{Cut}
use Rattle.straight_plan.specs.Asked.{demand_of}
use Rattle.straight_plan.specs.Left.{asks_of, IsPlan}
use Rattle.straight_leave.specs.Places.{row_of, rows_of}
use Rattle.straight_leave.proofs.Same.{RowsApart, AllFit, row-same}

pub get_within : {X : Type 0} (xs : List X) (k : ℕ) (x : X) → slice_get xs k ≡ Some x → k < length xs
get_within [] k x h = cc
get_within (y ∷ ys) zero x h = omega arith
get_within (y ∷ ys) (suc k) x h = omega (arith, get_within ys k x h)

length_by_zip : (ps : List Param) (ks : List Known) → AllZip IsKnownOf ps ks → length ps ≡ length ks
length_by_zip [] [] z = refl
length_by_zip [] (k ∷ ks) z = elim z [ ]
length_by_zip (p ∷ ps) [] z = elim z [ ]
length_by_zip (p ∷ ps) (k ∷ ks) z = ap (λ n. suc n) (length_by_zip ps ks z.1)

-- the function that a pattern is for
pub function_for : (pattern : List Known) (o : Option Item) → IsFunctionFor pattern o → (f : Func) × (o ≡ Some (item.Func f)) × (length f.params ≡ length pattern)
function_for pattern None h = elim h [ ]
function_for pattern (Some (item.Var v)) h = elim h [ ]
function_for pattern (Some (item.Func f)) h = (f, refl, length_by_zip f.params pattern h.1)

few_params : (items : List Item) (place : ℕ) (o : Option Item) (f : Func) → o ≡ Some (item.Func f) → IfSome o (IsStraightItem items place) → length f.params ≤ 32
few_params items place None f e h = cc
few_params items place (Some (item.Var v)) f e h = elim h [ ]
few_params items place (Some (item.Func g)) f e h = let same : g ≡ f = cc in subst (λ (x : Func). length x.params ≤ 32) same h.few_params

pub ask_fits : (m : Module) (ask : Ask) → IsStraight m → IsFunctionFor ask.pattern (slice_get m.items ask.place) → FitsRow (demand_of ask)
ask_fits m ask straight h =
    let found = function_for ask.pattern (slice_get m.items ask.place) h in
    let within = get_within m.items ask.place (item.Func found.0) found.1 in
    let few = few_params m.items ask.place (slice_get m.items ask.place) found.0 found.1 (straight.each ask.place) in
    record { symbol = record { short_module = omega arith; short_item = omega (arith, within, straight.few) }; items = omega (arith, few, found.2) }

all_fit : (m : Module) (plan : List Cut) → IsStraight m → All (λ cut. IsFunctionFor cut.ask.pattern (slice_get m.items cut.ask.place)) plan → AllFit plan
all_fit m [] straight h = tt
all_fit m (cut ∷ plan) straight h =
    let P : Cut → Type 0 = λ cut. IsFunctionFor cut.ask.pattern (slice_get m.items cut.ask.place) in
    (ask_fits m cut.ask straight (All-head P cut plan h), all_fit m plan straight (All-tail P cut plan h))

pub plan_fits : (m : Module) (start : Ask) (plan : List Cut) → IsStraight m → IsPlan m.items start plan → AllFit plan
plan_fits m start plan straight p = all_fit m plan straight p.functions

pub places_short : (plan : List Cut) → AllFit plan → All (λ cut. cut.ask.place < 2 ^ 32) plan
places_short [] all = All-nil (λ cut. cut.ask.place < 2 ^ 32)
places_short (cut ∷ plan) all = All-cons (λ cut. cut.ask.place < 2 ^ 32) cut plan all.0.symbol.short_item (places_short plan all.1)

fit_at : (plan : List Cut) (k : ℕ) (d : Cut) → AllFit plan → k < length plan → FitsRow (demand_of (get_or plan k d).ask)
fit_at [] k d all h = absurd (omega arith)
fit_at (cut ∷ plan) zero d all h = all.0
fit_at (cut ∷ plan) (suc k) d all h = let less : k < length plan = omega arith in fit_at plan k d all.1 less

no_cut : Cut
no_cut = record { ask = record { place = 0; pattern = [] }; facts = [] }

pub rows_apart : RowsApart → ((a b : Demand) → (demand_order a b ≡ Equal) ↔ (a ≡ b)) → (plan : List Cut) → AllFit plan
    → AllPairs (λ a b. demand_order (demand_of a) (demand_of b) ≡ Less) (asks_of plan) → AllPairs (λ a b. a ≢ b) (rows_of plan)
rows_apart apart ties plan all ordered = λ i j d less within same.
    let len : length (rows_of plan) ≡ length plan = length-map plan (λ cut. row_of cut.ask) in
    let len' : length (asks_of plan) ≡ length plan = length-map plan (λ cut. cut.ask) in
    let first : i < length plan = omega arith in
    let second : j < length plan = omega arith in
    let one = get_or plan i no_cut in
    let other = get_or plan j no_cut in
    let rows : row_of one.ask ≡ row_of other.ask = sym (get_or-map (λ cut. row_of cut.ask) plan i no_cut d first) ∙ same ∙ get_or-map (λ cut. row_of cut.ask) plan j no_cut d second in
    let asks = row-same apart one.ask other.ask (fit_at plan i no_cut all first) (fit_at plan j no_cut all second) rows in
    let tied : demand_order (demand_of one.ask) (demand_of other.ask) ≡ Equal = (ties (demand_of one.ask) (demand_of other.ask)).1 (ap demand_of asks) in
    let order = ordered i j no_cut.ask less (omega arith) in
    let order' : demand_order (demand_of one.ask) (demand_of other.ask) ≡ Less =
    (λ k. demand_order (demand_of (sym (get_or-map (λ cut. cut.ask) plan i no_cut no_cut.ask first) k)) (demand_of (sym (get_or-map (λ cut. cut.ask) plan j no_cut no_cut.ask second) k))) ∙ order in
    apart_orders (sym tied ∙ order')
  where
    apart_orders : Equal ≡ Less → ⊥
    apart_orders h = cc
