-- What stands at each place of what is left.
use Rattle.std.proofs.Common.{◌≡◌, ◌∙◌, ℕ, zero, suc, ◌<◌, ◌≤◌, Bool, true, false, List, [], ◌∷◌, length, get_or, Some, None, slice_get, Contains, AllPairs, inl, inr, refl, ap, sym, subst, arith, if◌then◌else◌}
use Rattle.std.specs.List.{filter_map, cons_option, AllByRecursion}
use Rattle.std.specs.Ordering.{nat_cmp, ordering_then}
use Rattle.std.specs.declared.cmp.Ordering.{Ordering}
use Rattle.std.specs.declared.cmp.Ordering.TheVariants.{Less, Greater}
use Rattle.std.proofs.lemmas.Bool.{cases_lt}
use Rattle.std.proofs.lemmas.Bool.Decides.{nat_tests}
use Rattle.ir_syntax.specs.declared.item.Func.{Func}
use Rattle.ir_syntax.specs.declared.item.Item.{Item}
use Rattle.ir_syntax.specs.declared.item.Item.TheVariants as item
use Rattle.demands.specs.Order.{demand_order, pattern_order}
use Rattle.demands.specs.Demands.{IsFunctionFor}
use Rattle.straight_plan.specs.declared.cut.Ask.{Ask}
use Rattle.straight_plan.specs.declared.cut.Cut.{Cut}
use Rattle.straight_plan.specs.Asked.{demand_of}
use Rattle.straight_plan.specs.Left.{asks_of, place_of, same_ask, left_func, left_item, left_items}
use Rattle.straight_leave.proofs.Plans.{function_for, get_within}
use Rattle.straight_leave.proofs.Same.{ask-same, same-ask}

-- ---- lists

pub get_of_within : {X : Type 0} (xs : List X) (k : ℕ) → k < length xs → (x : X) × (slice_get xs k ≡ Some x)
get_of_within [] k h = absurd (omega arith)
get_of_within (x ∷ xs) zero h = (x, refl)
get_of_within (x ∷ xs) (suc k) h = let less : k < length xs = omega arith in get_of_within xs k less

pub get_or_of_get : {X : Type 0} (xs : List X) (k : ℕ) (x d : X) → slice_get xs k ≡ Some x → get_or xs k d ≡ x
get_or_of_get [] k x d h = cc
get_or_of_get (y ∷ ys) zero x d h = cc
get_or_of_get (y ∷ ys) (suc k) x d h = get_or_of_get ys k x d h

pub get_past : {X : Type 0} (xs : List X) (k : ℕ) → length xs ≤ k → slice_get xs k ≡ None
get_past [] k h = refl
get_past (y ∷ ys) zero h = absurd (omega arith)
get_past (y ∷ ys) (suc k) h = let less : length ys ≤ k = omega arith in get_past ys k less

pub ask_at : (plan : List Cut) (k : ℕ) (cut : Cut) → slice_get plan k ≡ Some cut → slice_get (asks_of plan) k ≡ Some cut.ask
ask_at [] k cut h = cc
ask_at (c ∷ plan) zero cut h = let same : c ≡ cut = cc in ap (λ (x : Cut). Some x.ask) same
ask_at (c ∷ plan) (suc k) cut h = ask_at plan k cut h

pub cut_at : (plan : List Cut) (k : ℕ) (ask : Ask) → slice_get (asks_of plan) k ≡ Some ask → (cut : Cut) × (slice_get plan k ≡ Some cut) × (cut.ask ≡ ask)
cut_at [] k ask h = cc
cut_at (c ∷ plan) zero ask h = let same : c.ask ≡ ask = cc in (c, refl, same)
cut_at (c ∷ plan) (suc k) ask h = cut_at plan k ask h

-- ---- places

place_here : (a : Ask) (asks : List Ask) (ask : Ask) → ((k : ℕ) → k < length asks → get_or asks k ask ≡ ask → slice_get asks (place_of asks ask) ≡ Some ask)
    → (k : ℕ) → k < suc (length asks) → get_or (a ∷ asks) k ask ≡ ask → slice_get (a ∷ asks) (place_of (a ∷ asks) ask) ≡ Some ask
place_here a asks ask rest k h e = by (same_ask a ask) refl
  where
    later : same_ask a ask ≡ false → (k : ℕ) → k < suc (length asks) → get_or (a ∷ asks) k ask ≡ ask → slice_get asks (place_of asks ask) ≡ Some ask
    later f zero h e = let t : same_ask a ask ≡ true = subst (λ (x : Ask). same_ask a x ≡ true) e (same-ask a) in cc
    later f (suc k) h e = let less : k < length asks = omega arith in rest k less e

    by : (b : Bool) → same_ask a ask ≡ b → slice_get (a ∷ asks) (place_of (a ∷ asks) ask) ≡ Some ask
    by true t = ap (λ b. slice_get (a ∷ asks) (if b then zero else suc (place_of asks ask))) t ∙ ap (λ x. Some x) (ask-same a ask t)
    by false f = ap (λ b. slice_get (a ∷ asks) (if b then zero else suc (place_of asks ask))) f ∙ later f k h e

place_by_index : (asks : List Ask) (ask : Ask) (k : ℕ) → k < length asks → get_or asks k ask ≡ ask → slice_get asks (place_of asks ask) ≡ Some ask
place_by_index [] ask k h e = absurd (omega arith)
place_by_index (a ∷ asks) ask k h e = place_here a asks ask (λ j less same. place_by_index asks ask j less same) k h e

-- what is asked for stands at its place
pub place_there : (asks : List Ask) (ask : Ask) → Contains asks ask → slice_get asks (place_of asks ask) ≡ Some ask
place_there asks ask h = place_by_index asks ask h.0 h.1 h.2

-- ---- items

items_from : List Item → List Ask → Ask → List Cut → List Item
items_from items asks start plan = filter_map (λ cut. left_item items asks start cut (slice_get items cut.ask.place)) plan

abbrev pub AllFunctions : List Item → List Cut → Type 0
AllFunctions items plan = AllByRecursion (λ cut. IsFunctionFor cut.ask.pattern (slice_get items cut.ask.place)) plan

one_item : (items : List Item) (asks : List Ask) (start : Ask) (cut : Cut) → IsFunctionFor cut.ask.pattern (slice_get items cut.ask.place)
    → (f : Func) × (slice_get items cut.ask.place ≡ Some (item.Func f)) × (left_item items asks start cut (slice_get items cut.ask.place) ≡ Some (item.Func (left_func items asks start cut f)))
one_item items asks start cut h =
    let found = function_for cut.ask.pattern (slice_get items cut.ask.place) h in
    (found.0, found.1, ap (left_item items asks start cut) found.1)

length_from : (items : List Item) (asks : List Ask) (start : Ask) (plan : List Cut) → AllFunctions items plan → length (items_from items asks start plan) ≡ length plan
unfolding items_from
length_from items asks start [] all = refl
length_from items asks start (cut ∷ plan) all =
    let one = one_item items asks start cut all.0 in
    ap (λ o. length (cons_option o (items_from items asks start plan))) one.2 ∙ ap (λ n. suc n) (length_from items asks start plan all.1)

item_from : (items : List Item) (asks : List Ask) (start : Ask) (plan : List Cut) → AllFunctions items plan → (k : ℕ) (cut : Cut) (f : Func) → slice_get plan k ≡ Some cut
    → slice_get items cut.ask.place ≡ Some (item.Func f) → slice_get (items_from items asks start plan) k ≡ Some (item.Func (left_func items asks start cut f))
unfolding items_from
item_from items asks start [] all k cut f h e = absurd (none_is h)
  where
    none_is : slice_get [] k ≡ Some cut → ⊥
    none_is g = cc
item_from items asks start (c ∷ plan) all zero cut f h e =
    let one = one_item items asks start c all.0 in
    let same : c ≡ cut = cc in
    let fs : one.0 ≡ f = inner one.0 f (sym one.1 ∙ ap (λ (x : Cut). slice_get items x.ask.place) same ∙ e) in
    ap (λ o. slice_get (cons_option o (items_from items asks start plan)) zero) one.2 ∙ (λ i. Some (item.Func (left_func items asks start (same i) (fs i))))
  where
    inner : (g h : Func) → Some (item.Func g) ≡ Some (item.Func h) → g ≡ h
    inner g h e = cc
item_from items asks start (c ∷ plan) all (suc k) cut f h e =
    let one = one_item items asks start c all.0 in
    ap (λ o. slice_get (cons_option o (items_from items asks start plan)) (suc k)) one.2 ∙ item_from items asks start plan all.1 k cut f h e

pub length-left_items : (items : List Item) (start : Ask) (plan : List Cut) → AllFunctions items plan → length (left_items items start plan) ≡ length plan
unfolding items_from
length-left_items items start plan all = length_from items (asks_of plan) start plan all

pub left_item_at : (items : List Item) (start : Ask) (plan : List Cut) → AllFunctions items plan → (k : ℕ) (cut : Cut) (f : Func) → slice_get plan k ≡ Some cut
    → slice_get items cut.ask.place ≡ Some (item.Func f) → slice_get (left_items items start plan) k ≡ Some (item.Func (left_func items (asks_of plan) start cut f))
unfolding items_from
left_item_at items start plan all k cut f h e = item_from items (asks_of plan) start plan all k cut f h e

-- ---- the order of asks

greater : (x y : ℕ) → y < x → nat_cmp x y ≡ Greater
greater x y h = grind (arith, nat_tests)

order_greater : (a b : Ask) → b.place < a.place → demand_order (demand_of a) (demand_of b) ≡ Greater
order_greater a b h = ap (λ (o : Ordering). ordering_then o (pattern_order a.pattern b.pattern)) (greater a.place b.place h)

apart_orders : Greater ≡ Less → ⊥
apart_orders e = cc

-- what stands for an earlier function stands earlier
pub earlier_place : (asks : List Ask) → AllPairs (λ a b. demand_order (demand_of a) (demand_of b) ≡ Less) asks → (i j : ℕ) (a b : Ask) → slice_get asks i ≡ Some a → slice_get asks j ≡ Some b
    → a.place < b.place → i < j
earlier_place asks ordered i j a b at_i at_j less =
    elim (cases_lt i j) [
      | inl before ↦ before
      | inr after ↦ elim (cases_lt j i) [
        | inl behind ↦
            let order = ordered j i a behind (get_within asks i a at_i) in
            let order' : demand_order (demand_of b) (demand_of a) ≡ Less =
            (λ k. demand_order (demand_of (sym (get_or_of_get asks j b a at_j) k)) (demand_of (sym (get_or_of_get asks i a a at_i) k))) ∙ order in
            absurd (apart_orders (sym (order_greater b a less) ∙ order'))
        | inr other ↦
            let same : i ≡ j = omega arith in
            let one : Some a ≡ Some b = sym at_i ∙ ap (slice_get asks) same ∙ at_j in
            let equal : a ≡ b = inner a b one in
            let places : a.place ≡ b.place = ap (λ (x : Ask). x.place) equal in
            omega arith
      ]
    ]
  where
    inner : (x y : Ask) → Some x ≡ Some y → x ≡ y
    inner x y e = cc
