-- Laws of least plans.
use Rattle.std.proofs.Common.{◌≡◌, ◌≢◌, ◌↔◌, ℕ, zero, suc, ◌<◌, ◌≤◌, Bool, true, false, ◌||◌, All, Contains, List, [], ◌∷◌, Option, None, Some, length, get_or, map, flat_map, refl, ap, sym, subst, ◌∙◌, arith, eq-eqb, if◌then◌else◌}
use Rattle.std.specs.Prelude.{slice_get, ◌==◌, not}
use Rattle.std.specs.List.{list_any}
use Rattle.std.specs.Ordering.{is_eq}
use Rattle.std.specs.declared.cmp.Ordering.{Ordering}
use Rattle.std.specs.declared.cmp.Ordering.TheVariants.{Less, Equal, Greater}
use Rattle.std.proofs.lemmas.List.{length-map}
use Rattle.std.proofs.lemmas.List.Elements.{All-nil, All-cons, All-head, All-tail, All-append, All-contains, Contains-get_or}
use Rattle.ir_types.specs.declared.scalar.Known.{Known}
use Rattle.ir_syntax.specs.declared.body.Inst.{Inst}
use Rattle.ir_syntax.specs.declared.body.Inst.TheVariants as inst
use Rattle.ir_syntax.specs.declared.item.Item.{Item}
use Rattle.ir_syntax.specs.declared.item.Module.{Module}
use Rattle.ir_syntax.specs.Straight.{IsStraight}
use Rattle.demands.specs.Names.{are_unknown}
use Rattle.demands.specs.Demands.{IsFunctionFor}
use Rattle.straight_plan.specs.declared.fact.Fact.{Fact}
use Rattle.straight_plan.specs.declared.cut.Ask.{Ask}
use Rattle.straight_plan.specs.declared.cut.Cut.{Cut}
use Rattle.straight_plan.specs.Folding.{IsLeastClosed}
use Rattle.straight_plan.specs.Asked.{asked, asked_at, demand_of, forgotten, insts_at, is_copied, is_named, names_place, needs, written_callee, Needs, IsNeeded}
use Rattle.straight_plan.specs.Left.{asks_of, size_of, AreTooMany, IsLeastPlan, IsPlan, IsPlanned, IsTooMuch}
use Rattle.straight_fold.specs.Calls.{arg_value}
use Rattle.straight_fold.proofs.Least.{least-is-one}
use Rattle.straight_fold.proofs.Asking.{call_asks, needs-are}
use Rattle.straight_fold.proofs.Needed.{Contains-map, ask-good}
use Rattle.straight_fold.proofs.Ordered.{ordered-same, pairs-rise}
use Rattle.demands.specs.Order.{demand_order}
use Rattle.straight_fold.proofs.Promised.{FewStandThere, LittleStandsThere, TiesItself}
use Rattle.straight_fold.proofs.Reading.{demand-same}
use Rattle.straight_fold.proofs.Pieces.{straight-items}
use Rattle.straight_fold.proofs.Plans.{image-of, pairs-back}

-- ---- one plan

IsFolded : List Item → Cut → Type 0
IsFolded items cut = IsLeastClosed cut.ask.pattern (insts_at (slice_get items cut.ask.place)) cut.facts

cut-same : (items : List Item) (one other : Cut) → one.ask ≡ other.ask → IsFolded items one → IsFolded items other → one ≡ other
unfolding IsFolded
cut-same items one other same folded other_folded =
    let moved : IsLeastClosed other.ask.pattern (insts_at (slice_get items other.ask.place)) one.facts =
    subst (λ (ask : Ask). IsLeastClosed ask.pattern (insts_at (slice_get items ask.place)) one.facts) same folded in
    let facts = least-is-one other.ask.pattern (insts_at (slice_get items other.ask.place)) one.facts other.facts moved other_folded in
    λ i. record { ask = same i; facts = facts i }

heads : (a b : Ask) (xs ys : List Ask) → a ∷ xs ≡ b ∷ ys → a ≡ b
heads a b xs ys e = cc

tails : (a b : Ask) (xs ys : List Ask) → a ∷ xs ≡ b ∷ ys → xs ≡ ys
tails a b xs ys e = cc

cuts-same : (items : List Item) (one other : List Cut) → asks_of one ≡ asks_of other → All (IsFolded items) one → All (IsFolded items) other → one ≡ other
cuts-same items [] [] e folded other_folded = refl
cuts-same items [] (d ∷ ds) e folded other_folded = absurd (cc)
cuts-same items (c ∷ cs) [] e folded other_folded = absurd (cc)
cuts-same items (c ∷ cs) (d ∷ ds) e folded other_folded =
    let first = cut-same items c d (heads c.ask d.ask (asks_of cs) (asks_of ds) e) (All-head (IsFolded items) c cs folded) (All-head (IsFolded items) d ds other_folded) in
    let rest = cuts-same items cs ds (tails c.ask d.ask (asks_of cs) (asks_of ds) e) (All-tail (IsFolded items) c cs folded) (All-tail (IsFolded items) d ds other_folded) in
    λ i. first i ∷ rest i

all-there : (items : List Item) (start : Ask) (one other : List Cut) → IsLeastPlan items start one → IsLeastPlan items start other → All (Contains (asks_of other)) (asks_of one)
all-there items start one other is is_other k d within =
    let ask = get_or (asks_of one) k d in
    (is_other.exact ask).1 ((is.exact ask).0 (Contains-get_or (asks_of one) k d within))

pub plans-same : (items : List Item) (start : Ask) (one other : List Cut) → IsLeastPlan items start one → IsLeastPlan items start other → one ≡ other
unfolding IsFolded
plans-same items start one other is is_other =
    cuts-same items one other
    (ordered-same demand_of (asks_of one) (asks_of other) (pairs-rise demand_of (asks_of one) is.ordered) (pairs-rise demand_of (asks_of other) is_other.ordered)
    (all-there items start one other is is_other) (all-there items start other one is_other is))
    is.folded is_other.folded

-- ---- limits

few-needed : FewStandThere Ask → (items : List Item) (start : Ask) (cuts : List Cut) → ((ask : Ask) → Contains (asks_of cuts) ask ↔ IsNeeded items start ask) → length cuts ≤ 65536 → AreTooMany items start → ⊥
few-needed inside_few items start cuts exact few many =
    let inside = inside_few many.asks (asks_of cuts) many.distinct (λ k d within. (exact (get_or many.asks k d)).1 (many.needed k d within)) in
    omega (arith, inside, length-map cuts (λ cut. cut.ask), many.many)

pub not-many : FewStandThere Ask → (items : List Item) (start : Ask) (plan : List Cut) → IsPlanned items start plan → AreTooMany items start → ⊥
not-many inside_few items start plan is many = few-needed inside_few items start plan is.least.exact is.few many

pub not-both : FewStandThere Ask → (items : List Item) (start : Ask) → IsTooMuch items start → AreTooMany items start → ⊥
not-both inside_few items start much many = few-needed inside_few items start much.cuts much.exact much.few many

-- a cut of what is needed stands in the least plan
cut-there : (items : List Item) (start : Ask) (plan : List Cut) (cut : Cut) → IsLeastPlan items start plan → IsFolded items cut → IsNeeded items start cut.ask → Contains plan cut
unfolding IsFolded
cut-there items start plan cut is folded needed =
    let at = image-of (λ cut. cut.ask) plan cut.ask ((is.exact cut.ask).1 needed) in
    subst (Contains plan) (cut-same items at.from cut at.image (All-contains (IsFolded items) plan at.from is.folded at.there) folded) at.there

pub not-much : LittleStandsThere Cut → (items : List Item) (start : Ask) (plan : List Cut) → IsPlanned items start plan → IsTooMuch items start → ⊥
unfolding IsFolded
not-much inside_little items start plan is much =
    let apart = pairs-back (λ cut. cut.ask) (λ a b. a ≢ b) much.cuts much.distinct in
    let there : All (Contains plan) much.cuts =
    λ k d within. let cut = get_or much.cuts k d in
    cut-there items start plan cut is.least (much.folded k d within) ((much.exact cut.ask).0 (Contains-map (λ cut. cut.ask) much.cuts cut (Contains-get_or much.cuts k d within))) in
    let inside = inside_little (size_of items) much.cuts plan (λ i j d before within e. apart i j d before within (ap (λ (cut : Cut). cut.ask) e)) there in
    omega (arith, inside, is.short, much.much)

-- ---- what isn't copied is asked for with nothing known

abbrev copied_or_unknown : List Item → Ask → Bool
copied_or_unknown items ask = is_copied items ask.place || are_unknown ask.pattern

pub forgotten-unknown : (pattern : List Known) → are_unknown (forgotten pattern) ≡ true
forgotten-unknown [] = refl
forgotten-unknown (v ∷ vs) = forgotten-unknown vs

asked-copied : (b : Bool) (pattern : List Known) → (b || are_unknown (if b then pattern else forgotten pattern)) ≡ true
asked-copied true pattern = refl
asked-copied false pattern = forgotten-unknown pattern

at-copied : (items : List Item) (place : Option ℕ) (pattern : List Known) → All (λ ask. copied_or_unknown items ask ≡ true) (asked_at items place pattern)
at-copied items None pattern = All-nil (λ ask. copied_or_unknown items ask ≡ true)
at-copied items (Some place) pattern =
    All-cons (λ ask. copied_or_unknown items ask ≡ true) (asked items place pattern) [] (asked-copied (is_copied items place) pattern) (All-nil (λ ask. copied_or_unknown items ask ≡ true))

call-copied : (items : List Item) (pattern : List Known) (facts : List Fact) (i : Inst) → All (λ ask. copied_or_unknown items ask ≡ true) (call_asks items pattern facts i)
call-copied items pattern facts (inst.Bin op flags ty a b) = All-nil (λ ask. copied_or_unknown items ask ≡ true)
call-copied items pattern facts (inst.Icmp pred ty a b) = All-nil (λ ask. copied_or_unknown items ask ≡ true)
call-copied items pattern facts (inst.Select ty c a b) = All-nil (λ ask. copied_or_unknown items ask ≡ true)
call-copied items pattern facts (inst.Cast op nneg f to a) = All-nil (λ ask. copied_or_unknown items ask ≡ true)
call-copied items pattern facts (inst.Alloca ty count align) = All-nil (λ ask. copied_or_unknown items ask ≡ true)
call-copied items pattern facts (inst.Load ty at align) = All-nil (λ ask. copied_or_unknown items ask ≡ true)
call-copied items pattern facts (inst.Store ty value at align) = All-nil (λ ask. copied_or_unknown items ask ≡ true)
call-copied items pattern facts (inst.Gep inbounds ty base indices) = All-nil (λ ask. copied_or_unknown items ask ≡ true)
call-copied items pattern facts (inst.Call fn_ty ret_ext callee args) = at-copied items (written_callee callee) (map (arg_value pattern facts) args)

calls-copied : (items : List Item) (pattern : List Known) (facts : List Fact) (insts : List Inst) → All (λ ask. copied_or_unknown items ask ≡ true) (flat_map (call_asks items pattern facts) insts)
calls-copied items pattern facts [] = All-nil (λ ask. copied_or_unknown items ask ≡ true)
calls-copied items pattern facts (i ∷ is) =
    All-append (λ ask. copied_or_unknown items ask ≡ true) (call_asks items pattern facts i) (flat_map (call_asks items pattern facts) is) (call-copied items pattern facts i) (calls-copied items pattern facts is)

needs-copied : (items : List Item) (one other : Ask) → Needs items one other → copied_or_unknown items other ≡ true
needs-copied items one other n =
    All-contains (λ ask. copied_or_unknown items ask ≡ true) (needs items one n.0) other
    (subst (All (λ ask. copied_or_unknown items ask ≡ true)) (sym (needs-are items one n.0)) (calls-copied items one.pattern n.0 (insts_at (slice_get items one.place))))
    n.2

or-from : (a b : Bool) → (a ≡ false → b ≡ true) → (a || b) ≡ true
or-from true b h = refl
or-from false b h = h refl

or-to : (a b : Bool) → (a || b) ≡ true → a ≡ false → b ≡ true
or-to true b e h = absurd (cc)
or-to false b e h = e

-- ---- what no body names is asked for by none

or-false : (a b : Bool) → (a || b) ≡ false → (a ≡ false) × (b ≡ false)
or-false true b e = absurd (cc)
or-false false b e = (refl, e)

at-unnamed : (items : List Item) (place : ℕ) (callee : Option ℕ) (pattern : List Known) → elim callee [ None ↦ false | Some other ↦ other == place ] ≡ false → All (λ ask. (ask.place == place) ≡ false) (asked_at items callee pattern)
at-unnamed items place None pattern e = All-nil (λ ask. (ask.place == place) ≡ false)
at-unnamed items place (Some other) pattern e = All-cons (λ ask. (ask.place == place) ≡ false) (asked items other pattern) [] e (All-nil (λ ask. (ask.place == place) ≡ false))

call-unnamed : (items : List Item) (place : ℕ) (pattern : List Known) (facts : List Fact) (i : Inst) → names_place place i ≡ false → All (λ ask. (ask.place == place) ≡ false) (call_asks items pattern facts i)
call-unnamed items place pattern facts (inst.Bin op flags ty a b) e = All-nil (λ ask. (ask.place == place) ≡ false)
call-unnamed items place pattern facts (inst.Icmp pred ty a b) e = All-nil (λ ask. (ask.place == place) ≡ false)
call-unnamed items place pattern facts (inst.Select ty c a b) e = All-nil (λ ask. (ask.place == place) ≡ false)
call-unnamed items place pattern facts (inst.Cast op nneg f to a) e = All-nil (λ ask. (ask.place == place) ≡ false)
call-unnamed items place pattern facts (inst.Alloca ty count align) e = All-nil (λ ask. (ask.place == place) ≡ false)
call-unnamed items place pattern facts (inst.Load ty at align) e = All-nil (λ ask. (ask.place == place) ≡ false)
call-unnamed items place pattern facts (inst.Store ty value at align) e = All-nil (λ ask. (ask.place == place) ≡ false)
call-unnamed items place pattern facts (inst.Gep inbounds ty base indices) e = All-nil (λ ask. (ask.place == place) ≡ false)
call-unnamed items place pattern facts (inst.Call fn_ty ret_ext callee args) e = at-unnamed items place (written_callee callee) (map (arg_value pattern facts) args) e

calls-unnamed : (items : List Item) (place : ℕ) (pattern : List Known) (facts : List Fact) (insts : List Inst) → list_any (names_place place) insts ≡ false → All (λ ask. (ask.place == place) ≡ false) (flat_map (call_asks items pattern facts) insts)
calls-unnamed items place pattern facts [] e = All-nil (λ ask. (ask.place == place) ≡ false)
calls-unnamed items place pattern facts (i ∷ is) e =
    let h = or-false (names_place place i) (list_any (names_place place) is) e in
    All-append (λ ask. (ask.place == place) ≡ false) (call_asks items pattern facts i) (flat_map (call_asks items pattern facts) is) (call-unnamed items place pattern facts i h.0) (calls-unnamed items place pattern facts is h.1)

block-unnamed : (items : List Item) (place k : ℕ) → is_named items place ≡ false → list_any (names_place place) (insts_at (slice_get items k)) ≡ false
block-unnamed [] place zero e = refl
block-unnamed [] place (suc k) e = refl
block-unnamed (i ∷ is) place zero e = (or-false (list_any (names_place place) (insts_at (Some i))) (is_named is place) e).0
block-unnamed (i ∷ is) place (suc k) e = block-unnamed is place k (or-false (list_any (names_place place) (insts_at (Some i))) (is_named is place) e).1

needs-unnamed : (items : List Item) (place : ℕ) → is_named items place ≡ false → (one other : Ask) → Needs items one other → (other.place == place) ≡ false
needs-unnamed items place e one other n =
    All-contains (λ ask. (ask.place == place) ≡ false) (needs items one n.0) other
    (subst (All (λ ask. (ask.place == place) ≡ false)) (sym (needs-are items one n.0)) (calls-unnamed items place one.pattern n.0 (insts_at (slice_get items one.place)) (block-unnamed items place one.place e)))
    n.2

-- the start, or at another place
abbrev start_or_elsewhere : Ask → Ask → Bool
start_or_elsewhere start ask = is_eq (demand_order (demand_of ask) (demand_of start)) || not (ask.place == start.place)

order-is_eq : (o : Ordering) → is_eq o ≡ true → o ≡ Equal
order-is_eq Less e = absurd (cc)
order-is_eq Equal e = refl
order-is_eq Greater e = absurd (cc)

itself : TiesItself → (start : Ask) → start_or_elsewhere start start ≡ true
itself ties start = ap (λ (o : Ordering). is_eq o || not (start.place == start.place)) ((ties (demand_of start) (demand_of start)).1 refl)

elsewhere : (start ask : Ask) → (ask.place == start.place) ≡ false → start_or_elsewhere start ask ≡ true
elsewhere start ask e = either (is_eq (demand_order (demand_of ask) (demand_of start))) (ask.place == start.place) e
  where
    either : (a b : Bool) → b ≡ false → (a || not b) ≡ true
    either true b e = refl
    either false b e = ap not e

only-start : TiesItself → (start ask : Ask) → start_or_elsewhere start ask ≡ true → ask.place ≡ start.place → ask ≡ start
only-start ties start ask e same = by (is_eq (demand_order (demand_of ask) (demand_of start))) refl
  where
    by : (b : Bool) → is_eq (demand_order (demand_of ask) (demand_of start)) ≡ b → ask ≡ start
    by true h = demand-same ask start ((ties (demand_of ask) (demand_of start)).0 (order-is_eq (demand_order (demand_of ask) (demand_of start)) h))
    by false h =
        let here : (ask.place == start.place) ≡ true = eq-eqb ask.place start.place same in
        let clash : (false || not true) ≡ true = (λ i. sym h i || not (sym here i)) ∙ e in
        absurd (cc)

-- ---- the least plan is a plan

at-ask : (cuts : List Cut) (k : ℕ) (d : Cut) → k < length cuts → Contains (asks_of cuts) (get_or cuts k d).ask
at-ask cuts k d within = Contains-map (λ cut. cut.ask) cuts (get_or cuts k d) (Contains-get_or cuts k d within)

needed : (items : List Item) (start : Ask) (plan : List Cut) → IsLeastPlan items start plan → (k : ℕ) (d : Cut) → k < length plan → IsNeeded items start (get_or plan k d).ask
needed items start plan least k d within = (least.exact (get_or plan k d).ask).0 (at-ask plan k d within)

pub is-plan : TiesItself → (m : Module) (start : Ask) (plan : List Cut) → IsStraight m → IsFunctionFor start.pattern (slice_get m.items start.place)
    → (is_copied m.items start.place ≡ false → are_unknown start.pattern ≡ true) → (are_unknown start.pattern ≡ false → is_named m.items start.place ≡ false) → IsLeastPlan m.items start plan → IsPlan m.items start plan
is-plan ties m start plan straight good copied unnamed least = record {
  has_start = (least.exact start).1 (λ set has closed. has);
  folded = λ k d within. (least.folded k d within).closed;
  has_needs = λ k d within j e inside.
      let cut = get_or plan k d in
      let need = get_or (needs m.items cut.ask cut.facts) j e in
      (least.exact need).1 (λ set has closed.
      closed cut.ask need (needed m.items start plan least k d within set has closed)
      (cut.facts, least.folded k d within, Contains-get_or (needs m.items cut.ask cut.facts) j e inside));
  functions = λ k d within. ask-good m (straight-items m straight) start good (get_or plan k d).ask (needed m.items start plan least k d within);
  copied = λ k d within.
      let ask = (get_or plan k d).ask in
      or-to (is_copied m.items ask.place) (are_unknown ask.pattern)
      (needed m.items start plan least k d within (copied_or_unknown m.items) (or-from (is_copied m.items start.place) (are_unknown start.pattern) copied) (λ one other is n. needs-copied m.items one other n));
  alone = λ known k d within same.
      let ask = (get_or plan k d).ask in
      only-start ties start ask
      (needed m.items start plan least k d within (start_or_elsewhere start) (itself ties start) (λ one other is n. elsewhere start other (needs-unnamed m.items start.place (unnamed known) one other n)))
      same;
  ordered = least.ordered;
}
