-- What is needed, by rows and by functions.
use Rattle.std.proofs.Common.{◌≡◌, ℕ, Bool, true, false, ◌&&◌, All, Contains, List, [], ◌∷◌, Option, None, Some, get_or, map, refl, ap, sym, subst, ◌∙◌, arith}
use Rattle.std.specs.Prelude.{slice_get}
use Rattle.std.proofs.lemmas.List.{length-map, get_or-map}
use Rattle.std.proofs.lemmas.List.Elements.{All-nil, All-cons, All-head, All-map, All-contains, Contains-get_or}
use Rattle.ir_types.specs.declared.scalar.Known.{Known}
use Rattle.ir_syntax.specs.declared.symbol.Sym.{Sym}
use Rattle.ir_syntax.specs.declared.item.Item.{Item}
use Rattle.ir_syntax.specs.declared.item.Module.{Module}
use Rattle.demands.specs.declared.demand.Demand.{Demand}
use Rattle.demands.specs.declared.demand.Demand.TheVariants.{Func, Var}
use Rattle.demands.specs.Reading.{read_row}
use Rattle.demand_core.specs.Needed.{HoldsRoots, IsClosed}
use Rattle.demand_core.specs.Needed as rows
use Rattle.straight_plan.specs.declared.fact.Fact.{Fact}
use Rattle.straight_plan.specs.declared.cut.Ask.{Ask}
use Rattle.straight_plan.specs.Asked.{insts_at, needs, Needs, IsNeeded}
use Rattle.straight_fold.specs.Items.{AreStraightItems}
use Rattle.straight_fold.specs.Facts.{facts_of}
use Rattle.straight_fold.specs.Calls.{row_of}
use Rattle.straight_fold.specs.Expansion.{needs_at, row_needs}
use Rattle.straight_fold.proofs.Least.{least-is-one}
use Rattle.straight_fold.proofs.Blocks.{folded-at}
use Rattle.straight_fold.proofs.Asking.{needed-rows}
use Rattle.straight_fold.proofs.Promised.{AreRead}
use Rattle.straight_fold.proofs.Reading.{IsGood, read-ask, read-function}
use Rattle.straight_fold.proofs.Suiting.{needs-good, is_good, both, join, function-from, function-to}

-- the least facts of what is asked for, and what is needed by them
abbrev pub facts_at : List Item → Ask → List Fact
facts_at items ask = facts_of ask.pattern (insts_at (slice_get items ask.place))

abbrev pub needed_by : List Item → Ask → List Ask
needed_by items ask = needs items ask (facts_at items ask)

module _ (items : List Item) (all : AreStraightItems items) where
  pub needs-to : (one other : Ask) → Needs items one other → Contains (needed_by items one) other
  needs-to one other n =
      let same : n.0 ≡ facts_at items one = least-is-one one.pattern (insts_at (slice_get items one.place)) n.0 (facts_at items one) n.1 (folded-at items all one.place one.pattern) in
      subst (λ (facts : List Fact). Contains (needs items one facts) other) same n.2

  pub needs-from : (one other : Ask) → Contains (needed_by items one) other → Needs items one other
  needs-from one other there = (facts_at items one, folded-at items all one.place one.pattern, there)

pub Contains-map : {X Y : Type 0} (f : X → Y) (xs : List X) (x : X) → Contains xs x → Contains (map f xs) (f x)
Contains-map f xs x at = (at.0, omega (arith, length-map xs f, at.1), get_or-map f xs at.0 x (f x) at.1 ∙ ap f at.2)

-- ---- a set of functions as a set of rows

abbrev by_read : (Ask → Bool) → Option Demand → Bool
by_read set None = false
by_read set (Some (Var symbol)) = false
by_read set (Some (Func symbol pattern)) = set (record { place = symbol.item; pattern = pattern })

abbrev row_set : Module → (Ask → Bool) → List ℕ → Bool
row_set m set row = by_read set (read_row (m ∷ []) row)

record IsInSet (m : Module) (set : Ask → Bool) (row : List ℕ) : Type 0 where
  symbol : Sym
  pattern : List Known
  read : read_row (m ∷ []) row ≡ Some (Func symbol pattern)
  has : set (record { place = symbol.item; pattern = pattern }) ≡ true

in-set : (m : Module) (set : Ask → Bool) (row : List ℕ) (found : Option Demand) → read_row (m ∷ []) row ≡ found → by_read set found ≡ true → IsInSet m set row
in-set m set row None e h = absurd (cc)
in-set m set row (Some (Var symbol)) e h = absurd (cc)
in-set m set row (Some (Func symbol pattern)) e h = record { symbol = symbol; pattern = pattern; read = e; has = h }

-- a needed row is that of a needed function
pub record IsNeededAsk (items : List Item) (start : Ask) (row : List ℕ) : Type 0 where
  pub ask : Ask
  pub good : IsGood items ask
  pub row_is : row_of ask ≡ row
  pub needed : IsNeeded items start ask

-- a needed function is one of the items
module _ (m : Module) (all : AreStraightItems m.items) (start : Ask) (good : IsGood m.items start) where
  pub ask-good : (ask : Ask) → IsNeeded m.items start ask → IsGood m.items ask
  ask-good ask needed =
      function-from ask.pattern (slice_get m.items ask.place)
      (needed (is_good m.items) (function-to start.pattern (slice_get m.items start.place) good)
      (λ one other is n.
      let one_good = function-from one.pattern (slice_get m.items one.place) is in
      let other_good = All-contains (IsGood m.items) (needed_by m.items one) other (needs-good m.items one all one_good) (needs-to m.items all one other n) in
      function-to other.pattern (slice_get m.items other.place) other_good))

module _ (reads : AreRead) (m : Module) (all : AreStraightItems m.items) where
  row_set-of : (set : Ask → Bool) (ask : Ask) → IsGood m.items ask → row_set m set (row_of ask) ≡ set ask
  row_set-of set ask good = ap (by_read set) (read-ask reads m all ask good)

  pub row-needs : (ask : Ask) → IsGood m.items ask → row_needs (m ∷ []) (row_of ask) ≡ map row_of (needed_by m.items ask)
  row-needs ask good = ap (needs_at m.items) (read-ask reads m all ask good) ∙ sym (needed-rows m.items ask (facts_at m.items ask))

  closed-set : (set : Ask → Bool) → ((one other : Ask) → set one ≡ true → Needs m.items one other → set other ≡ true) → IsClosed (row_needs (m ∷ [])) (row_set m set)
  closed-set set closed row is =
      let w = in-set m set row (read_row (m ∷ []) row) refl is in
      let ask : Ask = record { place = w.symbol.item; pattern = w.pattern } in
      let r = read-function reads m row w.symbol w.pattern w.read in
      let needs_are : row_needs (m ∷ []) row ≡ map row_of (needed_by m.items ask) = ap (row_needs (m ∷ [])) (sym r.row_is) ∙ row-needs ask r.good in
      subst (All (λ need. row_set m set need ≡ true)) (sym needs_are)
      (All-map (λ need. row_set m set need ≡ true) row_of (needed_by m.items ask)
      (λ k d within.
      let need = get_or (needed_by m.items ask) k d in
      let good : IsGood m.items need = needs-good m.items ask all r.good k d within in
      row_set-of set need good ∙ closed ask need w.has (needs-from m.items all ask need (Contains-get_or (needed_by m.items ask) k d within))))

  module _ (start : Ask) (good : IsGood m.items start) where
    roots-in : (set : Ask → Bool) → set start ≡ true → HoldsRoots (row_of start ∷ []) (row_set m set)
    roots-in set has =
        All-cons (λ row. row_set m set row ≡ true) (row_of start) [] (row_set-of set start good ∙ has) (All-nil (λ row. row_set m set row ≡ true))

    pub row-needed : (row : List ℕ) → rows.IsNeeded (row_needs (m ∷ [])) (row_of start ∷ []) row → IsNeededAsk m.items start row
    row-needed row needed =
        let w = in-set m (λ ask. true) row (read_row (m ∷ []) row) refl
        (needed (row_set m (λ ask. true)) (roots-in (λ ask. true) refl) (closed-set (λ ask. true) (λ one other has n. refl))) in
        let r = read-function reads m row w.symbol w.pattern w.read in
        record {
          ask = record { place = w.symbol.item; pattern = w.pattern };
          good = r.good;
          row_is = r.row_is;
          needed = λ set has closed. sym (ap (by_read set) w.read) ∙ needed (row_set m set) (roots-in set has) (closed-set set closed);
        }

    -- the row of a needed function is needed
    pub ask-needed : (ask : Ask) → IsNeeded m.items start ask → rows.IsNeeded (row_needs (m ∷ [])) (row_of start ∷ []) (row_of ask)
    ask-needed ask needed set holds closed =
        (both (is_good m.items ask) (set (row_of ask))
        (needed (λ one. is_good m.items one && set (row_of one))
        (join (is_good m.items start) (set (row_of start)) (function-to start.pattern (slice_get m.items start.place) good) (All-head (λ row. set row ≡ true) (row_of start) [] holds))
        (λ one other is n.
        let h = both (is_good m.items one) (set (row_of one)) is in
        let one_good = function-from one.pattern (slice_get m.items one.place) h.0 in
        let there = needs-to m.items all one other n in
        let other_good = All-contains (IsGood m.items) (needed_by m.items one) other (needs-good m.items one all one_good) there in
        let all_in : All (λ row. set row ≡ true) (map row_of (needed_by m.items one)) = subst (All (λ row. set row ≡ true)) (row-needs one one_good) (closed (row_of one) h.1) in
        join (is_good m.items other) (set (row_of other)) (function-to other.pattern (slice_get m.items other.place) other_good)
        (All-contains (λ row. set row ≡ true) (map row_of (needed_by m.items one)) (row_of other) all_in (Contains-map row_of (needed_by m.items one) other there))))).1
