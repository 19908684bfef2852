-- Rows of a program of one module, read again.
use Rattle.std.proofs.Common.{◌≡◌, ℕ, ◌^◌, ◌<◌, ◌≤◌, List, [], ◌∷◌, Option, None, Some, length, refl, ap, sym, subst, ◌∙◌, arith}
use Rattle.std.specs.Prelude.{slice_get, option_and_then}
use Rattle.std.specs.List.{AllZip}
use Rattle.std.proofs.lemmas.List.{length-map}
use Rattle.std.proofs.lemmas.Option.{none-some, slice_get_within}
use Rattle.ir_types.specs.declared.scalar.Known.{Known}
use Rattle.ir_syntax.specs.declared.symbol.Sym.{Sym}
use Rattle.ir_syntax.specs.declared.item.Param.{Param}
use Rattle.ir_syntax.specs.declared.item.Item.{Item}
use Rattle.ir_syntax.specs.declared.item.Item.TheVariants as item
use Rattle.ir_syntax.specs.declared.item.Module.{Module}
use Rattle.demands.specs.declared.demand.Demand.{Demand}
use Rattle.demands.specs.declared.demand.Demand.TheVariants.{Func}
use Rattle.demands.specs.Order.{number_of}
use Rattle.demands.specs.Rows.{words_of}
use Rattle.demands.specs.Demands.{IsKnownOf, IsFunctionFor, item_at}
use Rattle.demands.specs.Reading.{read_row}
use Rattle.straight_plan.specs.declared.cut.Ask.{Ask}
use Rattle.straight_plan.specs.Asked.{demand_of}
use Rattle.straight_fold.specs.Items.{AreStraightItems}
use Rattle.straight_fold.specs.Calls.{row_of}
use Rattle.straight_fold.proofs.Blocks.{func-at}
use Rattle.straight_fold.proofs.Promised.{AreRead}

-- a function of the items
abbrev pub IsGood : List Item → Ask → Type 0
IsGood items ask = IsFunctionFor ask.pattern (slice_get items ask.place)

few-items : (items : List Item) (pattern : List Known) (place : ℕ) (found : Option Item) → AreStraightItems items → slice_get items place ≡ found → IsFunctionFor pattern found → (length pattern ≤ 32) × (place < 2 ^ 32)
few-items items pattern place None all e is = absurd is
few-items items pattern place (Some (item.Var v)) all e is = absurd is
few-items items pattern place (Some (item.Func f)) all e is =
    let straight = func-at items place f all e in
    (omega (arith, length-zip f.params pattern is.1, straight.few_params), omega (arith, slice_get_within items place (item.Func f) e, all.few))
  where
    length-zip : (params : List Param) (known : List Known) → AllZip IsKnownOf params known → length params ≡ length known
    length-zip [] [] h = refl
    length-zip [] (y ∷ ys) h = absurd h
    length-zip (x ∷ xs) [] h = absurd h
    length-zip (x ∷ xs) (y ∷ ys) h = omega (arith, length-zip xs ys h.1)

-- A row can hold its place and its pattern.
pub short-place : (items : List Item) (place : ℕ) (pattern : List Known) → AreStraightItems items → IsFunctionFor pattern (slice_get items place) → (length pattern ≤ 32) × (place < 2 ^ 32)
short-place items place pattern all good = few-items items pattern place (slice_get items place) all refl good

-- ---- one module

some-module : (symbol : Sym) (found : Option Module) (i : Item) → option_and_then (λ m. slice_get m.items symbol.item) found ≡ Some i → (m : Module) × (found ≡ Some m)
some-module symbol None i e = absurd (none-some i e)
some-module symbol (Some m) i e = (m, refl)

module _ (reads : AreRead) (m : Module) where
  first-module : (symbol : Sym) (i : Item) → item_at (m ∷ []) symbol ≡ Some i → symbol.module ≡ 0
  first-module symbol i e =
      let found = some-module symbol (slice_get (m ∷ []) symbol.module) i e in
      let within : symbol.module < 1 = slice_get_within (m ∷ []) symbol.module found.0 found.1 in
      omega (arith, within)

  -- ---- functions

  at-first : (symbol : Sym) → symbol.module ≡ 0 → item_at (m ∷ []) symbol ≡ slice_get m.items symbol.item
  at-first symbol e = ap (λ (k : ℕ). option_and_then (λ m. slice_get m.items symbol.item) (slice_get (m ∷ []) k)) e

  some-item : (pattern : List Known) (found : Option Item) → IsFunctionFor pattern found → (i : Item) × (found ≡ Some i)
  some-item pattern None is = absurd is
  some-item pattern (Some i) is = (i, refl)

  pub record IsRead (row : List ℕ) (symbol : Sym) (pattern : List Known) : Type 0 where
    pub good : IsGood m.items (record { place = symbol.item; pattern = pattern })
    pub row_is : row_of (record { place = symbol.item; pattern = pattern }) ≡ row
    pub demand_is : demand_of (record { place = symbol.item; pattern = pattern }) ≡ Func symbol pattern

  pub read-function : (row : List ℕ) (symbol : Sym) (pattern : List Known) → read_row (m ∷ []) row ≡ Some (Func symbol pattern) → IsRead row symbol pattern
  read-function row symbol pattern e =
      let is = reads.found (m ∷ []) row (Func symbol pattern) e in
      let i = some-item pattern (item_at (m ∷ []) symbol) is.0.defined in
      let zero_module = first-module symbol i.0 i.1 in
      let same : demand_of (record { place = symbol.item; pattern = pattern }) ≡ Func symbol pattern =
      λ l. Func (record { «module» = sym zero_module l; item = symbol.item }) pattern in
      record {
        good = subst (IsFunctionFor pattern) (at-first symbol zero_module) is.0.defined;
        row_is = ap words_of same ∙ is.1;
        demand_is = same;
      }

  -- each function that is asked for is read from its row
  pub read-ask : AreStraightItems m.items → (ask : Ask) → IsGood m.items ask → read_row (m ∷ []) (row_of ask) ≡ Some (demand_of ask)
  read-ask all ask good =
      let few = short-place m.items ask.place ask.pattern all good in
      reads.all (m ∷ []) (row_of ask) (demand_of ask) (omega (arith, few.0, length-map ask.pattern number_of))
      (record { short = record { short_module = omega arith; short_item = few.1 }; defined = good }) refl

pub demand-same : (a b : Ask) → demand_of a ≡ demand_of b → a ≡ b
demand-same a b e =
    let place : a.place ≡ b.place = place-same (record { «module» = 0; item = a.place }) (record { «module» = 0; item = b.place }) a.pattern b.pattern e in
    let pattern : a.pattern ≡ b.pattern = pattern-same (record { «module» = 0; item = a.place }) (record { «module» = 0; item = b.place }) a.pattern b.pattern e in
    λ i. record { place = place i; pattern = pattern i }
  where
    place-same : (s t : Sym) (p q : List Known) → Func s p ≡ Func t q → s.item ≡ t.item
    place-same s t p q e = let same : s ≡ t = cc in ap (λ (x : Sym). x.item) same

    pattern-same : (s t : Sym) (p q : List Known) → Func s p ≡ Func t q → p ≡ q
    pattern-same s t p q e = cc

some-same : (d e : Demand) → Some d ≡ Some e → d ≡ e
some-same d e h = cc

-- two functions with one row are one
pub ask-same : AreRead → (m : Module) → AreStraightItems m.items → (a b : Ask) → IsGood m.items a → IsGood m.items b → row_of a ≡ row_of b → a ≡ b
ask-same reads m all a b one other e =
    demand-same a b (some-same (demand_of a) (demand_of b) (sym (read-ask reads m all a one) ∙ ap (read_row (m ∷ [])) e ∙ read-ask reads m all b other))
