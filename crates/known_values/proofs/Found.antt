-- A reading that is found for a demand is one of the readings, and of that demand.
use Rattle.std.proofs.Common.{◌≡◌, ◌∙◌, ◌==◌, Bool, true, false, List, [], ◌∷◌, All, Option, Some, None, option_and_then, slice_get, refl, sym, ap, subst, if◌then◌else◌}
use Rattle.std.proofs.lemmas.Bool.{and_parts, eqb-true}
use Rattle.std.proofs.lemmas.List.Elements.{All-head, All-tail}
use Rattle.ir_types.specs.declared.scalar.Known.{Known}
use Rattle.ir_syntax.specs.declared.symbol.Sym.{Sym}
use Rattle.ir_syntax.specs.declared.item.Item.{Item}
use Rattle.ir_syntax.specs.declared.item.Item.TheVariants as item
use Rattle.ir_syntax.specs.declared.item.Module.{Module}
use Rattle.ir_syntax.specs.Programs.{ProgramData}
use Rattle.ir_syntax.specs.Symbols.{item_at}
use Rattle.ir_steps.specs.States.{Frame}
use Rattle.fold_facts.specs.Facts.{is_same}
use Rattle.fold_facts.proofs.Lists.{some_is}
use Rattle.fold_facts.proofs.Orders.{same_is}
use Rattle.demands.specs.declared.demand.Demand.{Demand}
use Rattle.demands.specs.declared.demand.Demand.TheVariants.{Func as function, Var as variable}
use Rattle.interface.specs.Asked.{asked_by}
use Rattle.interface.specs.Roots.{is_symbol}
use Rattle.known_values.specs.Readings.{Reading, IsReading, demand_of, same_pattern, same_demand, found}
use Rattle.known_values.specs.Frames.{IsFrameOf, IsFrameAs}
use Rattle.known_values.proofs.Giving.{map_some}

-- ---- demands that are one

pub symbol_is : (a b : Sym) → is_symbol a b ≡ true → a ≡ b
symbol_is a b e =
    let h = and_parts (a.module == b.module) (a.item == b.item) e in
    ap (λ m. record { «module» = m; item = a.item }) (eqb-true a.module b.module h.0) ∙ ap (λ i. record { «module» = b.module; item = i }) (eqb-true a.item b.item h.1)

pattern_is : (a b : List Known) → same_pattern a b ≡ true → a ≡ b
pattern_is [] [] e = refl
pattern_is [] (k ∷ ks) e = cc
pattern_is (j ∷ js) [] e = cc
pattern_is (j ∷ js) (k ∷ ks) e =
    let h = and_parts (is_same j k) (same_pattern js ks) e in
    let first = same_is j k h.0 in
    let rest = pattern_is js ks h.1 in
    cc

demand_is : (a b : Demand) → same_demand a b ≡ true → a ≡ b
demand_is (variable a) (variable b) e = ap variable (symbol_is a b e)
demand_is (variable a) (function b pattern) e = cc
demand_is (function a pattern) (variable b) e = cc
demand_is (function a pattern) (function b other) e =
    let h = and_parts (is_symbol a b) (same_pattern pattern other) e in
    let first = symbol_is a b h.0 in
    let rest = pattern_is pattern other h.1 in
    cc

found_is : (P : Reading → Type 0) (readings : List Reading) (d : Demand) (r : Reading) → All P readings → found readings d ≡ Some r → P r × (demand_of r ≡ d)
found_is P [] d r all e = cc
found_is P (x ∷ more) d r all e = of (same_demand (demand_of x) d) refl e (λ is. found_is P more d r (All-tail P x more all) is)
  where
    of : (b : Bool) → same_demand (demand_of x) d ≡ b → (if b then Some x else found more d) ≡ Some r → (found more d ≡ Some r → P r × (demand_of r ≡ d)) → P r × (demand_of r ≡ d)
    of true same is rest =
        let one : ◌≡◌ {A = Reading} x r = some_is is in
        (subst P one (All-head P x more all), ap demand_of (sym one) ∙ demand_is (demand_of x) d same)
    of false other is rest = rest is

-- ---- the call is as is read, where it is by each reading of what is asked for

found_as : (p : ProgramData) (readings : List Reading) (d : Demand) (g : Frame) (o : Option Reading) → All (IsReading p) readings → found readings d ≡ o
    → ((r : Reading) → IsReading p r → demand_of r ≡ d → IsFrameOf r g) → IsFrameAs p o g
found_as p readings d g None all e h = tt
found_as p readings d g (Some r) all e h = let one = found_is (IsReading p) readings d r all e in (one.0, h r one.0 one.1)

pub read_as : (p : ProgramData) (readings : List Reading) (o : Option Demand) (g : Frame) → All (IsReading p) readings
    → ((r : Reading) → IsReading p r → o ≡ Some (demand_of r) → IsFrameOf r g) → IsFrameAs p (option_and_then (found readings) o) g
read_as p readings None g all h = tt
read_as p readings (Some d) g all h = found_as p readings d g (found readings d) all refl (λ r reading is. h r reading (ap Some (sym is)))

-- ---- what is asked for

-- A demand that is asked for is of a symbol that was found, and of its item.
pub record IsAskedFor (ask : Sym → Item → Demand) (p : ProgramData) (o : Option Sym) (d : Demand) : Type 0 where
  pub symbol : Sym
  pub is : o ≡ Some symbol
  pub item : Item
  pub stands : item_at p.modules symbol ≡ Some item
  pub asked : ask symbol item ≡ d

pub asked_for : (ask : Sym → Item → Demand) (p : ProgramData) (o : Option Sym) (d : Demand) → asked_by ask p o ≡ Some d → IsAskedFor ask p o d
asked_for ask p None d e = cc
asked_for ask p (Some symbol) d e =
    let h = map_some (ask symbol) (item_at p.modules symbol) d e in
    record { symbol = symbol; is = refl; item = h.0; stands = h.1; asked = h.2 }

-- the item of a reading
pub reading_item : (p : ProgramData) (r : Reading) → IsReading p r → item_at p.modules r.symbol ≡ Some (item.Func r.func)
reading_item p r reading = ap (option_and_then (λ (m : Module). slice_get m.items r.symbol.item)) reading.stands ∙ reading.is_function
