-- What an entry is asked for with.
use Rattle.std.proofs.Common.{◌≡◌, ℕ, Bool, true, false, List, [], ◌∷◌, Option, None, Some, refl, sym, ◌∙◌, if◌then◌else◌}
use Rattle.std.specs.Prelude.{slice_get}
use Rattle.std.specs.List.{AllZip}
use Rattle.ir_types.specs.declared.scalar.Known.{Known}
use Rattle.ir_syntax.specs.declared.item.Item.{Item}
use Rattle.ir_syntax.specs.declared.item.Item.TheVariants as item
use Rattle.ir_syntax.specs.declared.item.Param.{Param}
use Rattle.demands.specs.Names.{are_unknown}
use Rattle.demands.specs.Demands.{IsFunctionFor, IsKnownOf}
use Rattle.straight_plan.specs.declared.cut.Ask.{Ask}
use Rattle.straight_plan.specs.Asked.{forgotten, is_copied, is_named, root}
use Rattle.straight_fold.proofs.Reading.{IsGood}
use Rattle.straight_fold.proofs.PlanLaws.{forgotten-unknown}

zip-forgotten : (params : List Param) (pattern : List Known) → AllZip IsKnownOf params pattern → AllZip IsKnownOf params (forgotten pattern)
zip-forgotten [] [] zip = tt
zip-forgotten [] (v ∷ vs) zip = absurd zip
zip-forgotten (p ∷ ps) [] zip = absurd zip
zip-forgotten (p ∷ ps) (v ∷ vs) zip = (tt, zip-forgotten ps vs zip.1)

forgotten-suits : (pattern : List Known) (found : Option Item) → IsFunctionFor pattern found → IsFunctionFor (forgotten pattern) found
forgotten-suits pattern None is = absurd is
forgotten-suits pattern (Some (item.Var v)) is = absurd is
forgotten-suits pattern (Some (item.Func f)) is = (is.0, zip-forgotten f.params pattern is.1)

-- the root, by what its two tests say
abbrev root_by : Bool → Bool → ℕ → List Known → Ask
root_by named copied place args = if named then record { place = place; pattern = forgotten args } else record { place = place; pattern = if copied then args else forgotten args }

pub root-place : (items : List Item) (place : ℕ) (args : List Known) → (root items place args).place ≡ place
root-place items place args = by (is_named items place) (is_copied items place)
  where
    by : (named copied : Bool) → (root_by named copied place args).place ≡ place
    by true copied = refl
    by false copied = refl

pub root-function : (items : List Item) (place : ℕ) (args : List Known) → IsFunctionFor args (slice_get items place) → IsFunctionFor (root items place args).pattern (slice_get items place)
root-function items place args is = by (is_named items place) (is_copied items place)
  where
    by : (named copied : Bool) → IsFunctionFor (root_by named copied place args).pattern (slice_get items place)
    by true copied = forgotten-suits args (slice_get items place) is
    by false true = is
    by false false = forgotten-suits args (slice_get items place) is

pub root-copied : (items : List Item) (place : ℕ) (args : List Known) → is_copied items place ≡ false → are_unknown (root items place args).pattern ≡ true
root-copied items place args e = by (is_named items place) (is_copied items place) e
  where
    by : (named copied : Bool) → copied ≡ false → are_unknown (root_by named copied place args).pattern ≡ true
    by true copied e = forgotten-unknown args
    by false true e = absurd (cc)
    by false false e = forgotten-unknown args

pub root-alone : (items : List Item) (place : ℕ) (args : List Known) → are_unknown (root items place args).pattern ≡ false → is_named items place ≡ false
root-alone items place args e = by (is_named items place) (is_copied items place) e
  where
    by : (named copied : Bool) → are_unknown (root_by named copied place args).pattern ≡ false → named ≡ false
    by true copied e = let clash : true ≡ false = sym (forgotten-unknown args) ∙ e in absurd (cc)
    by false copied e = refl

pub root-good : (items : List Item) (place : ℕ) (args : List Known) → IsFunctionFor args (slice_get items place) → IsGood items (root items place args)
root-good items place args is = by (is_named items place) (is_copied items place)
  where
    by : (named copied : Bool) → IsGood items (root_by named copied place args)
    by true copied = forgotten-suits args (slice_get items place) is
    by false true = is
    by false false = forgotten-suits args (slice_get items place) is
