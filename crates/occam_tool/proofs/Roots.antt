-- What is asked for from outside is a function of the module, and is copied only where that may be.
use Rattle.std.proofs.Common.{◌≡◌, ◌∙◌, ℕ, Bool, true, false, List, [], ◌∷◌, slice_get, Option, Some, None, refl, sym, if◌then◌else◌}
use Rattle.std.specs.List.{AllZip}
use Rattle.ir_types.specs.declared.scalar.Known.{Known}
use Rattle.ir_syntax.specs.declared.item.Param.{Param}
use Rattle.ir_syntax.specs.declared.item.Item.{Item}
use Rattle.ir_syntax.specs.declared.item.Item.TheVariants as item
use Rattle.demands.specs.Names.{are_unknown}
use Rattle.demands.specs.Demands.{IsFunctionFor, IsKnownOf}
use Rattle.straight_plan.specs.declared.cut.Ask.{Ask}
use Rattle.straight_plan.specs.Asked.{forgotten, is_copied, is_named, asked, root}

forgotten_fit : (params : List Param) (args : List Known) → AllZip IsKnownOf params args → AllZip IsKnownOf params (forgotten args)
forgotten_fit [] [] h = tt
forgotten_fit [] (k ∷ ks) h = absurd h
forgotten_fit (p ∷ ps) [] h = absurd h
forgotten_fit (p ∷ ps) (k ∷ ks) h = (tt, forgotten_fit ps ks h.1)

forgotten_function : (o : Option Item) (args : List Known) → IsFunctionFor args o → IsFunctionFor (forgotten args) o
forgotten_function None args h = absurd h
forgotten_function (Some (item.Var v)) args h = absurd h
forgotten_function (Some (item.Func f)) args h = (h.0, forgotten_fit f.params args h.1)

forgotten_unknown : (args : List Known) → are_unknown (forgotten args) ≡ true
forgotten_unknown [] = refl
forgotten_unknown (k ∷ ks) = forgotten_unknown ks

true_false : {P : Type 0} → true ≡ false → P
true_false e = absurd (cc)

abbrev pick : Bool → List Known → List Known
pick copied args = if copied then args else forgotten args

picked_function : (o : Option Item) (args : List Known) (copied : Bool) → IsFunctionFor args o → IsFunctionFor (pick copied args) o
picked_function o args true h = h
picked_function o args false h = forgotten_function o args h

picked_unknown : (args : List Known) (copied : Bool) → copied ≡ false → are_unknown (pick copied args) ≡ true
picked_unknown args true e = true_false e
picked_unknown args false e = forgotten_unknown args

-- the root, by whether a body names it
abbrev root_by : Bool → List Item → ℕ → List Known → Ask
root_by named items place args = if named then record { place = place; pattern = forgotten args } else asked items place args

function_by : (named : Bool) (items : List Item) (place : ℕ) (args : List Known) → IsFunctionFor args (slice_get items place) → IsFunctionFor (root_by named items place args).pattern (slice_get items (root_by named items place args).place)
function_by true items place args h = forgotten_function (slice_get items place) args h
function_by false items place args h = picked_function (slice_get items place) args (is_copied items place) h

copied_by : (named : Bool) (items : List Item) (place : ℕ) (args : List Known) → is_copied items (root_by named items place args).place ≡ false → are_unknown (root_by named items place args).pattern ≡ true
copied_by true items place args e = forgotten_unknown args
copied_by false items place args e = picked_unknown args (is_copied items place) e

named_by : (named : Bool) (items : List Item) (place : ℕ) (args : List Known) → is_named items place ≡ named → are_unknown (root_by named items place args).pattern ≡ false → is_named items (root_by named items place args).place ≡ false
named_by true items place args is e = true_false (sym (forgotten_unknown args) ∙ e)
named_by false items place args is e = is

pub root_function : (items : List Item) (place : ℕ) (args : List Known) → IsFunctionFor args (slice_get items place) → IsFunctionFor (root items place args).pattern (slice_get items (root items place args).place)
root_function items place args h = function_by (is_named items place) items place args h

pub root_copied : (items : List Item) (place : ℕ) (args : List Known) → is_copied items (root items place args).place ≡ false → are_unknown (root items place args).pattern ≡ true
root_copied items place args e = copied_by (is_named items place) items place args e

pub root_named : (items : List Item) (place : ℕ) (args : List Known) → are_unknown (root items place args).pattern ≡ false → is_named items (root items place args).place ≡ false
root_named items place args e = named_by (is_named items place) items place args refl e
