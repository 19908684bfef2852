-- The plan that was made for the entry is a plan of the module, and what it is asked for with suits it.
use Rattle.std.proofs.Common.{◌≡◌, ◌∙◌, ℕ, true, false, List, [], ◌∷◌, slice_get, sym, ap, subst}
use Rattle.ir_types.specs.declared.scalar.Known.{Known}
use Rattle.ir_syntax.specs.declared.item.Item.{Item}
use Rattle.ir_syntax.specs.declared.item.Module.{Module}
use Rattle.ir_syntax.specs.Straight.{IsStraight}
use Rattle.demands.specs.Names.{are_unknown}
use Rattle.demands.specs.Demands.{IsFunctionFor}
use Rattle.straight_plan.specs.declared.cut.Ask.{Ask}
use Rattle.straight_plan.specs.declared.cut.Cut.{Cut}
use Rattle.straight_plan.specs.Asked.{is_copied, is_named, root, program_items}
use Rattle.straight_plan.specs.Left.{IsLeastPlan, IsPlan, IsPlanned}
use Rattle.straight_leave.specs.Entries.{IsNotNamed}
use Rattle.occam_tool.proofs.Roots.{root_function, root_copied, root_named}

-- the law of least plans
abbrev pub PlanLaw : Type 0
PlanLaw = (m : Module) (start : Ask) (plan : List Cut) → IsStraight m → IsFunctionFor start.pattern (slice_get m.items start.place)
    → (is_copied m.items start.place ≡ false → are_unknown start.pattern ≡ true) → (are_unknown start.pattern ≡ false → is_named m.items start.place ≡ false)
    → IsLeastPlan m.items start plan → IsPlan m.items start plan

pub plan_of_entry : PlanLaw → (m : Module) (modules : List Module) (place : ℕ) (args : List Known) (start : Ask) (cuts slice : List Cut) → modules ≡ m ∷ [] → IsStraight m
    → IsFunctionFor args (slice_get (program_items modules) place) → start ≡ root (program_items modules) place args → IsPlanned (program_items modules) (root (program_items modules) place args) cuts → slice ≡ cuts
    → IsPlan m.items start slice
plan_of_entry law m modules place args start cuts slice only straight takes is planned same =
    let items : program_items modules ≡ m.items = ap program_items only in
    let here : IsFunctionFor args (slice_get m.items place) = subst (λ (is : List Item). IsFunctionFor args (slice_get is place)) items takes in
    let of_module : IsPlanned m.items (root m.items place args) cuts = subst (λ (is : List Item). IsPlanned is (root is place args) cuts) items planned in
    let asked_for : start ≡ root m.items place args = is ∙ ap (λ (is : List Item). root is place args) items in
    let found = law m (root m.items place args) cuts straight (root_function m.items place args here) (root_copied m.items place args) (root_named m.items place args) of_module.least in
    subst (IsPlan m.items start) (sym same) (subst (λ (a : Ask). IsPlan m.items a cuts) (sym asked_for) found)

-- no body names the entry that is left for known arguments
pub entry_not_named : (m : Module) (modules : List Module) (place : ℕ) (args : List Known) (start : Ask) → modules ≡ m ∷ [] → start ≡ root (program_items modules) place args → IsNotNamed m.items start
entry_not_named m modules place args start only is =
    let asked_for : start ≡ root m.items place args = is ∙ ap (λ (items : List Item). root items place args) (ap program_items only) in
    subst (IsNotNamed m.items) (sym asked_for) (root_named m.items place args)
