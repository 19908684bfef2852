-- The least plan of an entry is a plan of the program's module.
use Rattle.std.proofs.Common.{◌≡◌, true, false, ℕ, List, [], ◌∷◌, get_or, ap, sym, subst, ◌∙◌}
use Rattle.std.specs.Prelude.{slice_get}
use Rattle.ir_types.specs.declared.scalar.Known.{Known}
use Rattle.ir_syntax.specs.declared.item.Item.{Item}
use Rattle.ir_syntax.specs.declared.item.Module.{Module}
use Rattle.ir_syntax.specs.Straight.{IsStraight, IsStraightProgram}
use Rattle.demands.specs.Demands.{IsFunctionFor}
use Rattle.demands.specs.Names.{are_unknown}
use Rattle.straight_plan.specs.declared.cut.Ask.{Ask}
use Rattle.straight_plan.specs.declared.cut.Cut.{Cut}
use Rattle.straight_plan.specs.Asked.{is_copied, is_named, program_items, root}
use Rattle.straight_plan.specs.Left.{IsLeastPlan, IsPlan, IsPlanned}

-- the law of least plans
abbrev pub PlanLaw : Type 0
PlanLaw = (m : Module) (start : Ask) (plan : List Cut) → IsStraight m → IsFunctionFor start.pattern (slice_get m.items start.place)
    → (is_copied m.items start.place ≡ false → are_unknown start.pattern ≡ true) → (are_unknown start.pattern ≡ false → is_named m.items start.place ≡ false)
    → IsLeastPlan m.items start plan → IsPlan m.items start plan

-- what an entry is asked for with suits it
pub record IsSuited : Type 0 where
  pub place : (items : List Item) (place : ℕ) (args : List Known) → (root items place args).place ≡ place
  pub function : (items : List Item) (place : ℕ) (args : List Known) → IsFunctionFor args (slice_get items place) → IsFunctionFor (root items place args).pattern (slice_get items place)
  pub copied : (items : List Item) (place : ℕ) (args : List Known) → is_copied items place ≡ false → are_unknown (root items place args).pattern ≡ true
  pub alone : (items : List Item) (place : ℕ) (args : List Known) → are_unknown (root items place args).pattern ≡ false → is_named items place ≡ false

pub entry-plan : PlanLaw → IsSuited → (m : Module) (modules : List Module) (place : ℕ) (args : List Known) (start : Ask) (cuts : List Cut) → modules ≡ m ∷ [] → IsStraight m
    → IsFunctionFor args (slice_get (program_items modules) place) → start ≡ root (program_items modules) place args
    → IsPlanned (program_items modules) (root (program_items modules) place args) cuts → IsPlan m.items start cuts
entry-plan law suited m modules place args start cuts only straight takes is planned =
    let here = subst (λ (ms : List Module). IsFunctionFor args (slice_get (program_items ms) place)) only takes in
    let start_is = subst (λ (ms : List Module). start ≡ root (program_items ms) place args) only is in
    let found = subst (λ (ms : List Module). IsPlanned (program_items ms) (root (program_items ms) place args) cuts) only planned in
    let at : (root m.items place args).place ≡ place = suited.place m.items place args in
    subst (λ (ask : Ask). IsPlan m.items ask cuts) (sym start_is)
    (law m (root m.items place args) cuts straight
    (subst (λ (k : ℕ). IsFunctionFor (root m.items place args).pattern (slice_get m.items k)) (sym at) (suited.function m.items place args here))
    (subst (λ (k : ℕ). is_copied m.items k ≡ false → are_unknown (root m.items place args).pattern ≡ true) (sym at) (suited.copied m.items place args))
    (subst (λ (k : ℕ). are_unknown (root m.items place args).pattern ≡ false → is_named m.items k ≡ false) (sym at) (suited.alone m.items place args))
    found.least)

-- the first module of a program is its only one, and straight
pub only-module : (modules others : List Module) (m : Module) → IsStraightProgram modules → others ≡ modules → m ≡ get_or others 0 m → (modules ≡ m ∷ []) × IsStraight m
only-module modules others m program same first =
    let is : m ≡ program.only = first ∙ ap (λ (ms : List Module). get_or ms 0 m) (same ∙ program.modules_are) in
    (program.modules_are ∙ ap (λ (one : Module). one ∷ []) (sym is), subst IsStraight (sym is) program.straight)
