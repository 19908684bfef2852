-- What is found out of an external name.
use Rattle.std.specs.Prelude.{◌≡◌, ◌≢◌, ◌↔◌, ℕ, Bool, true, false, IsTrue, List, Option, None, Some, slice_get, option_and_then, if◌then◌else◌}
use Rattle.std.specs.List.{All, AllZip, Contains}
use Rattle.std.specs.declared.cmp.Ordering.TheVariants.{Less}
use Rattle.std.specs.Cmp.Lexicographic.{slice_cmp}
use Rattle.std.specs.Ordering.{nat_cmp}
use Rattle.ir_syntax.specs.declared.symbol.Sym.{Sym}
use Rattle.ir_syntax.specs.declared.symbol.Builtin.{Builtin}
use Rattle.ir_syntax.specs.declared.symbol.Intrinsic.{Intrinsic}
use Rattle.ir_syntax.specs.declared.symbol.Target.{Target}
use Rattle.ir_syntax.specs.declared.symbol.Target.TheVariants as target
use Rattle.ir_syntax.specs.declared.item.Item.{Item}
use Rattle.ir_syntax.specs.declared.item.Module.{Module}
use Rattle.ir_syntax.specs.Symbols.{IsItemOf}
use Rattle.ir_syntax.specs.Refusals.{Deployment, HasTwoDefinitions, IsMissing, ClashesInType, Rule, earlier, Breaks, IsKept, IsLeast}
use Rattle.ir_syntax.specs.Targets.{StandsFor, StandsAs}
use Rattle.name_table.specs.Places.{place_among, is_among}
use Rattle.linker.specs.declared.slot.Slot.{Slot}
use Rattle.linker.specs.declared.slot.NameRule.{NameRule}
use Rattle.linker.specs.declared.slot.NameRule.TheVariants.{OneDefinition, Defined, OneType}
use Rattle.linker.specs.declared.group.Group.{Group}
use Rattle.linker.specs.Mirrors.Groups.{symbols_of, symbols_in}
use Rattle.linker.specs.Mirrors.Items.{function_at, name_at}

-- what an undefined name stands for, where it may be listed
abbrev pub undefined_target : Option Builtin → Option Intrinsic → Bool → Target
undefined_target (Some builtin) intrinsic listed = target.Builtin builtin
undefined_target None (Some intrinsic) listed = target.Intrinsic intrinsic
undefined_target None None true = target.Outside
undefined_target None None false = target.Nothing

abbrev pub is_nothing : Target → Bool
is_nothing (target.Def symbol) = false
is_nothing target.Outside = false
is_nothing (target.Builtin builtin) = false
is_nothing (target.Intrinsic intrinsic) = false
is_nothing target.Nothing = true

-- the function of a target that is a definition
abbrev pub function_of : List Module → Target → Option Sym
function_of modules (target.Def symbol) = if function_at modules symbol then Some symbol else None
function_of modules target.Outside = None
function_of modules (target.Builtin builtin) = None
function_of modules (target.Intrinsic intrinsic) = None
function_of modules target.Nothing = None

abbrev pub function_in : List Module → Option Slot → Option Sym
function_in modules None = None
function_in modules (Some slot) = function_of modules slot.target

-- The same names are among these.
abbrev pub AreSame : List (List ℕ) → List (List ℕ) → Type 0
AreSame names listed = (name : List ℕ) → is_among name names ≡ is_among name listed

-- The slot says what is true of the name.
pub record IsSlot (modules : List Module) (outside : List (List ℕ)) (name : List ℕ) (slot : Slot) : Type 0 where
  pub doubled : IsTrue slot.doubled ↔ HasTwoDefinitions modules name
  pub missing : IsTrue slot.missing ↔ IsMissing modules outside name
  pub clashes : IsTrue slot.clashes ↔ ClashesInType modules name
  pub target : StandsFor modules outside name slot.target
  pub canonical : StandsAs modules name slot.canonical

-- The slot is that of the name whose symbols the group has.
abbrev pub Says : List Module → List (List ℕ) → Group → Slot → Type 0
Says modules listed group slot = (name : List ℕ) → symbols_in group ≡ symbols_of modules name → IsSlot modules listed name slot

-- There is a slot for each of the names, and each name that has an item is among them.
pub record IsTable (modules : List Module) (outside : List (List ℕ)) (names : List (List ℕ)) (slots : List Slot) : Type 0 where
  pub each : AllZip (IsSlot modules outside) names slots
  pub all : (name : List ℕ) (symbol : Sym) (found : Item) → IsItemOf modules name symbol found → is_among name names ≡ true

-- the slot of a name
abbrev pub slot_of : List (List ℕ) → List Slot → List ℕ → Option Slot
slot_of names slots name = option_and_then (λ place. slice_get slots place) (place_among name names)

-- whether the slot's name breaks the rule
abbrev pub breaks : NameRule → Slot → Bool
breaks OneDefinition slot = slot.doubled
breaks Defined slot = slot.missing
breaks OneType slot = slot.clashes

abbrev pub rule_of : NameRule → Rule
rule_of OneDefinition = Rule.TwoDefinitions
rule_of Defined = Rule.NoDefinition
rule_of OneType = Rule.TypeClash

-- The first symbol's name is less than that of the second, or there is no second.
abbrev pub IsBelow : List Module → Sym → Option Sym → Type 0
IsBelow modules symbol None = Unit {0}
IsBelow modules symbol (Some other) = slice_cmp nat_cmp (name_at modules symbol) (name_at modules other) ≡ Less

-- The symbol is that of a slot whose name breaks the rule, and no slot with a lesser name does.
pub record IsLeastOf (modules : List Module) (of_rule : NameRule) (slots : List Slot) (symbol : Sym) : Type 0 where
  pub slot : Slot
  pub within : Contains slots slot
  pub broken : breaks of_rule slot ≡ true
  pub canonical : symbol ≡ slot.canonical
  pub least : All (λ other. breaks of_rule other ≡ true → slice_cmp nat_cmp (name_at modules other.canonical) (name_at modules symbol) ≢ Less) slots

-- The least of these slots whose names break the rule: none, where none does.
abbrev pub IsLeastSlot : List Module → NameRule → List Slot → Option Sym → Type 0
IsLeastSlot modules of_rule slots None = All (λ slot. breaks of_rule slot ≡ false) slots
IsLeastSlot modules of_rule slots (Some symbol) = IsLeastOf modules of_rule slots symbol

-- The least of the names that break the rule: none, where it is kept.
abbrev pub IsLeastName : List Module → Deployment → Rule → Option (List ℕ) → Type 0
IsLeastName modules d rule None = IsKept modules d rule
IsLeastName modules d rule (Some name) = IsLeast (Breaks modules d rule) name

-- Each rule before this one is kept.
abbrev pub AreKeptBefore : List Module → Deployment → Rule → Type 0
AreKeptBefore modules d rule = All (IsKept modules d) (earlier rule)
