-- The winnowed modules of a set of demands.
use Rattle.std.specs.Prelude.{◌≡◌, ◌≢◌, ℕ, ◌-◌, ◌^◌, min, not, ◌&&◌, Bool, true, false, List, ◌++◌, Option, None, Some, All, AllPairs, Contains, IsSortedByKey, length, map, flat_map, slice_get, sum, count_by}
use Rattle.std.specs.Ordering.{nat_cmp}
use Rattle.std.specs.Cmp.Lexicographic.{slice_cmp}
use Rattle.ir_syntax.specs.declared.body.Body.{Body}
use Rattle.ir_syntax.specs.declared.item.Item.{Item}
use Rattle.ir_syntax.specs.declared.item.Item.TheVariants as item
use Rattle.ir_syntax.specs.declared.item.Module.{Module}
use Rattle.ir_syntax.specs.FormedBody.{item_name}
use Rattle.ir_syntax.specs.Results.{count}
use Rattle.demands.specs.declared.demand.Demand.{Demand}
use Rattle.demands.specs.declared.demand.Demand.TheVariants.{Func as function, Var as variable}
use Rattle.winnowed_form.specs.declared.named.Named.{Named}
use Rattle.winnowed_form.specs.declared.member.Member.{Member}
use Rattle.winnowed_form.specs.declared.sort.Sort.{Sort}
use Rattle.winnowed_form.specs.declared.sort.Sort.TheVariants.{Original, Clone, Variable}
use Rattle.winnowed_form.specs.declared.winnowed.Winnowed.{Winnowed}
use Rattle.winnowed_form.specs.Basis.{Basis}
use Rattle.winnowed_form.specs.Copies.{is_copy}
use Rattle.winnowed_form.specs.Members.{defined_in}
use Rattle.winnowed_form.specs.Names.{name_of, uses}
use Rattle.winnowed_form.specs.Items.{definition, declaration}

-- Each is among the uses and isn't defined, none stands twice, and each use is defined or among them.
pub record AreDeclared (used defined declared : List Named) : Type 0 where
  pub distinct : AllPairs (λ one other. one ≢ other) declared
  pub used_names : All (Contains used) declared
  pub not_defined : All (λ named. Contains defined named → ⊥) declared
  pub all : All (Contains (defined ++ declared)) used

-- A module with its target lines, then what it defines of the set, in order, and then the declarations of what is named and
-- not defined there, in byte order of names. Each name in it has the place of its item.
pub record IsWinnowedModule (b : Basis) (members : List Member) (home : ℕ) (m w : Module) : Type 0 where
  pub layout : w.layout ≡ m.layout
  pub triple : w.triple ≡ m.triple
  pub declared : List Named
  pub are_declared : AreDeclared (flat_map (uses b home) members) (map (name_of b) members) declared
  pub by_names : IsSortedByKey item_name (slice_cmp nat_cmp) (flat_map (declaration b home) declared)
  pub place : Named → ℕ
  pub placed : All (λ named. slice_get (map (name_of b) members ++ declared) (place named) ≡ Some named) (map (name_of b) members ++ declared)
  pub items : w.items ≡ flat_map (definition b home place) members ++ flat_map (declaration b home) declared

-- one for each module of the program, in their order, with what that module defines
pub record AreWinnowedModules (b : Basis) (members : List Member) (made : List Module) : Type 0 where
  pub long : length made ≡ length b.program.modules
  pub each : (home : ℕ) (m w : Module) → slice_get b.program.modules home ≡ Some m → slice_get made home ≡ Some w → IsWinnowedModule b (defined_in home members) home m w

-- ---- counts

abbrev pub is_variable : Demand → Bool
is_variable (variable symbol) = true
is_variable (function symbol pattern) = false

-- a function under its own name, a copy, or a variable
abbrev pub is_sort : Basis → Sort → Demand → Bool
is_sort b Original d = not (is_variable d) && not (is_copy b d)
is_sort b Clone d = is_copy b d
is_sort b Variable d = is_variable d

abbrev pub sort_count : Basis → Sort → List Member → ℕ
sort_count b sort members = count_by (λ member. is_sort b sort member.demand) members

abbrev pub definition_count : Option Body → ℕ
definition_count None = 0
definition_count (Some body) = count body

-- phis, instructions and terminators
abbrev pub item_count : Item → ℕ
item_count (item.Var var) = 0
item_count (item.Func func) = definition_count func.body

abbrev pub module_count : Module → ℕ
module_count m = sum (map item_count m.items)

-- The winnowed modules of these members, which stand in the order of demands, and how many functions under their own names,
-- copies, variables and instructions they have. A count of instructions stands still at 2^64 - 1.
pub record IsWinnowedOf (b : Basis) (members : List Member) (w : Winnowed) : Type 0 where
  pub modules : AreWinnowedModules b members w.modules
  pub originals : w.originals ≡ sort_count b Original members
  pub clones : w.clones ≡ sort_count b Clone members
  pub globals : w.globals ≡ sort_count b Variable members
  pub instructions : w.instructions ≡ min (sum (map module_count w.modules)) (2 ^ 64 - 1)
