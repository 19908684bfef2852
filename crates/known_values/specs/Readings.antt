-- How functions are read: each for a pattern, by an assignment.
use Rattle.std.specs.Prelude.{◌≡◌, Bool, true, false, ◌&&◌, List, [], ◌∷◌, Option, None, Some, slice_get, if◌then◌else◌}
use Rattle.ir_types.specs.declared.scalar.Known.{Known}
use Rattle.ir_syntax.specs.declared.symbol.Sym.{Sym}
use Rattle.ir_syntax.specs.declared.item.Func.{Func}
use Rattle.ir_syntax.specs.declared.item.Item.TheVariants as item
use Rattle.ir_syntax.specs.declared.item.Module.{Module}
use Rattle.ir_syntax.specs.Programs.{ProgramData}
use Rattle.fold_facts.specs.Assigned.{Assigned}
use Rattle.fold_facts.specs.Facts.{is_same}
use Rattle.fold_facts.specs.Operands.{Setting}
use Rattle.demands.specs.declared.demand.Demand.{Demand}
use Rattle.demands.specs.declared.demand.Demand.TheVariants.{Func as function, Var as variable}
use Rattle.interface.specs.Roots.{is_symbol}
use Rattle.residual_laws.specs.Left.{IsLeft}

-- A function of a program, what is known of its parameters, and an assignment of it.
pub record Reading : Type 0 where
  pub symbol : Sym
  pub pattern : List Known
  pub func : Func
  pub assigned : Assigned

-- The symbol names the function, and the assignment is closed for the pattern.
pub record IsReading (p : ProgramData) (r : Reading) : Type 0 where
  pub home : Module
  pub stands : slice_get p.modules r.symbol.module ≡ Some home
  pub is_function : slice_get home.items r.symbol.item ≡ Some (item.Func r.func)
  pub left : IsLeft home.items r.pattern r.func r.assigned

abbrev pub demand_of : Reading → Demand
demand_of r = function r.symbol r.pattern

abbrev pub setting_of : Reading → Setting
setting_of r = record { known = r.pattern }

-- ---- readings by their demands

abbrev pub same_pattern : List Known → List Known → Bool
same_pattern [] [] = true
same_pattern [] (k ∷ ks) = false
same_pattern (j ∷ js) [] = false
same_pattern (j ∷ js) (k ∷ ks) = is_same j k && same_pattern js ks

abbrev pub same_demand : Demand → Demand → Bool
same_demand (variable a) (variable b) = is_symbol a b
same_demand (variable a) (function b pattern) = false
same_demand (function a pattern) (variable b) = false
same_demand (function a pattern) (function b other) = is_symbol a b && same_pattern pattern other

-- the first reading of the demand
abbrev pub found : List Reading → Demand → Option Reading
found [] d = None
found (r ∷ more) d = if same_demand (demand_of r) d then Some r else found more d
