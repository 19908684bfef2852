-- The demands of a program.
use Rattle.std.specs.Prelude.{List, Option, None, Some, IsSome}
use Rattle.ir_syntax.specs.declared.item.Item.{Item}
use Rattle.ir_syntax.specs.declared.item.Item.TheVariants as item
use Rattle.ir_syntax.specs.declared.item.Module.{Module}
pub use Rattle.ir_syntax.specs.Symbols.{item_at, IsKnownOf, IsFunctionFor}
use Rattle.demands.specs.declared.demand.Demand.{Demand}
use Rattle.demands.specs.declared.demand.Demand.TheVariants.{Func, Var}
use Rattle.demands.specs.Order.{symbol_of}
use Rattle.demands.specs.Rows.{IsShortSymbol}

-- a variable that has an initialiser
abbrev pub IsVariable : Option Item → Type 0
IsVariable None = ⊥
IsVariable (Some (item.Var var)) = IsSome var.init
IsVariable (Some (item.Func func)) = ⊥

-- the item defines what is demanded
abbrev pub IsDefinition : Demand → Option Item → Type 0
IsDefinition (Var symbol) found = IsVariable found
IsDefinition (Func symbol pattern) found = IsFunctionFor pattern found

-- A demand of the program.
pub record IsDemand (modules : List Module) (d : Demand) : Type 0 where
  -- a row can hold the symbol
  pub short : IsShortSymbol (symbol_of d)
  -- and it is defined in the program
  pub defined : IsDefinition d (item_at modules (symbol_of d))
