-- Which demands calls and names ask for.
use Rattle.std.specs.Prelude.{◌↔◌, ℕ, nat_le, Bool, not, ◌&&◌, List, Option, None, Some, IsTrue, length, map, option_map, option_and_then, if◌then◌else◌}
use Rattle.ir_types.specs.declared.scalar.Known.{Known}
use Rattle.ir_types.specs.declared.scalar.Known.TheVariants.{Unknown}
use Rattle.ir_syntax.specs.declared.symbol.Sym.{Sym}
use Rattle.ir_syntax.specs.declared.symbol.Target.{Target}
use Rattle.ir_syntax.specs.declared.symbol.Target.TheVariants as target
use Rattle.ir_syntax.specs.declared.item.Func.{Func}
use Rattle.ir_syntax.specs.declared.item.Item.{Item}
use Rattle.ir_syntax.specs.declared.item.Item.TheVariants as item
use Rattle.ir_syntax.specs.Symbols.{item_at}
use Rattle.ir_syntax.specs.Targets.{entry_at, AreEntries}
use Rattle.ir_syntax.specs.Programs.{ProgramData}
use Rattle.call_cycles.specs.Cycles.{IsOnCycle}
use Rattle.demands.specs.declared.demand.Demand.{Demand}
use Rattle.demands.specs.declared.demand.Demand.TheVariants.{Func as function, Var as variable}
use Rattle.interface.specs.Masks.{flag_at}

-- One flag for each item: it is a function on a call cycle.
abbrev pub AreCycles : ProgramData → List (List Bool) → Type 0
AreCycles p cycles = AreEntries Bool p.modules (λ symbol _ flag. IsTrue flag ↔ IsOnCycle p symbol) cycles

-- ---- patterns

-- A function is specialised that is on no call cycle and whose name has at most 3,072 bytes.
abbrev pub is_specialised : List (List Bool) → Sym → Func → Bool
is_specialised cycles symbol func = not (flag_at (entry_at cycles symbol)) && nat_le (length func.name) 3072

-- one unknown item for each parameter
abbrev pub all_unknown : Func → List Known
all_unknown func = map (λ param. Unknown) func.params

-- what is asked of a function where this is known of the arguments
abbrev pub pattern_for : List (List Bool) → Sym → Func → List Known → List Known
pattern_for cycles symbol func known = if is_specialised cycles symbol func then known else all_unknown func

-- ---- definitions

abbrev pub definition : Option Target → Option Sym
definition None = None
definition (Some (target.Def symbol)) = Some symbol
definition (Some target.Outside) = None
definition (Some (target.Builtin builtin)) = None
definition (Some (target.Intrinsic intrinsic)) = None
definition (Some target.Nothing) = None

-- the definition for which the item at a place of a module stands, if it stands for one
abbrev pub definition_of : ProgramData → ℕ → ℕ → Option Sym
definition_of p home place = definition (entry_at p.targets (record { «module» = home; item = place }))

-- What has no definition is never asked for.
abbrev pub asked_by : (Sym → Item → Demand) → ProgramData → Option Sym → Option Demand
asked_by ask p found = option_and_then (λ symbol. option_map (ask symbol) (item_at p.modules symbol)) found

-- ---- calls and names

-- A call of a function by its name asks for it with what is known of the arguments.
abbrev pub by_call : List (List Bool) → List Known → Sym → Item → Demand
by_call cycles known symbol (item.Var var) = variable symbol
by_call cycles known symbol (item.Func func) = function symbol (pattern_for cycles symbol func known)

-- Any other naming of a function asks for it with nothing known, and naming a variable asks for the variable.
abbrev pub by_name : Sym → Item → Demand
by_name symbol (item.Var var) = variable symbol
by_name symbol (item.Func func) = function symbol (all_unknown func)

-- what the call of the item at a place asks for, in a module
abbrev pub called : ProgramData → List (List Bool) → ℕ → ℕ × List Known → Option Demand
called p cycles home call = asked_by (by_call cycles call.1) p (definition_of p home call.0)

-- what it asks for that the item is named otherwise
abbrev pub named : ProgramData → ℕ → ℕ → Option Demand
named p home place = asked_by by_name p (definition_of p home place)
