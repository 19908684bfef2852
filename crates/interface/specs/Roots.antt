-- What a deployment asks for at first.
use Rattle.std.specs.Prelude.{ℕ, suc, ◌==◌, Bool, false, not, ◌&&◌, ◌||◌, List, [], ◌∷◌, Option, None, Some, if◌then◌else◌}
use Rattle.std.specs.List.{filter, list_any, filter_map}
use Rattle.ir_types.specs.declared.scalar.Known.{Known}
use Rattle.ir_syntax.specs.declared.symbol.Sym.{Sym}
use Rattle.ir_syntax.specs.declared.item.Func.{Func}
use Rattle.ir_syntax.specs.declared.item.Item.{Item}
use Rattle.ir_syntax.specs.declared.item.Item.TheVariants as item
use Rattle.ir_syntax.specs.declared.item.Module.{Module}
use Rattle.ir_syntax.specs.Named.{item_names}
use Rattle.ir_syntax.specs.Symbols.{item_at}
use Rattle.ir_syntax.specs.Programs.{ProgramData}
use Rattle.demands.specs.declared.demand.Demand.{Demand}
use Rattle.demands.specs.declared.demand.Demand.TheVariants.{Func as function, Var as variable}
use Rattle.interface.specs.Asked.{all_unknown, pattern_for, definition_of, asked_by}

abbrev pub is_symbol : Sym → Sym → Bool
is_symbol a b = (a.module == b.module) && (a.item == b.item)

abbrev pub is_export : ProgramData → Sym → Bool
is_export p symbol = list_any (is_symbol symbol) p.exports

-- ---- names

abbrev pub is_definition : Sym → Option Sym → Bool
is_definition symbol None = false
is_definition symbol (Some other) = is_symbol symbol other

-- The item's body or initialiser names the symbol.
abbrev pub names_symbol : ProgramData → Sym → ℕ → Item → Bool
names_symbol p symbol home found = list_any (λ place. is_definition symbol (definition_of p home place)) (item_names found)

-- some item of these modules does, the first of which is the one at a place
abbrev pub is_named_from : ProgramData → Sym → ℕ → List Module → Bool
is_named_from p symbol home [] = false
is_named_from p symbol home (m ∷ ms) = list_any (names_symbol p symbol home) m.items || is_named_from p symbol (suc home) ms

-- A body or an initialiser of the program names the symbol, whether it is reached or not.
abbrev pub is_named : ProgramData → Sym → Bool
is_named p symbol = is_named_from p symbol 0 p.modules

-- ---- roots

-- each symbol where it stands first
abbrev pub once : List Sym → List Sym
once [] = []
once (symbol ∷ more) = symbol ∷ filter (λ other. not (is_symbol symbol other)) (once more)

-- A root that nothing else calls: the entry, where it is no export and nothing names it.
abbrev pub is_only_entered : ProgramData → Sym → Bool
is_only_entered p symbol = is_symbol p.entry symbol && (not (is_export p symbol) && not (is_named p symbol))

-- The entry is asked for with what the deployment knows of its arguments, and an export with nothing known.
abbrev pub root_pattern : ProgramData → List (List Bool) → Sym → Func → List Known
root_pattern p cycles symbol func = if is_only_entered p symbol then pattern_for cycles symbol func p.entry_args else all_unknown func

abbrev pub by_root : ProgramData → List (List Bool) → Sym → Item → Demand
by_root p cycles symbol (item.Var var) = variable symbol
by_root p cycles symbol (item.Func func) = function symbol (root_pattern p cycles symbol func)

-- of the entry and behind it of the exports
abbrev pub roots : ProgramData → List (List Bool) → List Demand
roots p cycles = filter_map (λ symbol. asked_by (by_root p cycles) p (Some symbol)) (once (p.entry ∷ p.exports))
