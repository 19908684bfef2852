-- The order of demands.
use Rattle.std.specs.Prelude.{ℕ, List, []}
use Rattle.std.specs.declared.cmp.Ordering.{Ordering}
use Rattle.std.specs.Ordering.{nat_cmp, on, then_cmp}
use Rattle.std.specs.Cmp.Lexicographic.{slice_cmp}
use Rattle.ir_types.specs.declared.scalar.Known.{Known}
use Rattle.ir_types.specs.declared.scalar.Known.TheVariants.{Unknown, Num, Null}
use Rattle.ir_syntax.specs.declared.symbol.Sym.{Sym}
use Rattle.demands.specs.declared.demand.Demand.{Demand}
use Rattle.demands.specs.declared.demand.Demand.TheVariants.{Func, Var}

-- unknown, a number or null
abbrev pub kind_of : Known → ℕ
kind_of Unknown = 0
kind_of (Num n) = 1
kind_of Null = 2

-- the number, 0 where there is none
abbrev pub number_of : Known → ℕ
number_of Unknown = 0
number_of (Num n) = n
number_of Null = 0

-- Unknown before numbers before null, and numbers by their value.
abbrev pub known_order : Known → Known → Ordering
known_order = then_cmp (on kind_of nat_cmp) (on number_of nat_cmp)

-- By the first item that differs. A pattern that begins another comes before it.
abbrev pub pattern_order : List Known → List Known → Ordering
pattern_order = slice_cmp known_order

-- By module, then by item.
abbrev pub symbol_order : Sym → Sym → Ordering
symbol_order = then_cmp (on (λ s. s.module) nat_cmp) (on (λ s. s.item) nat_cmp)

-- a variable or a function
abbrev pub sort_of : Demand → ℕ
sort_of (Var symbol) = 0
sort_of (Func symbol pattern) = 1

abbrev pub symbol_of : Demand → Sym
symbol_of (Var symbol) = symbol
symbol_of (Func symbol pattern) = symbol

-- the pattern, without an item of a variable
abbrev pub pattern_of : Demand → List Known
pattern_of (Var symbol) = []
pattern_of (Func symbol pattern) = pattern

-- Variables before functions, then by symbol, then by pattern.
abbrev pub demand_order : Demand → Demand → Ordering
demand_order = then_cmp (on sort_of nat_cmp) (then_cmp (on symbol_of symbol_order) (on pattern_of pattern_order))
