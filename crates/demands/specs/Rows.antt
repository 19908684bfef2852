-- Rows of demands: their words.
use Rattle.std.specs.Prelude.{◌≢◌, ℕ, ◌+◌, ◌*◌, ◌^◌, ◌<◌, ◌≤◌, List, [], ◌∷◌, length, map}
use Rattle.ir_types.specs.declared.scalar.Known.{Known}
use Rattle.ir_types.specs.declared.scalar.Known.TheVariants.{Unknown, Num, Null}
use Rattle.ir_syntax.specs.declared.symbol.Sym.{Sym}
use Rattle.demands.specs.declared.demand.Demand.{Demand}
use Rattle.demands.specs.declared.demand.Demand.TheVariants.{Func, Var}
use Rattle.demands.specs.Order.{number_of, symbol_of, pattern_of}

-- 1 at a number
abbrev pub number_bit : Known → ℕ
number_bit Unknown = 0
number_bit (Num n) = 1
number_bit Null = 0

-- 1 at null
abbrev pub null_bit : Known → ℕ
null_bit Unknown = 0
null_bit (Num n) = 0
null_bit Null = 1

-- bits from the lowest on: bit k is that of item k
abbrev pub bits_by : (Known → ℕ) → List Known → ℕ
bits_by bit [] = 0
bits_by bit (item ∷ more) = bit item + 2 * bits_by bit more

-- bit k is set where item k is a number, and bit 32 + k where it is null
abbrev pub pattern_bits : List Known → ℕ
pattern_bits items = bits_by number_bit items + 2 ^ 32 * bits_by null_bit items

-- the symbol and its kind, 0 for a function and 1 for a variable
abbrev pub place_word : Sym → ℕ → ℕ
place_word symbol kind = symbol.module * 2 ^ 33 + symbol.item * 2 + kind

-- A function's row is its place, the bits of its pattern, and each item's number or 0. A variable's is its place and 0.
abbrev pub words_of : Demand → List ℕ
words_of (Func symbol pattern) = place_word symbol 0 ∷ pattern_bits pattern ∷ map number_of pattern
words_of (Var symbol) = place_word symbol 1 ∷ 0 ∷ []

-- A symbol that a row can hold.
pub record IsShortSymbol (symbol : Sym) : Type 0 where
  pub short_module : symbol.module < 2 ^ 31
  pub short_item : symbol.item < 2 ^ 32

-- A demand that a row can hold.
pub record FitsRow (d : Demand) : Type 0 where
  pub symbol : IsShortSymbol (symbol_of d)
  pub items : length (pattern_of d) ≤ 32

-- Demands whose order is that of their rows: two variables, or two functions of different places.
abbrev pub IsInRowOrder : Demand → Demand → Type 0
IsInRowOrder (Var s) (Var t) = Unit {0}
IsInRowOrder (Var s) (Func t q) = ⊥
IsInRowOrder (Func s p) (Var t) = ⊥
IsInRowOrder (Func s p) (Func t q) = s ≢ t
