-- Rows read again, word by word, as the code reads them.
use Rattle.std.specs.Prelude.{ℕ, ◌/◌, ◌%◌, ◌^◌, Bool, true, false, cond, ◌&&◌, ◌==◌, nat_lt, nat_le, List, [], ◌∷◌, length, Option, None, Some, is_some, option_and_then}
use Rattle.std.specs.Option.{option_map}
use Rattle.ir_types.specs.declared.scalar.Scalar.{Scalar}
use Rattle.ir_types.specs.declared.scalar.Known.{Known}
use Rattle.ir_types.specs.declared.scalar.Known.TheVariants.{Unknown, Num, Null}
use Rattle.ir_syntax.specs.declared.symbol.Sym.{Sym}
use Rattle.ir_syntax.specs.declared.item.Param.{Param}
use Rattle.ir_syntax.specs.declared.item.Item.{Item}
use Rattle.ir_syntax.specs.declared.item.Item.TheVariants as item
use Rattle.ir_syntax.specs.declared.item.Module.{Module}
use Rattle.ir_syntax.specs.Suits.{is_number_of, is_pointer}
use Rattle.demands.specs.declared.demand.Demand.{Demand}
use Rattle.demands.specs.declared.demand.Demand.TheVariants.{Func, Var}
use Rattle.demands.specs.Demands.{item_at}

-- null at a pointer has the word 0
abbrev pub is_null_of : Scalar → ℕ → Bool
is_null_of ty word = is_pointer ty && word == 0

-- what a parameter's two bits and its word say
abbrev pub read_known : Scalar → Bool → Bool → ℕ → Option Known
read_known ty true true word = None
read_known ty true false word = cond (is_number_of ty word) (Some (Num word)) None
read_known ty false true word = cond (is_null_of ty word) (Some Null) None
read_known ty false false word = cond (word == 0) (Some Unknown) None

-- an item for each parameter, from the lowest bits on; no bit and no word is left
abbrev pub read_items : List Param → ℕ → ℕ → List ℕ → Option (List Known)
read_items [] numbers nulls [] = cond (numbers == 0 && nulls == 0) (Some []) None
read_items [] numbers nulls (word ∷ words) = None
read_items (param ∷ params) numbers nulls [] = None
read_items (param ∷ params) numbers nulls (word ∷ words) =
    option_and_then (λ known. option_map (λ rest. known ∷ rest) (read_items params (numbers / 2) (nulls / 2) words)) (read_known param.ty (numbers % 2 == 1) (nulls % 2 == 1) word)

-- at most 32 items with a word for each, whose bits are the two halves of a word
abbrev pub read_pattern : List Param → ℕ → List ℕ → Option (List Known)
read_pattern params bits words = cond (nat_le (length params) 32 && length words == length params) (read_items params (bits % 2 ^ 32) (bits / 2 ^ 32) words) None

abbrev pub read_symbol : ℕ → Sym
read_symbol place = record { «module» = place / 2 ^ 33; item = place / 2 % 2 ^ 32 }

abbrev pub is_empty : List ℕ → Bool
is_empty [] = true
is_empty (word ∷ words) = false

-- the demand of an item, of the kind that the row says
abbrev pub read_at : Sym → ℕ → ℕ → List ℕ → Option Item → Option Demand
read_at symbol kind bits words None = None
read_at symbol kind bits words (Some (item.Var var)) = cond (kind == 1 && is_some var.init && bits == 0 && is_empty words) (Some (Var symbol)) None
read_at symbol kind bits words (Some (item.Func func)) =
    cond (kind == 0 && is_some func.body) (option_map (λ pattern. Func symbol pattern) (read_pattern func.params bits words)) None

-- A place is a word of 64 bits, behind it are the bits of a pattern and a word for each of its items.
abbrev pub read_row : List Module → List ℕ → Option Demand
read_row modules [] = None
read_row modules (place ∷ []) = None
read_row modules (place ∷ bits ∷ words) = cond (nat_lt place (2 ^ 64)) (read_at (read_symbol place) (place % 2) bits words (item_at modules (read_symbol place))) None
