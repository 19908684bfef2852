-- Names of copies of a function.
use Rattle.std.specs.Prelude.{ℕ, ◌<◌, ◌^◌, List, [], ◌∷◌, ◌++◌, Bool, true, false, cond, map, codes}
use Rattle.std.specs.List.{join_with_byte, list_all}
use Rattle.std.specs.Fmt.{decimal}
use Rattle.ir_types.specs.declared.scalar.Known.{Known}
use Rattle.ir_types.specs.declared.scalar.Known.TheVariants.{Unknown, Num, Null}
use Rattle.demands.specs.Order.{number_of}

-- `_` for unknown, a number in decimal, or `null`
abbrev pub item_text : Known → List ℕ
item_text Unknown = codes "_"
item_text (Num n) = decimal n
item_text Null = codes "null"

-- the items with commas (44) between
abbrev pub items_text : List Known → List ℕ
items_text items = join_with_byte 44 (map item_text items)

abbrev pub is_unknown : Known → Bool
is_unknown Unknown = true
is_unknown (Num n) = false
is_unknown Null = false

-- nothing is known
abbrev pub are_unknown : List Known → Bool
are_unknown items = list_all is_unknown items

-- The items in parentheses before the function's name, which stands alone where nothing is known.
abbrev pub copy_name : List Known → List ℕ → List ℕ
copy_name items name = cond (are_unknown items) name (codes "(" ++ items_text items ++ codes ")" ++ name)

-- Each number is one of 64 bits, as in every pattern.
abbrev pub AreWords : List Known → Type 0
AreWords [] = Unit {0}
AreWords (item ∷ more) = (number_of item < 2 ^ 64) × AreWords more
