-- The table of the numbers of first results, as the code makes it: for each block of a body, and one more behind the last.
use Rattle.std.specs.Prelude.{ℕ, ◌+◌, List, [], ◌∷◌, length, map, Option, Some, None, slice_get, option_and_then}
use Rattle.ir_syntax.specs.declared.symbol.Sym.{Sym}
use Rattle.ir_syntax.specs.declared.body.Block.{Block}
use Rattle.ir_syntax.specs.declared.body.Body.{Body}
use Rattle.ir_syntax.specs.declared.item.Item.{Item}
use Rattle.ir_syntax.specs.declared.item.Item.TheVariants as item
use Rattle.ir_syntax.specs.declared.item.Module.{Module}
use Rattle.ir_syntax.specs.Results.{block_results}
use Rattle.ir_syntax.specs.Targets.{entry_at}

-- the numbers of the first results of blocks, the first of which has this one
abbrev pub numbers_from : ℕ → List Block → List ℕ
numbers_from n [] = n ∷ []
numbers_from n (block ∷ more) = n ∷ numbers_from (n + length (block_results block)) more

abbrev pub body_numbers : Option Body → List ℕ
body_numbers None = []
body_numbers (Some body) = numbers_from 0 body.blocks

abbrev pub item_numbers : Item → List ℕ
item_numbers (item.Var var) = []
item_numbers (item.Func func) = body_numbers func.body

abbrev pub table_of : List Module → List (List (List ℕ))
table_of modules = map (λ m. map item_numbers m.items) modules

-- the number in a table at a block of an item
abbrev pub number_at : List (List (List ℕ)) → Sym → ℕ → Option ℕ
number_at table symbol block = option_and_then (λ row. slice_get row block) (entry_at table symbol)
