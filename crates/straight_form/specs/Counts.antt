-- How many instructions and terminators a module has.
use Rattle.std.specs.Prelude.{ℕ, Option, None, Some, sum_by}
use Rattle.ir_syntax.specs.declared.body.Body.{Body}
use Rattle.ir_syntax.specs.declared.item.Item.{Item}
use Rattle.ir_syntax.specs.declared.item.Item.TheVariants as item
use Rattle.ir_syntax.specs.declared.item.Module.{Module}
use Rattle.ir_syntax.specs.Results.{count}

abbrev pub body_count : Option Body → ℕ
body_count None = 0
body_count (Some body) = count body

abbrev pub item_count : Item → ℕ
item_count (item.Var v) = 0
item_count (item.Func f) = body_count f.body

abbrev pub instruction_count : Module → ℕ
instruction_count m = sum_by item_count m.items
