-- The entry of a module: a function that other modules see.
use Rattle.std.specs.Prelude.{◌≡◌, ℕ, List, length, map, Some, slice_get}
use Rattle.ir_syntax.specs.declared.item.Func.{Func}
use Rattle.ir_syntax.specs.declared.item.Item.TheVariants as item
use Rattle.ir_syntax.specs.declared.item.Linkage.TheVariants.{External}
use Rattle.ir_syntax.specs.declared.item.Module.{Module}
use Rattle.ir_syntax.specs.FormedBody.{item_name}
use Rattle.name_table.specs.Places.{place_among}

-- The module has a function of this name, with so many parameters, that other modules see.
pub record HasEntry (m : Module) (entry : List ℕ) (count : ℕ) : Type 0 where
  pub place : ℕ
  pub func : Func
  pub named : place_among entry (map item_name m.items) ≡ Some place
  pub stands : slice_get m.items place ≡ Some (item.Func func)
  pub seen : func.linkage ≡ External
  pub takes : length func.params ≡ count
