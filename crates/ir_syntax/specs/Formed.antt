-- Which modules a text can write.
use Rattle.std.specs.Prelude.{◌≢◌, All, AllPairs, map}
use Rattle.ir_syntax.specs.declared.item.Module.{Module}
use Rattle.ir_syntax.specs.FormedBody.{item_name}
use Rattle.ir_syntax.specs.FormedItem.{FormedItem}

pub record Formed (m : Module) : Type 0 where
  -- no two items have one name
  pub distinct : AllPairs (λ a b. a ≢ b) (map item_name m.items)
  -- each item is one that a text can write, among these items
  pub has_items : All (FormedItem m.items) m.items
