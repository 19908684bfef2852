-- The items of a program of straight-line functions.
use Rattle.std.specs.Prelude.{ℕ, ◌<◌, ◌^◌, List, length, slice_get, IfSome}
use Rattle.ir_syntax.specs.declared.item.Item.{Item}
use Rattle.ir_syntax.specs.Straight.{IsStraightItem}

-- Each is a straight-line function, and a row can hold the place of each.
pub record AreStraightItems (items : List Item) : Type 0 where
  pub each : (place : ℕ) → IfSome (slice_get items place) (IsStraightItem items place)
  pub few : length items < 2 ^ 32
