-- The first item of a module that uses a register before it is surely defined.
use Rattle.std.specs.Prelude.{ℕ, ◌<◌, List, All, IfSome, length, slice_get, take}
use Rattle.ir_syntax.specs.declared.item.Item.{Item}
use Rattle.ir_syntax.specs.Definite.{DefiniteItem}

pub record IsFirstIndefinite (items : List Item) (place : ℕ) : Type 0 where
  pub within : place < length items
  -- each item before it is definite,
  pub before : All DefiniteItem (take place items)
  -- and it isn't
  pub not_definite : IfSome (slice_get items place) (λ item. DefiniteItem item → ⊥)
