-- Why a module isn't well typed.
use Rattle.std.specs.Prelude.{ℕ, ◌<◌, List, All, IfSome, length, slice_get, take}
use Rattle.ir_syntax.specs.declared.item.Item.{Item}
use Rattle.ir_syntax.specs.declared.item.Module.{Module}
use Rattle.ir_syntax.specs.Typed.{TypedItem}
use Rattle.ir_check.specs.declared.fault.TypeFault.{TypeFault}
use Rattle.ir_check.specs.declared.fault.TypeFault.TheVariants.{IllTyped, OutOfMemory}

-- The item at a place is the first that isn't well typed among these.
pub record IsFirstIllTyped (items : List Item) (at : ℕ) : Type 0 where
  pub within : at < length items
  pub before : All (TypedItem items) (take at items)
  pub here : IfSome (slice_get items at) (λ item. TypedItem items item → ⊥)

-- Memory may be refused at any time.
abbrev pub IsCause : Module → TypeFault → Type 0
IsCause m (IllTyped item) = IsFirstIllTyped m.items item
IsCause m OutOfMemory = Unit {0}
