-- Names that aren't those of copies or intrinsics.
use Rattle.std.specs.Prelude.{◌≡◌, ℕ, nat_eq, Bool, false, List, All, codes}
use Rattle.std.specs.List.{starts_with}
use Rattle.ir_syntax.specs.declared.item.Item.{Item}
use Rattle.ir_syntax.specs.FormedBody.{item_name}
use Rattle.ir_syntax.specs.FormedItem.{is_reserved}

-- The name begins with `(`, as those of copies do.
abbrev pub begins_as_copy : List ℕ → Bool
begins_as_copy name = starts_with nat_eq name (codes "(")

-- no name begins as those of copies
abbrev pub HaveNoCopyNames : List Item → Type 0
HaveNoCopyNames items = All (λ i. begins_as_copy (item_name i) ≡ false) items

-- no name begins with `llvm.`
abbrev pub HaveNoReservedNames : List Item → Type 0
HaveNoReservedNames items = All (λ i. is_reserved (item_name i) ≡ false) items
