-- For each item of a module, whether a body or an initialiser of the module names it.
use Rattle.std.specs.Prelude.{ℕ, Bool, true, false, List, [], ◌∷◌, Option, None, Some, length, map, replicate, slice_get, slice_set}
use Rattle.std.specs.List.{flat_map}
use Rattle.ir_syntax.specs.declared.symbol.Sym.{Sym}
use Rattle.ir_syntax.specs.declared.item.Item.{Item}
use Rattle.ir_syntax.specs.declared.item.Module.{Module}
use Rattle.ir_syntax.specs.Named.{item_names}

-- the row with these places marked
abbrev pub marked_all : List Bool → List ℕ → List Bool
marked_all row [] = row
marked_all row (place ∷ places) = marked_all (slice_set row place true) places

abbrev pub marks_in : List Item → List Bool
marks_in items = marked_all (replicate (length items) false) (flat_map item_names items)

abbrev pub marks_of : List Module → List (List Bool)
marks_of modules = map (λ m. marks_in m.items) modules

abbrev pub mark_or_none : Option Bool → Bool
mark_or_none None = false
mark_or_none (Some mark) = mark

abbrev pub mark_in : Option (List Bool) → ℕ → Bool
mark_in None place = false
mark_in (Some row) place = mark_or_none (slice_get row place)

-- the mark at a symbol's place
abbrev pub mark_at : List (List Bool) → Sym → Bool
mark_at marks symbol = mark_in (slice_get marks symbol.module) symbol.item
