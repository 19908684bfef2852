-- What stands for each item of each module.
use Rattle.std.specs.Prelude.{ℕ, ◌+◌, List, [], ◌∷◌, Option, None, Some, if◌then◌else◌}
use Rattle.ir_syntax.specs.declared.symbol.Sym.{Sym}
use Rattle.ir_syntax.specs.declared.symbol.Target.{Target}
use Rattle.ir_syntax.specs.declared.symbol.Target.TheVariants as target
use Rattle.ir_syntax.specs.declared.item.Item.{Item}
use Rattle.ir_syntax.specs.declared.item.Module.{Module}
use Rattle.ir_syntax.specs.FormedBody.{item_name}
use Rattle.ir_syntax.specs.Symbols.{linkage_of, is_external}
use Rattle.linker.specs.declared.slot.Slot.{Slot}
use Rattle.linker.specs.Mirrors.Slots.{slot_of}

-- one for each item of a module, the first of which has a place
abbrev pub row_of : {A : Type 0} → (Sym → Item → A) → ℕ → ℕ → List Item → List A
row_of entry m place [] = []
row_of entry m place (found ∷ items) = entry (record { «module» = m; item = place }) found ∷ row_of entry m (place + 1) items

-- one row for each module, the first of which has a place
abbrev pub rows_from : {A : Type 0} → (Sym → Item → A) → ℕ → List Module → List (List A)
rows_from entry m [] = []
rows_from entry m (one ∷ modules) = row_of entry m 0 one.items ∷ rows_from entry (m + 1) modules

abbrev pub target_or_nothing : Option Slot → Target
target_or_nothing None = target.Nothing
target_or_nothing (Some slot) = slot.target

abbrev pub canonical_or_own : Sym → Option Slot → Sym
canonical_or_own symbol None = symbol
canonical_or_own symbol (Some slot) = slot.canonical

abbrev pub target_in : List (List ℕ) → List Slot → Sym → Item → Target
target_in names slots symbol found = if is_external (linkage_of found) then target_or_nothing (slot_of names slots (item_name found)) else target.Def symbol

abbrev pub canonical_in : List (List ℕ) → List Slot → Sym → Item → Sym
canonical_in names slots symbol found = if is_external (linkage_of found) then canonical_or_own symbol (slot_of names slots (item_name found)) else symbol
