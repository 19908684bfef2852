-- none did so far, so what is left decides
use Rattle.std.proofs.Common.{◌≡◌, drop}
use Rattle.std.specs.List.{list_any}
use Rattle.interface.specs.Roots.{names_symbol}
use Rattle.interface.proofs.root.any_names.Given as goal

abbrev pub invariant-loop-item : goal.invariant-loop-item
invariant-loop-item l = list_any (names_symbol l.p l.symbol l.home) (drop l.item-index l.items) ≡ list_any (names_symbol l.p l.symbol l.home) l.items
