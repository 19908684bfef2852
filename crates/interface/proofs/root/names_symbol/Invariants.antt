-- none was it so far, so what is left decides
use Rattle.std.proofs.Common.{◌≡◌, drop}
use Rattle.std.specs.List.{list_any}
use Rattle.interface.specs.Asked.{definition_of}
use Rattle.interface.specs.Roots.{is_definition, names_symbol}
use Rattle.interface.proofs.root.names_symbol.Given as goal

abbrev pub invariant-loop-place : goal.invariant-loop-place
invariant-loop-place l = list_any (λ place. is_definition l.symbol (definition_of l.p l.home place)) (drop l.place-index l.place-items) ≡ names_symbol l.p l.symbol l.home l.item
