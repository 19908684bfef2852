-- none was it so far, so what is left decides
use Rattle.std.proofs.Common.{◌≡◌, drop}
use Rattle.std.specs.List.{list_any}
use Rattle.interface.specs.Roots.{is_symbol}
use Rattle.interface.proofs.root.is_export.Given as goal

abbrev pub invariant-loop-export : goal.invariant-loop-export
invariant-loop-export l = list_any (is_symbol l.symbol) (drop l.export-index l.export-items) ≡ list_any (is_symbol l.symbol) l.p.exports
