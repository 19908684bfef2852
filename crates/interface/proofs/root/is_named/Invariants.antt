-- none did so far, so what is left decides
use Rattle.std.proofs.Common.{◌≡◌, drop}
use Rattle.interface.specs.Roots.{is_named_from, is_named}
use Rattle.interface.proofs.root.is_named.Given as goal

abbrev pub invariant-loop-home : goal.invariant-loop-home
invariant-loop-home l = is_named_from l.p l.symbol l.home (drop l.home l.p.modules) ≡ is_named l.p l.symbol
