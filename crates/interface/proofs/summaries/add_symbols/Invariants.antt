-- the symbols so far, and then those of what is left
use Rattle.std.proofs.Common.{◌≡◌, ◌++◌, drop}
use Rattle.std.specs.List.{filter_map}
use Rattle.interface.specs.Summaries.{canonical_of}
use Rattle.interface.proofs.summaries.add_symbols.Given as goal

abbrev pub invariant-loop-place : goal.invariant-loop-place
invariant-loop-place l = l.symbols ++ filter_map (canonical_of l.p l.home) (drop l.place-index l.places) ≡ l.fn.symbols ++ filter_map (canonical_of l.p l.home) l.places
