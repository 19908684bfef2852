-- the rows so far, and then those of what is left
use Rattle.std.proofs.Common.{◌≡◌, ◌++◌, drop, map}
use Rattle.std.specs.List.{filter_map}
use Rattle.demands.specs.Rows.{words_of}
use Rattle.interface.specs.Asked.{named}
use Rattle.specialise.proofs.needs.add_named.Given as goal

abbrev pub invariant-loop-place : goal.invariant-loop-place
invariant-loop-place l = l.rows.items ++ map words_of (filter_map (named l.p l.home) (drop l.place-index l.places)) ≡ l.fn.rows.items ++ map words_of (filter_map (named l.p l.home) l.places)
