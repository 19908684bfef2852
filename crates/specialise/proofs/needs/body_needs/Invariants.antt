-- the rows so far, and then those of what is left
use Rattle.std.proofs.Common.{◌≡◌, ◌++◌, drop, map}
use Rattle.demands.specs.Rows.{words_of}
use Rattle.specialise.specs.Needs.{body_asks}
use Rattle.specialise.proofs.needs.body_needs.Given as goal

abbrev pub invariant-loop-block : goal.invariant-loop-block
invariant-loop-block l = l.rows.items ++ map words_of (body_asks l.p l.cycles l.home (drop l.block-index l.blocks)) ≡ map words_of (body_asks l.p l.cycles l.home l.blocks)
