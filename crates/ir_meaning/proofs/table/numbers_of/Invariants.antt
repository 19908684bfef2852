use Rattle.std.proofs.Common.{◌≡◌, ◌++◌, drop}
use Rattle.ir_meaning.specs.Mirrors.Numbering.{numbers_from}
use Rattle.ir_meaning.proofs.table.numbers_of.Given as goal

abbrev pub invariant-loop-block : goal.invariant-loop-block
invariant-loop-block l = l.numbers ++ numbers_from l.first (drop l.block-index l.blocks) ≡ numbers_from 0 l.blocks
