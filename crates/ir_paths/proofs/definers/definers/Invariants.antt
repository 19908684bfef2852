use Rattle.std.proofs.Common.{◌≡◌, ◌++◌, drop}
use Rattle.ir_paths.specs.FarUses.{definers_from}
use Rattle.ir_paths.proofs.definers.definers.Given as goal

abbrev pub invariant-loop-place : goal.invariant-loop-place
invariant-loop-place l = l.definers.items ++ definers_from l.place (drop l.place l.blocks) ≡ definers_from 0 l.blocks
