use Rattle.std.proofs.Common.{◌≡◌, ◌+◌, ◌++◌, drop, length}
use Rattle.ir_paths.specs.FarUses.{definers_from, far_from}
use Rattle.ir_paths.proofs.far.far_uses.Given as goal

abbrev pub invariant-loop-place : goal.invariant-loop-place
invariant-loop-place l = record {
  added : l.far.items ++ far_from l.definers (length l.blocks) l.place l.first (drop l.place l.blocks) ≡ far_from l.definers (length l.blocks) 0 0 l.blocks;
  count : l.first + length (definers_from l.place (drop l.place l.blocks)) ≡ length l.definers;
}
