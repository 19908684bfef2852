use Rattle.std.proofs.Common.{◌≡◌, ◌++◌, drop, flat_map}
use Rattle.ir_paths.specs.FarUses.{phi_far}
use Rattle.ir_paths.proofs.far.add_block.Given as goal

abbrev pub invariant-loop-phi : goal.invariant-loop-phi
invariant-loop-phi l =
    l.far.items ++ flat_map (phi_far l.definers l.count) (drop l.phi-index l.phi-items) ≡ l.fn.far.items ++ flat_map (phi_far l.definers l.count) l.phi-items
