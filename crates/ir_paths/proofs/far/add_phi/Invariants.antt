use Rattle.std.proofs.Common.{◌≡◌, ◌++◌, drop, flat_map}
use Rattle.ir_paths.specs.FarUses.{entry_far}
use Rattle.ir_paths.proofs.far.add_phi.Given as goal

abbrev pub invariant-loop-entry : goal.invariant-loop-entry
invariant-loop-entry l =
    l.far.items ++ flat_map (entry_far l.definers l.count) (drop l.entry-index l.entry-items) ≡ l.fn.far.items ++ flat_map (entry_far l.definers l.count) l.entry-items
