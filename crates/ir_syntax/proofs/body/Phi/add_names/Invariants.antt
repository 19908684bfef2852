-- the names so far, and then those that are left, are those before, and then all
use Rattle.std.proofs.Common.{◌≡◌, ◌++◌, drop, map}
use Rattle.std.specs.List.{flat_map}
use Rattle.ir_syntax.specs.Named.{operand_names}
use Rattle.ir_syntax.proofs.body.Phi.add_names.Given as goal

abbrev pub invariant-loop-entry : goal.invariant-loop-entry
invariant-loop-entry l = l.named ++ flat_map operand_names (map (λ entry. entry.0) (drop l.entry-index l.entry-items)) ≡ l.fn.named ++ flat_map operand_names (map (λ entry. entry.0) l.entry-items)
