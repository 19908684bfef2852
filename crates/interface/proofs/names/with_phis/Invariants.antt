-- the names so far, and then those that are left, are those before, and then all
use Rattle.std.proofs.Common.{◌≡◌, ◌++◌, drop}
use Rattle.std.specs.List.{flat_map}
use Rattle.ir_syntax.specs.Named.{phi_names}
use Rattle.interface.proofs.names.with_phis.Given as goal

abbrev pub invariant-loop-phi : goal.invariant-loop-phi
invariant-loop-phi l = l.named ++ flat_map phi_names (drop l.phi-index l.phis) ≡ l.fn.named ++ flat_map phi_names l.phis
