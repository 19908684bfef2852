-- the types so far, and those of the phis that are left, are all
use Rattle.std.proofs.Common.{◌≡◌, ◌++◌, drop, map}
use Rattle.ir_check.proofs.results.add_block.Given as goal

abbrev pub invariant-loop-phi : goal.invariant-loop-phi
invariant-loop-phi l = l.types.items ++ map (λ phi. phi.ty) (drop l.phi-index l.phi-items) ≡ l.initial.types.items ++ map (λ phi. phi.ty) l.phi-items
