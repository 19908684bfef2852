use Rattle.std.proofs.Common.{◌≡◌, ◌++◌, drop}
use Rattle.block_memory.specs.Answers.{Gives, and_then}
use Rattle.ir_steps.specs.Branches.{phi_values}
use Rattle.ir_meaning.specs.Models.{frame_of}
use Rattle.ir_meaning.proofs.branches.read_phis.Given as goal

abbrev pub invariant-loop-phi : goal.invariant-loop-phi
invariant-loop-phi l = and_then (λ more. Gives (l.values.items ++ more)) (phi_values l.p (frame_of l.p l.frame) (drop l.phi-index l.phis)) ≡ phi_values l.p (frame_of l.p l.frame) l.phis
