-- the phis so far, and then those that are left
use Rattle.std.proofs.Common.{◌≡◌, ◌++◌, drop, map}
use Rattle.ir_syntax.specs.Mapped.{map_phi}
use Rattle.winnowed_form.specs.Bodies.{written_operand}
use Rattle.reach_prune.specs.Mirrors.Shown.{shown_setting}
use Rattle.reach_prune.proofs.bodies.written_phis.Given as goal

abbrev pub invariant-loop-phi : goal.invariant-loop-phi
invariant-loop-phi l = l.made ++ map (map_phi (written_operand (shown_setting l.w))) (drop l.phi-index l.phis) ≡ map (map_phi (written_operand (shown_setting l.w))) l.phis
