-- the instructions so far, and then those that are left
use Rattle.std.proofs.Common.{◌≡◌, ◌++◌, drop, map}
use Rattle.winnowed_form.specs.Bodies.{written_inst}
use Rattle.reach_prune.specs.Mirrors.Shown.{shown_setting}
use Rattle.reach_prune.proofs.bodies.written_insts.Given as goal

abbrev pub invariant-loop-inst : goal.invariant-loop-inst
invariant-loop-inst l = l.made ++ map (written_inst (shown_setting l.w)) (drop l.inst-index l.insts) ≡ map (written_inst (shown_setting l.w)) l.insts
