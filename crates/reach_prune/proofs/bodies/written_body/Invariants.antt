-- the blocks so far, and then those that are left
use Rattle.std.proofs.Common.{◌≡◌, ◌++◌, drop, map}
use Rattle.winnowed_form.specs.Bodies.{written_block}
use Rattle.reach_prune.specs.Mirrors.Shown.{shown_setting}
use Rattle.reach_prune.proofs.bodies.written_body.Given as goal

abbrev pub invariant-loop-block : goal.invariant-loop-block
invariant-loop-block l = l.blocks ++ map (written_block (shown_setting l.w)) (drop l.block-index l.block-items) ≡ map (written_block (shown_setting l.w)) l.block-items
