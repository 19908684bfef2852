-- the names so far, and then those that are left, are those before, and then all
use Rattle.std.proofs.Common.{◌≡◌, ◌++◌, drop}
use Rattle.std.specs.Prelude.{flat_map}
use Rattle.winnowed_form.specs.Names.{block_uses}
use Rattle.reach_prune.specs.Mirrors.Shown.{shown}
use Rattle.reach_prune.proofs.used.add_body.Given as goal

abbrev pub invariant-loop-block : goal.invariant-loop-block
invariant-loop-block l = l.names ++ flat_map (block_uses (shown l.g) l.home) (drop l.block-index l.block-items) ≡ l.fn.names ++ flat_map (block_uses (shown l.g) l.home) l.block-items
