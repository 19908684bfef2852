-- the names are those of the modules so far
use Rattle.std.proofs.Common.{take}
use Rattle.winnowed_form.specs.Clashes.{item_names}
use Rattle.reach_prune.specs.Mirrors.Taken.{HaveNames}
use Rattle.reach_prune.proofs.clashes.item_names.Given as goal

abbrev pub invariant-loop-module : goal.invariant-loop-module
invariant-loop-module l = HaveNames (item_names (take l.module-index l.modules)) l.names
