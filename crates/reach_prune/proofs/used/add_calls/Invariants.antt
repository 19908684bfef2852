-- the names so far, and then those that are left, are those before, and then all
use Rattle.std.proofs.Common.{◌≡◌, ◌++◌, drop}
use Rattle.std.specs.List.{filter_map}
use Rattle.winnowed_form.specs.Names.{inst_name}
use Rattle.reach_prune.specs.Mirrors.Shown.{shown}
use Rattle.reach_prune.proofs.used.add_calls.Given as goal

abbrev pub invariant-loop-inst : goal.invariant-loop-inst
invariant-loop-inst l = l.names ++ filter_map (inst_name (shown l.g) l.home) (drop l.inst-index l.insts) ≡ l.fn.names ++ filter_map (inst_name (shown l.g) l.home) l.insts
