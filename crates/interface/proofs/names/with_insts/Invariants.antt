-- the names so far, and then those that are left, are those before, and then all
use Rattle.std.proofs.Common.{◌≡◌, ◌++◌, drop}
use Rattle.std.specs.List.{flat_map}
use Rattle.interface.specs.Names.{inst_others}
use Rattle.interface.proofs.names.with_insts.Given as goal

abbrev pub invariant-loop-inst : goal.invariant-loop-inst
invariant-loop-inst l = l.named ++ flat_map inst_others (drop l.inst-index l.insts) ≡ l.fn.named ++ flat_map inst_others l.insts
