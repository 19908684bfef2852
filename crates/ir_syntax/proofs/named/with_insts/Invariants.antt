-- the names so far, and then those that are left, are those before, and then all
use Rattle.std.proofs.Common.{◌≡◌, ◌++◌, drop}
use Rattle.std.specs.List.{flat_map}
use Rattle.ir_syntax.specs.Named.{inst_names}
use Rattle.ir_syntax.proofs.named.with_insts.Given as goal

abbrev pub invariant-loop-inst : goal.invariant-loop-inst
invariant-loop-inst l = l.named ++ flat_map inst_names (drop l.inst-index l.insts) ≡ l.fn.named ++ flat_map inst_names l.insts
