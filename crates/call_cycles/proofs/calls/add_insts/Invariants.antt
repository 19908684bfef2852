use Rattle.std.proofs.Common.{◌≡◌, ◌++◌, drop}
use Rattle.std.specs.List.{filter_map}
use Rattle.call_cycles.specs.Mirrors.Numbering.{inst_end}
use Rattle.call_cycles.proofs.calls.add_insts.Given as goal

abbrev pub invariant-loop-inst : goal.invariant-loop-inst
invariant-loop-inst l = l.ends ++ filter_map (inst_end l.leads) (drop l.inst-index l.insts) ≡ l.fn.ends ++ filter_map (inst_end l.leads) l.insts
