-- the rows so far, and then those of what is left
use Rattle.std.proofs.Common.{◌≡◌, ◌++◌, drop, map}
use Rattle.std.specs.List.{filter_map}
use Rattle.demands.specs.Rows.{words_of}
use Rattle.specialise.specs.Needs.{inst_asks}
use Rattle.specialise.proofs.needs.add_calls.Given as goal

abbrev pub invariant-loop-inst : goal.invariant-loop-inst
invariant-loop-inst l =
    l.rows.items ++ map words_of (filter_map (inst_asks l.p l.cycles l.home) (drop l.inst-index l.insts)) ≡ l.fn.rows.items ++ map words_of (filter_map (inst_asks l.p l.cycles l.home) l.insts)
