use Rattle.std.proofs.Common.{◌≡◌, ◌+◌, ◌++◌, drop, length}
use Rattle.std.specs.List.{filter_map}
use Rattle.ir_syntax.specs.Results.{result_type}
use Rattle.fold_sparse.specs.Looks.{inst_looks}
use Rattle.fold_sparse.proofs.listing.add_insts.Given as goal

abbrev pub invariant-loop-k : goal.invariant-loop-k
invariant-loop-k l = (l.looks ++ inst_looks l.at l.k l.number (drop l.k l.insts) ≡ l.fn.looks ++ inst_looks l.at 0 l.first l.insts)
    × (l.number + length (filter_map result_type (drop l.k l.insts)) ≡ l.first + length (filter_map result_type l.insts))
