use Rattle.std.proofs.Common.{◌≡◌, ◌++◌, drop}
use Rattle.ir_syntax.specs.Operands.{operands}
use Rattle.fold_sparse.specs.Looks.{paired, registers}
use Rattle.fold_sparse.proofs.listing.add_inst_uses.Given as goal

abbrev pub invariant-loop-k : goal.invariant-loop-k
invariant-loop-k l = l.pairs ++ paired l.l (registers (drop l.k (operands l.inst))) ≡ l.fn.pairs ++ paired l.l (registers (operands l.inst))
