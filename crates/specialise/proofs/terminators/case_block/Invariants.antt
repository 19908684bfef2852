-- none was it so far, so what is left decides
use Rattle.std.proofs.Common.{◌≡◌, drop}
use Rattle.specialise.specs.Residual.{case_block}
use Rattle.specialise.proofs.terminators.case_block.Given as goal

abbrev pub invariant-loop-case : goal.invariant-loop-case
invariant-loop-case l = case_block l.number l.default (drop l.case-index l.cases) ≡ case_block l.number l.default l.cases
