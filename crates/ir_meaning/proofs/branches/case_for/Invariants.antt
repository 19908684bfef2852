use Rattle.std.proofs.Common.{◌≡◌, drop}
use Rattle.ir_steps.specs.Branches.{case_for}
use Rattle.ir_meaning.proofs.branches.case_for.Given as goal

abbrev pub invariant-loop-case : goal.invariant-loop-case
invariant-loop-case l = case_for l.n (drop l.case-index l.cases) l.default ≡ case_for l.n l.cases l.default
