-- the parts so far, and those that are left
use Rattle.std.proofs.Common.{◌-◌, ◌≤◌, length}
use Rattle.ir_grammar.specs.Tokens.{seen}
use Rattle.ir_operands.specs.Mirrors.Naming.{naming}
use Rattle.ir_terms.specs.Mirrors.Shaped.{begins_case}
use Rattle.ir_terms.specs.Terms.{case_at}
use Rattle.ir_operands.proofs.Runs.{Going}
use Rattle.ir_terms.proofs.terms.listed_cases.Given as goal

abbrev pub invariant-reading : goal.invariant-reading
invariant-reading l = record {
  within : l.at ≤ length l.kept;
  going : Going begins_case (case_at (naming l.names) l.ty) (seen l.kept) l.cases l.at;
}

abbrev pub decreases-reading : goal.decreases-reading
decreases-reading l = length l.kept - l.at
