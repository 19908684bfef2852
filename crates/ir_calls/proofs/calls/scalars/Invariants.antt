-- the parts so far, and those that are left
use Rattle.std.proofs.Common.{◌-◌, ◌≤◌, length}
use Rattle.ir_grammar.specs.Tokens.{seen}
use Rattle.ir_operands.specs.Marks.{is_scalar, scalar_at}
use Rattle.ir_operands.proofs.Runs.{Going}
use Rattle.ir_calls.proofs.calls.scalars.Given as goal

abbrev pub invariant-reading : goal.invariant-reading
invariant-reading l = record {
  within : l.at ≤ length l.kept;
  going : Going is_scalar scalar_at (seen l.kept) l.scalars l.at;
}

abbrev pub decreases-reading : goal.decreases-reading
decreases-reading l = length l.kept - l.at
