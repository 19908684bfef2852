-- the parts so far, and those that are left
use Rattle.std.proofs.Common.{◌-◌, ◌≤◌, length}
use Rattle.ir_grammar.specs.Tokens.{seen}
use Rattle.ir_operands.specs.Mirrors.Naming.{naming}
use Rattle.ir_operands.specs.Operands.{operand_at, typed}
use Rattle.ir_insts.specs.Insts.{is_integer}
use Rattle.ir_operands.proofs.Runs.{Going}
use Rattle.ir_insts.proofs.insts.indices.Given as goal

abbrev pub invariant-reading : goal.invariant-reading
invariant-reading l = record {
  within : l.at ≤ length l.kept;
  going : Going is_integer (typed (operand_at (naming l.names))) (seen l.kept) l.indices l.at;
}

abbrev pub decreases-reading : goal.decreases-reading
decreases-reading l = length l.kept - l.at
