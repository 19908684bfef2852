-- the parts so far, and those that are left
use Rattle.std.proofs.Common.{◌-◌, ◌≤◌, length}
use Rattle.ir_grammar.specs.Tokens.{seen}
use Rattle.ir_operands.specs.Mirrors.Naming.{naming}
use Rattle.ir_calls.specs.Mirrors.Shaped.{begins_arg}
use Rattle.ir_calls.specs.Calls.{arg_at}
use Rattle.ir_operands.proofs.Runs.{Going}
use Rattle.ir_calls.proofs.calls.listed_args.Given as goal

abbrev pub invariant-reading : goal.invariant-reading
invariant-reading l = record {
  within : l.at ≤ length l.kept;
  going : Going begins_arg (arg_at (naming l.names)) (seen l.kept) l.args l.at;
}

abbrev pub decreases-reading : goal.decreases-reading
decreases-reading l = length l.kept - l.at
