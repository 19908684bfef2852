-- the flags so far, and those that are left
use Rattle.std.proofs.Common.{◌-◌, ◌≤◌, length}
use Rattle.ir_grammar.specs.Tokens.{seen}
use Rattle.ir_operands.proofs.Gathered.{Gathered}
use Rattle.ir_operands.proofs.modifiers.flags.Given as goal

abbrev pub invariant-gathering : goal.invariant-gathering
invariant-gathering l = record {
  within : l.count ≤ length l.kept;
  gathered : Gathered (seen l.kept) l.flags l.count;
}

abbrev pub decreases-gathering : goal.decreases-gathering
decreases-gathering l = length l.kept - l.count
