-- the parts so far, and those that are left
use Rattle.std.proofs.Common.{◌-◌, ◌≤◌, length}
use Rattle.ir_grammar.specs.Tokens.{seen}
use Rattle.ir_operands.specs.Mirrors.Naming.{naming}
use Rattle.ir_terms.specs.Terms.{is_open_square, entry_at}
use Rattle.ir_operands.proofs.Runs.{Going}
use Rattle.ir_terms.proofs.terms.entries.Given as goal

abbrev pub invariant-reading : goal.invariant-reading
invariant-reading l = record {
  within : l.at ≤ length l.kept;
  going : Going is_open_square (entry_at (naming l.names) l.ty) (seen l.kept) l.entries l.at;
}

abbrev pub decreases-reading : goal.decreases-reading
decreases-reading l = length l.kept - l.at
