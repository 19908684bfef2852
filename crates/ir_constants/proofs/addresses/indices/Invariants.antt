-- the indices so far, and those that are left
use Rattle.std.proofs.Common.{◌≡◌, ◌-◌, ◌≤◌, All, drop, length}
use Rattle.ir_grammar.specs.Tokens.{seen}
use Rattle.ir_constants.specs.Mirrors.Indices.{IsIndex}
use Rattle.ir_constants.specs.Constants.{is_close_paren, index_at}
use Rattle.ir_constants.proofs.Closed.{extended, closed}
use Rattle.ir_constants.proofs.addresses.indices.Given as goal

abbrev pub invariant-reading : goal.invariant-reading
invariant-reading l = record {
  read : extended l.indices l.at (closed is_close_paren index_at (seen (drop l.at l.kept))) ≡ closed is_close_paren index_at (seen l.kept);
  within : l.at ≤ length l.kept;
  numbers : All IsIndex l.indices;
}

abbrev pub decreases-reading : goal.decreases-reading
decreases-reading l = length l.kept - l.at
