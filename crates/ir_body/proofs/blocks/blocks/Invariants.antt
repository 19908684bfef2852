-- the blocks so far, and the lines that are left
use Rattle.std.proofs.Common.{◌-◌, ◌≤◌, length}
use Rattle.ir_grammar.specs.Tokens.{seen}
use Rattle.ir_operands.specs.Mirrors.Naming.{naming}
use Rattle.ir_body.specs.Mirrors.Shaped.{begins_line}
use Rattle.ir_body.specs.Lines.{line_at}
use Rattle.ir_body.proofs.Built.{Builds}
use Rattle.ir_body.proofs.blocks.blocks.Given as goal

abbrev pub invariant-reading : goal.invariant-reading
invariant-reading l = record {
  within : l.at ≤ length l.kept;
  builds : Builds begins_line (line_at (naming l.names)) (seen l.kept) l.builder l.at;
}

abbrev pub decreases-reading : goal.decreases-reading
decreases-reading l = length l.kept - l.at
