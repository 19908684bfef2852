-- the text so far, and then that of the phis that are left, is the text of all
use Rattle.std.proofs.Common.{◌≡◌, ◌+◌, ◌++◌, map, drop}
use Rattle.ir_lexer.specs.Written.{bytes_of}
use Rattle.ir_syntax.specs.FormedBody.{item_name}
use Rattle.ir_writer.specs.Instructions.{phi_lines}
use Rattle.ir_writer.proofs.blocks.write_phis.Given as goal

abbrev pub invariant-loop-phi : goal.invariant-loop-phi
invariant-loop-phi l = record {
  number : l.number ≡ l.first + l.phi-index;
  text : l.out ++ bytes_of (phi_lines (map item_name l.items) l.number (drop l.phi-index l.phis)) ≡ l.initial.out ++ bytes_of (phi_lines (map item_name l.items) l.first l.phis);
}
