-- the text so far, and then that of the instructions that are left, is the text of all
use Rattle.std.proofs.Common.{◌≡◌, ◌+◌, ◌≤◌, ◌++◌, length, map, drop}
use Rattle.std.specs.List.{filter_map}
use Rattle.ir_lexer.specs.Written.{bytes_of}
use Rattle.ir_syntax.specs.Results.{result_type}
use Rattle.ir_syntax.specs.FormedBody.{item_name}
use Rattle.ir_writer.specs.Instructions.{inst_lines}
use Rattle.ir_writer.proofs.blocks.write_insts.Given as goal

abbrev pub invariant-loop-inst : goal.invariant-loop-inst
invariant-loop-inst l = record {
  few : l.number ≤ l.first + l.inst-index;
  number : l.number + length (filter_map result_type (drop l.inst-index l.insts)) ≡ l.first + length (filter_map result_type l.insts);
  text : l.out ++ bytes_of (inst_lines (map item_name l.items) l.number (drop l.inst-index l.insts)) ≡ l.initial.out ++ bytes_of (inst_lines (map item_name l.items) l.first l.insts);
}
