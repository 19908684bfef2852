-- the text so far, and then that of the entries that are left, is the text of all
use Rattle.std.proofs.Common.{◌≡◌, ◌++◌, map, drop}
use Rattle.ir_lexer.specs.Written.{bytes_of}
use Rattle.ir_syntax.specs.FormedBody.{item_name}
use Rattle.ir_writer.specs.Words.{listed}
use Rattle.ir_writer.specs.Instructions.{entry_parts}
use Rattle.ir_writer.proofs.TypeTexts.{left_from}
use Rattle.ir_writer.proofs.instructions.write_entries.Given as goal

abbrev pub invariant-loop-place : goal.invariant-loop-place
invariant-loop-place l = l.out ++ bytes_of (left_from l.place (map (entry_parts (map item_name l.items) l.ty) (drop l.place l.entries))) ≡ l.initial.out ++ bytes_of (listed (map (entry_parts (map item_name l.items) l.ty) l.entries))
