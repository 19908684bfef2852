-- the text so far, and then that of the types that are left, is the text of all
use Rattle.std.proofs.Common.{◌≡◌, ◌++◌, map, drop}
use Rattle.ir_lexer.specs.Written.{bytes_of}
use Rattle.ir_writer.specs.Words.{listed}
use Rattle.ir_writer.specs.Constants.{type_parts}
use Rattle.ir_writer.proofs.TypeTexts.{left_from}
use Rattle.ir_writer.proofs.types.+types.Given as goal

abbrev pub invariant-write_types-loop-place : goal.invariant-write_types-loop-place
invariant-write_types-loop-place l = l.out ++ bytes_of (left_from l.place (map type_parts (drop l.place l.types))) ≡ l.initial.out ++ bytes_of (listed (map type_parts l.types))
