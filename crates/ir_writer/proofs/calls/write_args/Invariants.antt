-- the text so far, and then that of the arguments that are left, is the text of all
use Rattle.std.proofs.Common.{◌≡◌, ◌++◌, map, drop}
use Rattle.ir_lexer.specs.Written.{bytes_of}
use Rattle.ir_syntax.specs.FormedBody.{item_name}
use Rattle.ir_writer.specs.Words.{listed}
use Rattle.ir_writer.specs.Instructions.{arg_parts}
use Rattle.ir_writer.proofs.TypeTexts.{left_from}
use Rattle.ir_writer.proofs.calls.write_args.Given as goal

abbrev pub invariant-loop-place : goal.invariant-loop-place
invariant-loop-place l = l.out ++ bytes_of (left_from l.place (map (arg_parts (map item_name l.items)) (drop l.place l.args))) ≡ l.initial.out ++ bytes_of (listed (map (arg_parts (map item_name l.items)) l.args))
