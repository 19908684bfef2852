-- the text so far, and then that of the parameters that are left, is the text of all
use Rattle.std.proofs.Common.{◌≡◌, ◌++◌, map, drop}
use Rattle.ir_lexer.specs.Written.{bytes_of}
use Rattle.ir_writer.specs.Words.{listed}
use Rattle.ir_writer.specs.Modules.{declared_param}
use Rattle.ir_writer.proofs.TypeTexts.{left_from}
use Rattle.ir_writer.proofs.items.write_declared_params.Given as goal

abbrev pub invariant-loop-place : goal.invariant-loop-place
invariant-loop-place l = l.out ++ bytes_of (left_from l.place (map declared_param (drop l.place l.params))) ≡ l.initial.out ++ bytes_of (listed (map declared_param l.params))
