-- the text so far, and then that of the cases that are left, is the text of all
use Rattle.std.proofs.Common.{◌≡◌, ◌++◌, flat_map, drop}
use Rattle.ir_lexer.specs.Written.{bytes_of}
use Rattle.ir_writer.specs.Instructions.{case_parts}
use Rattle.ir_writer.proofs.terminators.write_cases.Given as goal

abbrev pub invariant-loop-number : goal.invariant-loop-number
invariant-loop-number l = l.out ++ bytes_of (flat_map (case_parts l.ty) (drop l.number-index l.cases)) ≡ l.initial.out ++ bytes_of (flat_map (case_parts l.ty) l.cases)
