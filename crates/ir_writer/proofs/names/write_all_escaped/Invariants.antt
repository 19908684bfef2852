-- the text so far, and then that of the bytes that are left, is the text of all
use Rattle.std.proofs.Common.{◌≡◌, ◌++◌, flat_map, drop}
use Rattle.ir_writer.specs.Names.{escaped}
use Rattle.ir_writer.proofs.names.write_all_escaped.Given as goal

abbrev pub invariant-loop-byte : goal.invariant-loop-byte
invariant-loop-byte l = l.out ++ flat_map escaped (drop l.byte-index l.bytes) ≡ l.initial.out ++ flat_map escaped l.bytes
