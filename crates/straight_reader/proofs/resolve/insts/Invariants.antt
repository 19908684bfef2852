-- the instructions so far, and those that are left
use Rattle.std.proofs.Common.{◌≡◌, [], take, drop, map}
use Rattle.straight_form.specs.Resolved.{name_of, insts_of}
use Rattle.straight_reader.specs.Readings.{extended}
use Rattle.straight_reader.proofs.resolve.insts.Given as goal

abbrev pub invariant-loop-line : goal.invariant-loop-line
invariant-loop-line l = record {
  made : extended l.insts (insts_of l.functions l.params l.registers (drop l.line-index l.lines)) ≡ insts_of l.functions l.params [] l.lines;
  registers : l.registers ≡ map name_of (take l.line-index l.lines);
}
