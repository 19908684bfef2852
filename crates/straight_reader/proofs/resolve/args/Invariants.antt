-- the arguments so far, and those that are left
use Rattle.std.proofs.Common.{◌≡◌, drop, map, option_map}
use Rattle.straight_form.specs.Resolved.{operands_of, word_arg}
use Rattle.straight_reader.specs.Readings.{extended}
use Rattle.straight_reader.proofs.resolve.args.Given as goal

abbrev pub invariant-loop-value : goal.invariant-loop-value
invariant-loop-value l =
    extended l.args (option_map (map word_arg) (operands_of l.params l.registers (drop l.value-index l.values))) ≡ option_map (map word_arg) (operands_of l.params l.registers l.values)
