-- the items so far, before those that are read of what is left
use Rattle.std.proofs.Common.{◌≡◌, ◌%◌, ◌/◌, ◌^◌, ◌++◌, length, take, drop}
use Rattle.std.specs.Option.{option_map}
use Rattle.demands.specs.Reading.{read_items}
use Rattle.demands.proofs.reading.pattern_of.Given as goal

abbrev pub invariant-loop-k : goal.invariant-loop-k
invariant-loop-k l =
    (option_map (λ more. take l.k l.items ++ more) (read_items (drop l.k l.params) l.numbers l.nulls (drop l.k l.words)) ≡ read_items l.params (l.bits % 2 ^ 32) (l.bits / 2 ^ 32) l.words)
    × (length l.items ≡ 32)
