use Rattle.std.proofs.Common.{◌≡◌, ◌+◌, ◌-◌, take, drop}
use Rattle.ir_syntax.specs.InitialBytes.{address_bytes}
use Rattle.block_memory.specs.Parts.{are_bytes_of}
use Rattle.block_memory.proofs.parts.Parts.are_bytes_of.Given as goal

abbrev pub invariant-loop-k : goal.invariant-loop-k
invariant-loop-k l =
    are_bytes_of l.of l.offset (drop l.k address_bytes) (take (8 - l.k) (drop (l.at + l.k) l.self)) ≡ are_bytes_of l.of l.offset address_bytes (take 8 (drop l.at l.self))
