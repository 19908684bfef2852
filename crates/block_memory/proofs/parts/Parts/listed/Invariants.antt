use Rattle.std.proofs.Common.{◌≡◌, ◌++◌, drop}
use Rattle.block_memory.proofs.parts.Parts.listed.Given as goal

abbrev pub invariant-loop-at : goal.invariant-loop-at
invariant-loop-at l = l.parts ++ drop l.at l.self ≡ l.self
