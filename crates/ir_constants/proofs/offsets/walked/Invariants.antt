-- the indices so far
use Rattle.std.proofs.Common.{◌≡◌, take, map}
use Rattle.ir_constants.specs.Offsets.{index_of}
use Rattle.ir_constants.proofs.offsets.walked.Given as goal

abbrev pub invariant-loop-ty : goal.invariant-loop-ty
invariant-loop-ty l = l.walked ≡ map index_of (take l.ty-index l.indices)
