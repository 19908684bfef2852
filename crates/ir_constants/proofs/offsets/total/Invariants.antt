-- the sum so far, and what is left
use Rattle.std.proofs.Common.{◌≡◌, ◌+◌, ◌^◌, ◌%◌, option_map}
use Rattle.ir_constants.specs.Offsets.{total}
use Rattle.ir_constants.proofs.offsets.total.Given as goal

abbrev pub invariant-loop-index : goal.invariant-loop-index
invariant-loop-index l = option_map (λ n. (l.sum + n) % 2 ^ 64) (total l.index-iterator.a.rest.now l.index-iterator.b.rest.now) ≡ option_map (λ n. n % 2 ^ 64) (total l.indices l.strides)
