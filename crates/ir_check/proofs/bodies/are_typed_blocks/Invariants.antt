-- the blocks so far suit, and nothing is counted
use Rattle.std.proofs.Common.{◌≡◌}
use Rattle.std.specs.Prelude.{All}
use Rattle.ir_check.specs.Scopes.{types_of}
use Rattle.ir_check.proofs.Entered.{SuitSoFar}
use Rattle.ir_check.proofs.bodies.are_typed_blocks.Given as goal

abbrev pub invariant-loop-place : goal.invariant-loop-place
invariant-loop-place l = record {
  none : All (λ n. n ≡ 0) l.counts;
  suit : SuitSoFar (types_of l.scope) l.returns l.blocks l.incoming l.place;
}
