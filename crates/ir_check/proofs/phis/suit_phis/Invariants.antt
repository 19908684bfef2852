-- the phis so far suit the blocks, and nothing is counted
use Rattle.std.proofs.Common.{◌≡◌, take}
use Rattle.std.specs.Prelude.{All}
use Rattle.ir_check.specs.Scopes.{types_of}
use Rattle.ir_check.specs.Suited.{SuitsPhi}
use Rattle.ir_check.proofs.phis.suit_phis.Given as goal

abbrev pub invariant-loop-phi : goal.invariant-loop-phi
invariant-loop-phi l = record {
  suit : All (SuitsPhi (types_of l.scope) l.blocks) (take l.phi-index l.phis);
  none : All (λ n. n ≡ 0) l.counts;
}
