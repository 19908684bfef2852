use Rattle.std.proofs.Common.{refl}
use Rattle.std.proofs.lemmas.Bool.{false≢true}
use Rattle.ir_check.specs.Scopes.{types_of}
use Rattle.ir_check.specs.Suited.{SuitsPhi}
use Rattle.ir_check.proofs.Loops.{all_stops, all_goes, all_ends}
use Rattle.ir_check.proofs.phis.suit_phis.Goals as goal

pub returns-then-not-suits_phi-clause-suit : goal.returns-then-not-suits_phi-clause-suit
returns-then-not-suits_phi-clause-suit c =
    all_stops (SuitsPhi (types_of c.args.scope.now) c.args.blocks.now) c.args.phis.now c.loop-phi.phi-index c.phi-item.result c.loop-phi-test.true c.phi-item.is (λ suits. false≢true (c.if-not-suits_phi.ensures.suits.1 suits))

pub loop-phi-preserved : goal.loop-phi-preserved
loop-phi-preserved c = record {
  suit = all_goes (SuitsPhi (types_of c.args.scope.now) c.args.blocks.now) c.args.phis.now c.loop-phi.phi-index c.phi-item.result c.loop-phi-test.true c.phi-item.is c.loop-phi.invariant.suit (c.if-not-suits_phi.ensures.suits.0 refl);
  none = c.if-not-suits_phi.ensures.none refl;
}

pub returns-clause-suit : goal.returns-clause-suit
returns-clause-suit c = all_ends (SuitsPhi (types_of c.args.scope.now) c.args.blocks.now) c.args.phis.now c.loop-phi.phi-index c.loop-phi-test.false c.loop-phi.invariant.suit
