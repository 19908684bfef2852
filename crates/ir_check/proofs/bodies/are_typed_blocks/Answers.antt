use Rattle.std.proofs.Common.{ℕ, List, length, subst, sym, ◌∙◌}
use Rattle.std.proofs.lemmas.Bool.{false≢true}
use Rattle.ir_check.specs.Scopes.{types_of}
use Rattle.ir_check.specs.Suited.{SuitsBlock}
use Rattle.ir_check.proofs.Entered.{preds_there, blocks_stop, blocks_go, blocks_end}
use Rattle.ir_check.proofs.bodies.are_typed_blocks.Goals as goal

pub suits_block-requires-clause-there : goal.suits_block-requires-clause-there
suits_block-requires-clause-there c =
    preds_there c.args.blocks.now c.args.incoming.now c.loop-place.place (length c.loop-place.counts) c.of-from.result.now (c.loop-place.auto.counts ∙ c.requires.counts) c.of-from.ensures c.requires.incoming c.loop-place-test.true

pub returns-then-not-suits : goal.returns-then-not-suits
returns-then-not-suits c =
    let types = types_of c.args.scope.now in
    blocks_stop types c.args.returns c.args.blocks.now c.args.incoming.now c.loop-place.place c.index-blocks-place.result c.requires.incoming c.loop-place-test.true c.index-blocks-place.is
    (λ suits. false≢true (sym c.if-not-suits.true ∙ c.in_ok-suits.ensures.suits.1 (subst (λ (preds : List ℕ). SuitsBlock types c.args.returns preds c.index-blocks-place.result) (sym c.of-from.ensures) suits)))

pub loop-place-preserved : goal.loop-place-preserved
loop-place-preserved c =
    let types = types_of c.args.scope.now in
    record {
      none = c.in_ok-suits.ensures.none c.if-not-suits.false;
      suit = blocks_go types c.args.returns c.args.blocks.now c.args.incoming.now c.loop-place.place c.index-blocks-place.result c.loop-place-test.true c.index-blocks-place.is
          (subst (λ (preds : List ℕ). SuitsBlock types c.args.returns preds c.index-blocks-place.result) c.of-from.ensures (c.in_ok-suits.ensures.suits.0 c.if-not-suits.false)) c.loop-place.invariant.suit;
    }

pub returns : goal.returns
returns c = blocks_end (types_of c.args.scope.now) c.args.returns c.args.blocks.now c.args.incoming.now c.loop-place.place c.requires.incoming c.loop-place-test.false c.loop-place.invariant.suit
