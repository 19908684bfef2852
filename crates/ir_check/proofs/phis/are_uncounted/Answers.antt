use Rattle.std.proofs.Common.{◌≡◌, ℕ, get_or}
use Rattle.std.proofs.lemmas.List.Elements.{All-more}
use Rattle.ir_check.proofs.Loops.{all_ends}
use Rattle.ir_check.proofs.phis.are_uncounted.Goals as goal

pub loop-block-preserved : goal.loop-block-preserved
loop-block-preserved c = All-more (λ (block : ℕ). get_or c.args.counts.now block 0 ≡ 0) c.args.blocks.now c.loop-block.block-index 0 c.loop-block-test.true c.loop-block.invariant c.if-counts-block-ne0.false

pub returns : goal.returns
returns c = all_ends (λ (block : ℕ). get_or c.args.counts.now block 0 ≡ 0) c.args.blocks.now c.loop-block.block-index c.loop-block-test.false c.loop-block.invariant
