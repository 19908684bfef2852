use Rattle.std.proofs.Common.{ap, sym, ◌∙◌}
use Rattle.block_memory.specs.Answers.{Gives}
use Rattle.block_memory.specs.Blocks.{put_block}
use Rattle.block_memory.proofs.Copying.{fill_is}
use Rattle.block_memory.proofs.Places.{put_without}
use Rattle.block_memory.proofs.memory.Memory.fill.Goals as goal

pub returns-clause-answer : goal.returns-clause-answer
returns-clause-answer c =
    fill_is c.args.self.now c.args.to.now c.args.byte.now c.args.len c.byte_of-part.result c.in_ok-spot.spot c.take-block.result c.byte_of-part.ensures c.if-len-eq0.false c.in_ok-spot.ensures c.take-block.ensures.block
    ∙ ap (λ block. Gives (put_block c.args.self.now c.in_ok-spot.spot.of block)) (sym c.fill.ensures)
    ∙ ap Gives (sym (put_without c.args.self.now c.in_ok-spot.spot.of c.fill.new.self))
    ∙ ap (λ mem. Gives (put_block mem c.in_ok-spot.spot.of c.fill.new.self)) (sym c.take-block.ensures.rest)
    ∙ ap Gives (sym c.put.ensures)
