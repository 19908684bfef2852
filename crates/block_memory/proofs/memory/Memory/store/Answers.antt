use Rattle.std.proofs.Common.{ap, sym, ◌∙◌}
use Rattle.block_memory.specs.Answers.{Gives}
use Rattle.block_memory.specs.Blocks.{put_block}
use Rattle.block_memory.proofs.Meant.{store_of_type}
use Rattle.block_memory.proofs.Places.{store_is, put_without}
use Rattle.block_memory.proofs.memory.Memory.store.Goals as goal

pub returns-clause-answer : goal.returns-clause-answer
returns-clause-answer c =
    store_is c.args.self.now c.args.ty c.args.align c.bytes_of.result c.args.value.now c.args.at.now c.in_ok-spot.spot c.take-block.result c.bytes_of.ensures.value (store_of_type c.args.self.now c.args.ty c.args.align c.args.value.now c.args.at.now c.requires.meant) c.in_ok-spot.ensures c.take-block.ensures.block
    ∙ ap (λ block. Gives (put_block c.args.self.now c.in_ok-spot.spot.of block)) (sym c.put.ensures)
    ∙ ap Gives (sym (put_without c.args.self.now c.in_ok-spot.spot.of c.put.new.self))
    ∙ ap (λ mem. Gives (put_block mem c.in_ok-spot.spot.of c.put.new.self)) (sym c.take-block.ensures.rest)
    ∙ ap Gives (sym c.put-2.ensures)
