use Rattle.std.proofs.Common.{◌≡◌, Some, ap, sym, ◌∙◌}
use Rattle.block_memory.specs.Blocks.{Live, block_at, put_block}
use Rattle.block_memory.proofs.Copying.{moved_is, same_name-true}
use Rattle.block_memory.proofs.Places.{put_without}
use Rattle.block_memory.proofs.memory.Memory.copy_within.Goals as goal

pub returns : goal.returns
returns c =
    let there : block_at c.args.self.now c.args.from.now.of ≡ Some (Live c.take-block.result) =
    sym (ap (block_at c.args.self.now) (same_name-true c.args.to.now.of c.args.from.now.of c.requires.together)) ∙ c.take-block.ensures.block in
    c.put.ensures
    ∙ ap (λ mem. put_block mem c.args.to.now.of c.move_within.new.self) c.take-block.ensures.rest
    ∙ put_without c.args.self.now c.args.to.now.of c.move_within.new.self
    ∙ ap (put_block c.args.self.now c.args.to.now.of) c.move_within.ensures
    ∙ moved_is c.args.self.now c.args.to.now c.args.from.now c.args.count c.take-block.result c.take-block.result c.take-block.ensures.block there
