use Rattle.std.proofs.Common.{◌≡◌, Some, ap, sym, ◌∙◌}
use Rattle.block_memory.specs.Blocks.{Live, block_at, put_block}
use Rattle.block_memory.proofs.Copying.{moved_is, block_without}
use Rattle.block_memory.proofs.Places.{put_without}
use Rattle.block_memory.proofs.memory.Memory.copy_between.Goals as goal

pub returns : goal.returns
returns c =
    let there : block_at c.args.self.now c.args.from.now.of ≡ Some (Live c.block.result.now) =
    sym (ap (λ mem. block_at mem c.args.from.now.of) c.take-block.ensures.rest ∙ block_without c.args.self.now c.args.to.now.of c.args.from.now.of c.requires.apart) ∙ c.block.ensures in
    c.put.ensures
    ∙ ap (λ mem. put_block mem c.args.to.now.of c.copy_from.new.self) c.take-block.ensures.rest
    ∙ put_without c.args.self.now c.args.to.now.of c.copy_from.new.self
    ∙ ap (put_block c.args.self.now c.args.to.now.of) c.copy_from.ensures
    ∙ moved_is c.args.self.now c.args.to.now c.args.from.now c.args.count c.take-block.result c.block.result.now c.take-block.ensures.block there
