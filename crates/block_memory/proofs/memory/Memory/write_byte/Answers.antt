use Rattle.std.proofs.Common.{◌≡◌, Some, ap, sym, ◌∙◌, replicate}
use Rattle.block_memory.specs.Blocks.{LiveBlock, Live, block_at, put_block, with_parts}
use Rattle.block_memory.specs.declared.value.Part.TheVariants as part
use Rattle.block_memory.specs.Mirrors.Writing.{set_from}
use Rattle.block_memory.proofs.Places.{put_without}
use Rattle.block_memory.proofs.memory.Memory.write_byte.Goals as goal

pub returns : goal.returns
returns c block there =
    let e : Some (Live c.take-block.result) ≡ Some (Live block) = sym c.take-block.ensures.block ∙ there in
    let same : c.take-block.result ≡ block = cc (e) in
    c.put.ensures
    ∙ ap (λ mem. put_block mem c.args.of.now c.fill.new.self) c.take-block.ensures.rest
    ∙ put_without c.args.self.now c.args.of.now c.fill.new.self
    ∙ ap (put_block c.args.self.now c.args.of.now) c.fill.ensures
    ∙ ap (λ (b : LiveBlock). put_block c.args.self.now c.args.of.now (with_parts b (set_from b.parts c.args.at (replicate 1 (part.Num c.args.byte))))) same
