use Rattle.std.proofs.Common.{refl, replicate}
use Rattle.block_memory.specs.declared.value.Part.TheVariants as part
use Rattle.block_memory.specs.Blocks.{block_at, with_parts}
use Rattle.block_memory.specs.Mirrors.Writing.{set_from}
use Rattle.memory_rows.proofs.Covering.{put_covers}
use Rattle.memory_rows.proofs.session.Session.write.Goals as goal

pub invariant_of-self : goal.invariant_of-self
invariant_of-self c =
    let s = c.args.self.now in
    record { covers = put_covers s.program s.memory c.write_byte.new.self c.args.of.now c.args.at s.made (λ block. with_parts block (set_from block.parts c.args.at (replicate 1 (part.Num c.args.byte)))) (block_at s.memory c.args.of.now) refl (c.has_byte.ensures c.if-has_byte.true) c.write_byte.ensures s.covers }
