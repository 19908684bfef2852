use Rattle.std.proofs.Common.{◌≡◌, drop}
use Rattle.ir_syntax.specs.Typed.{IsNarrow}
use Rattle.block_memory.specs.Answers.{Gives, IsMeant, and_then}
use Rattle.ir_meaning.specs.Models.{frame_of}
use Rattle.ir_meaning.specs.Mirrors.Walking as walking
use Rattle.ir_meaning.proofs.pointers.moved_within.Given as goal

abbrev pub invariant-loop-index : goal.invariant-loop-index
invariant-loop-index l = record {
  narrow : IsNarrow l.part;
  meant : IsMeant (walking.moved_within l.p (frame_of l.p l.frame) l.part (drop l.index-index l.indices));
  left : and_then (λ rest. Gives (walking.sum_of l.by rest)) (walking.moved_within l.p (frame_of l.p l.frame) l.part (drop l.index-index l.indices))
      ≡ and_then (λ rest. Gives (walking.sum_of l.fn.so_far rest)) (walking.moved_within l.p (frame_of l.p l.frame) l.ty l.indices);
}
