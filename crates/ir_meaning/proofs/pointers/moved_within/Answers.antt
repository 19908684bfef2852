use Rattle.std.proofs.Common.{◌∙◌, ◌+◌, ◌<◌, ◌≤◌, List, length, drop, ap, sym, arith}
use Rattle.std.proofs.lemmas.List.{drop_all}
use Rattle.ir_types.proofs.ListSteps.{drop_at}
use Rattle.ir_types.specs.declared.scalar.Scalar.{Scalar}
use Rattle.ir_syntax.specs.declared.constant.Operand.{Operand}
use Rattle.ir_syntax.specs.IndexWalks.{index_of}
use Rattle.block_memory.specs.Answers.{Gives, and_then}
use Rattle.ir_meaning.specs.Models.{frame_of}
use Rattle.ir_meaning.specs.Mirrors.Walking as walking
use Rattle.ir_meaning.proofs.Strided.{part_is_narrow}
use Rattle.ir_meaning.proofs.Walked.{within_next}
use Rattle.ir_meaning.proofs.pointers.moved_within.Goals as goal

pub loop-index-preserved : goal.loop-index-preserved
loop-index-preserved c =
    let p = c.args.p.now in
    let f = frame_of p c.args.frame.now in
    let i = c.loop-index.index-index in
    let indices = c.args.indices.now in
    let within : i < length indices = omega arith in
    let split = drop_at indices i c.index-item.result within c.index-item.is in
    let next = within_next p f c.loop-index.part.now c.part_of-part.result.now (drop i indices) c.index-item.result (drop (i + 1) indices) c.loop-index.by c.moved_at.result split c.loop-index.invariant.meant c.moved_at.ensures c.part_of-part.ensures in
    record {
      narrow = part_is_narrow c.loop-index.part.now c.part_of-part.result.now (index_of c.index-item.result) c.loop-index.invariant.narrow c.part_of-part.ensures;
      meant = next.0;
      left = ap (λ b. and_then (λ rest. Gives (walking.sum_of b rest)) (walking.moved_within p f c.part_of-part.result.now (drop (i + 1) indices))) c.sum_of-by.ensures ∙ next.1 ∙ c.loop-index.invariant.left;
    }

pub returns : goal.returns
returns c =
    let p = c.args.p.now in
    let f = frame_of p c.args.frame.now in
    let i = c.loop-index.index-index in
    let indices = c.args.indices.now in
    let past : length indices ≤ i = omega arith in
    sym c.loop-index.invariant.left
    ∙ ap (λ (l : List (Scalar × Operand)). and_then (λ rest. Gives (walking.sum_of c.loop-index.by rest)) (walking.moved_within p f c.loop-index.part.now l)) (drop_all i indices past)
    ∙ ap Gives (sym c.sum_of.ensures)
