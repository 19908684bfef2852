use Rattle.ir_meaning.specs.Models.{frame_of}
use Rattle.ir_meaning.proofs.Walked.{head_rest, along_sums}
use Rattle.ir_meaning.proofs.pointers.moved_along.Goals as goal

pub returns-in-len1-up : goal.returns-in-len1-up
returns-in-len1-up c =
    let p = c.args.p.now in
    along_sums p (frame_of p c.args.frame.now) c.args.ty.now c.args.indices.now c.index-item.result _ c.value-x.result c.size_in.result c.moves-one.result c.moved_within.result
    (head_rest c.args.indices.now c.index-item.result c.in-len1-up.len_at_least c.index-item.is) c.value-x.ensures c.size_in.ensures c.moves-one.ensures c.moved_within.ensures
