use Rattle.std.proofs.Common.{◌∙◌}
use Rattle.straight_leave.specs.Numbers.{numbers_of}
use Rattle.straight_leave.specs.Places.{place_in}
use Rattle.straight_leave.proofs.Blocks.{block_from_parts}
use Rattle.straight_leave.proofs.body.left_block.Goals as goal

pub returns : goal.returns
returns c =
    block_from_parts c.args.items.now (place_in c.args.rows.now.keys) c.args.whole c.args.cut.now c.args.block.now
    (record { phis = c.in_ok-copied.field-0; insts = c.in_ok-left_insts.field-0; term = c.in_ok-left_term.field-0 }) c.items.result.now c.as_slice-2.result.now c.as_slice-insts.result.now
    c.as_slice-3.result.now c.items.ensures.items c.as_slice-2.ensures c.as_slice-insts.ensures
    (c.as_slice-3.ensures.value ∙ c.in_ok-numbers.ensures ∙ (λ i. numbers_of (c.as_slice.ensures i) (c.as_slice-insts.ensures i))) c.in_ok-copied.ensures c.in_ok-left_insts.ensures
    c.in_ok-left_term.ensures
