use Rattle.std.proofs.Common.{◌≡◌, ◌∙◌, arith, sum_by, ap}
use Rattle.straight_form.specs.Counts.{item_count, instruction_count}
use Rattle.straight_plan.specs.Left.{size_of}
use Rattle.occam_tool.proofs.LeftCounts.{count_left}
use Rattle.occam_tool.proofs.LeftFormed.{left_formed}
use Rattle.occam_tool.proofs.left.written.Goals as goal

pub count_instructions-requires : goal.count_instructions-requires
count_instructions-requires c =
    let total : sum_by item_count c.as_slice.result.now ≡ sum_by (size_of c.args.module.now.items) c.args.cuts.now =
    ap (sum_by item_count) c.as_slice.ensures ∙ ap instruction_count c.in_ok-left.ensures ∙ count_left c.args.module.now c.args.start.now c.args.cuts.now c.requires.straight c.requires.plan in
    grind (arith, total, c.requires.short)

pub write_module-requires : goal.write_module-requires
write_module-requires c = record {
  formed =
      left_formed c.what_is_left_is_straight.ensures.straight c.what_is_left_is_straight.ensures.names c.straight_modules_are_written.ensures.formed c.args.module.now c.args.start.now c.args.cuts.now
      c.in_ok-left.left c.in_ok-left.ensures c.requires.straight c.requires.plain c.requires.not_named c.requires.plan c.requires.few;
}
