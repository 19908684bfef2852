use Rattle.std.proofs.Common.{List, subst}
use Rattle.ir_syntax.specs.declared.item.Module.{Module}
use Rattle.straight_plan.specs.Asked.{program_items}
use Rattle.occam_tool.specs.Names.{HavePlainNames}
use Rattle.occam_tool.proofs.PlanOfEntry.{plan_of_entry, entry_not_named}
use Rattle.occam_tool.proofs.left.leave_program.Goals as goal

pub written-requires-clause-plan : goal.written-requires-clause-plan
written-requires-clause-plan c =
    plan_of_entry c.least_plan_is_a_plan.ensures c.only_module-module.result.now c.args.program.now c.args.place c.args.args.now c.in_ok-start.start c.in_ok-cuts.cuts c.as_slice.result.now
    c.only_module-module.ensures.only c.only_module-module.ensures.straight c.requires.entry c.in_ok-start.ensures c.in_ok-cuts.ensures.planned c.as_slice.ensures

pub written-requires-clause-not_named : goal.written-requires-clause-not_named
written-requires-clause-not_named c =
    entry_not_named c.only_module-module.result.now c.args.program.now c.args.place c.args.args.now c.in_ok-start.start c.only_module-module.ensures.only c.in_ok-start.ensures

pub written-requires-clause-plain : goal.written-requires-clause-plain
written-requires-clause-plain c = subst (λ (ms : List Module). HavePlainNames (program_items ms)) c.only_module-module.ensures.only c.requires.plain
