use Rattle.std.proofs.Common.{List, map, sym, ap, subst}
use Rattle.ir_syntax.specs.declared.item.Module.{Module}
use Rattle.ir_syntax.specs.FormedBody.{item_name}
use Rattle.straight_plan.specs.Asked.{program_items}
use Rattle.occam_tool.specs.Names.{HavePlainNames}
use Rattle.occam_tool.proofs.TakenArguments.{takes_at}
use Rattle.occam_tool.proofs.left.leave.Goals as goal

pub leave_program-requires-clause-entry : goal.leave_program-requires-clause-entry
leave_program-requires-clause-entry c =
    takes_at c.args.module c.args.entry.now c.args.args.now c.requires.entered c.requires.straight c.requires.words c.in-Some.place (map item_name c.as_slice-2.result.now) c.place_of_entry.result c.in-Some.is
    c.place_of_entry.ensures (ap (map item_name) c.as_slice-2.ensures) c.in_ok-program.program c.in_ok-program.ensures

pub leave_program-requires-clause-plain : goal.leave_program-requires-clause-plain
leave_program-requires-clause-plain c = subst (λ (ms : List Module). HavePlainNames (program_items ms)) (sym c.in_ok-program.ensures) c.requires.plain
