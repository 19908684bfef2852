use Rattle.std.proofs.Common.{◌≡◌, List, Some, subst}
use Rattle.ir_syntax.specs.declared.item.Module.{Module}
use Rattle.demands.specs.Faults.{IsNoneOrNoMemory}
use Rattle.demands.specs.Reading.{read_row}
use Rattle.straight_fold.proofs.Pieces.{piece-found, piece-missed}
use Rattle.straight_fold.proofs.expander.ExpanderExpand.expand.Goals as goal

pub returns-in-Ok-Func : goal.returns-in-Ok-Func
returns-in-Ok-Func c =
    let items = c.items_of-items in
    let read = subst (λ (ms : List Module). read_row ms c.args.row.now ≡ Some c.in-Ok-Func.field-0) c.modules.ensures.modules c.in-Ok-Func.ensures.read in
    piece-found c.args.self.now.program.now items.result.now c.args.row.now c.in-Ok-Func.func c.in-Ok-Func.pattern c.in-Ok-Func.field-0 c.piece_of.result
    read c.in-Ok-Func.field-0-is items.ensures.items c.piece_of.ensures

pub returns-in-Err-NoDemand : goal.returns-in-Err-NoDemand
returns-in-Err-NoDemand c =
    let nothing = c.nothing-in-Err-NoDemand in
    let none = subst (λ (ms : List Module). IsNoneOrNoMemory (read_row ms c.args.row.now) c.in-Err-NoDemand.field-0) c.modules.ensures.modules c.in-Err-NoDemand.ensures.none_read in
    piece-missed c.args.self.now.program.now c.args.row.now c.in-Err-NoDemand.field-0 nothing.result
    c.in-Err-NoDemand.field-0-is none nothing.ensures.found nothing.ensures.needs nothing.ensures.size
