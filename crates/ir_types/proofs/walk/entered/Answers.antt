use Rattle.std.proofs.Common.{Some, sym, ◌∙◌, ap}
use Rattle.ir_types.proofs.Walks.{part_at_One, part_at_Array, part_of_field, part_of_none}
use Rattle.ir_types.proofs.walk.entered.Goals as goal

pub returns-in-One : goal.returns-in-One
returns-in-One c = sym (part_at_One _ _ c.args.index c.in-One.is)

pub returns-in-Array : goal.returns-in-Array
returns-in-Array c = ap Some c.get.ensures ∙ sym (part_at_Array c.args.ty.now _ _ c.args.index c.in-Array.is)

pub returns-in-Some : goal.returns-in-Some
returns-in-Some c = c.get-in-Some.ensures.value ∙ sym (part_of_field c.args.ty.now _ c.args.index _ c.in-Struct.is c.in-Some.ensures)

pub returns-in-None : goal.returns-in-None
returns-in-None c = sym (part_of_none c.args.ty.now _ c.args.index c.in-Struct.is c.in-None.ensures)
