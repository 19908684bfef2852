use Rattle.std.proofs.Common.{Some, ap, sym, ◌∙◌}
use Rattle.ir_check.specs.Walks.{field_by}
use Rattle.ir_check.proofs.WalkLemmas.{part_One, part_Array, part_Struct}
use Rattle.ir_check.proofs.walks.entered.Goals as goal

pub returns-in-One : goal.returns-in-One
returns-in-One c = sym (part_One c.args.ty.now _ c.args.index.now c.in-One.is)

pub returns-in-Array : goal.returns-in-Array
returns-in-Array c = ap Some c.get.ensures ∙ sym (part_Array c.args.ty.now _ _ c.args.index.now c.in-Array.is)

pub returns-in-Struct : goal.returns-in-Struct
returns-in-Struct c =
    c.field.ensures ∙ ap (λ ts. field_by ts c.args.index.now.0 c.args.index.now.1) c.as_slice.ensures ∙ sym (part_Struct c.args.ty.now _ c.args.index.now c.in-Struct.is)
