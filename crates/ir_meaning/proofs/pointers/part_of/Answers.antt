use Rattle.std.proofs.Common.{◌∙◌, Some, ap, sym, subst}
use Rattle.std.specs.Prelude.{IsSome}
use Rattle.ir_types.proofs.Walks.{part_at_One, part_at_Array}
use Rattle.ir_syntax.specs.IndexWalks.{index_of}
use Rattle.ir_meaning.proofs.Strided.{part_names, part_is}
use Rattle.ir_meaning.proofs.pointers.part_of.Goals as goal

pub unreachable-requires : goal.unreachable-requires
unreachable-requires c =
    let some = subst IsSome (part_at_One c.args.ty.now _ (index_of c.args.index.now) c.in-One.is) c.requires in
    cc (some)

pub returns-in-Array : goal.returns-in-Array
returns-in-Array c = part_at_Array c.args.ty.now _ _ (index_of c.args.index.now) c.in-Array.is ∙ ap Some (sym c.get.ensures)

pub field_of-requires : goal.field_of-requires
field_of-requires c = part_names c.args.ty.now _ (index_of c.args.index.now) c.in-Struct.is c.requires

pub returns-in-Some : goal.returns-in-Some
returns-in-Some c = part_is c.args.ty.now _ (index_of c.args.index.now) c.field_of.result c.in-Struct.is c.field_of.ensures ∙ sym c.in-Some.ensures.value

pub unreachable-requires-in-None : goal.unreachable-requires-in-None
unreachable-requires-in-None c =
    let some = subst IsSome (part_is c.args.ty.now _ (index_of c.args.index.now) c.field_of.result c.in-Struct.is c.field_of.ensures ∙ sym c.in-None.ensures.value) c.requires in
    cc (some)
