use Rattle.std.proofs.Common.{◌∙◌, ◌<◌, ◌^◌, Some, ap, sym, subst, option_map, arith}
use Rattle.ir_types.specs.declared.shape.Ty.{Ty}
use Rattle.ir_types.specs.declared.shape.Stride.TheVariants.{Each, Field}
use Rattle.ir_types.specs.Layout.{size, offset_of}
use Rattle.ir_types.proofs.Extents.{array_extent}
use Rattle.ir_types.proofs.Walks.{stride_at_One, stride_at_Array}
use Rattle.ir_syntax.specs.IndexWalks.{index_of}
use Rattle.ir_syntax.specs.Typed.{IsNarrow}
use Rattle.std.specs.Prelude.{IsSome}
use Rattle.ir_meaning.proofs.Strided.{mapped, stride_names, stride_of}
use Rattle.ir_meaning.proofs.pointers.stride_at.Goals as goal

pub unreachable-requires : goal.unreachable-requires
unreachable-requires c =
    let e = stride_at_One c.args.ty.now _ (index_of c.args.index.now) c.in-One.is in
    let some = subst IsSome e c.requires.there in
    cc (some)

pub size_in-requires : goal.size_in-requires
size_in-requires c =
    let e = array_extent c.args.ty.now _ _ c.in-Array.is in
    subst (λ (t : Ty). IsNarrow t) (sym c.get.ensures) (omega (arith, e.has_width, c.requires.narrow))

pub returns-in-Array : goal.returns-in-Array
returns-in-Array c =
    stride_at_Array c.args.ty.now _ _ (index_of c.args.index.now) c.in-Array.is ∙ ap (λ t. Some (Each (size t))) (sym c.get.ensures) ∙ ap (λ n. Some (Each n)) (sym c.size_in.ensures)

pub field_of-requires : goal.field_of-requires
field_of-requires c = stride_names c.args.ty.now _ (index_of c.args.index.now) c.in-Struct.is c.requires.there

pub offset_in-requires-clause-there : goal.offset_in-requires-clause-there
offset_in-requires-clause-there c =
    mapped Field (offset_of c.args.ty.now c.field_of.result) (subst IsSome (stride_of c.args.ty.now _ (index_of c.args.index.now) c.field_of.result c.in-Struct.is c.field_of.ensures) c.requires.there)

pub returns-in-Struct : goal.returns-in-Struct
returns-in-Struct c = stride_of c.args.ty.now _ (index_of c.args.index.now) c.field_of.result c.in-Struct.is c.field_of.ensures ∙ ap (option_map Field) c.offset_in.ensures
