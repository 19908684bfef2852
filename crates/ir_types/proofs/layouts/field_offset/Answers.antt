use Rattle.std.proofs.Common.{◌≡◌, ◌≤◌, ◌<◌, ◌^◌, ℕ, List, IfOk, length, map, subst, sym, ap, arith}
use Rattle.std.specs.List.{slice_get}
use Rattle.ir_types.proofs.Extents.{fields_at_One, fields_at_Array, fields_at_Struct, struct_extent, there_where_field, on_err}
use Rattle.ir_types.specs.declared.shape.Ty.{Ty}
use Rattle.ir_types.specs.Layout.{extent, offsets_from}
use Rattle.ir_types.proofs.layouts.field_offset.Goals as goal

pub returns-in-One-clause-offset : goal.returns-in-One-clause-offset
returns-in-One-clause-offset c = ap (λ ts. slice_get (offsets_from 0 (map extent ts)) c.args.field) (sym (fields_at_One _ _ c.in-One.is))

pub returns-in-One-clause-there : goal.returns-in-One-clause-there
returns-in-One-clause-there c = let e = ap (length {A = Ty}) (fields_at_One _ _ c.in-One.is) in grind arith

pub returns-in-Array-clause-offset : goal.returns-in-Array-clause-offset
returns-in-Array-clause-offset c = ap (λ ts. slice_get (offsets_from 0 (map extent ts)) c.args.field) (sym (fields_at_Array _ _ _ c.in-Array.is))

pub returns-in-Array-clause-there : goal.returns-in-Array-clause-there
returns-in-Array-clause-there c = let e = ap (length {A = Ty}) (fields_at_Array _ _ _ c.in-Array.is) in grind arith

pub returns-in-Struct-clause-offset : goal.returns-in-Struct-clause-offset
returns-in-Struct-clause-offset c =
    let e = fields_at_Struct c.args.ty.now _ _ c.in-Struct.is c.as_slice.ensures in
    subst (λ (ts : List Ty). IfOk c.offset_in.result (λ offset. offset ≡ slice_get (offsets_from 0 (map extent ts)) c.args.field)) (sym e) c.offset_in.ensures.ok

pub returns-in-Struct-clause-there : goal.returns-in-Struct-clause-there
returns-in-Struct-clause-there c = there_where_field c.args.ty.now c.args.field _ (returns-in-Struct-clause-offset c)

pub returns-in-Struct-clause-wide : goal.returns-in-Struct-clause-wide
returns-in-Struct-clause-wide c =
    let e = struct_extent c.args.ty.now _ _ c.in-Struct.is c.as_slice.ensures in
    let narrow : (extent c.args.ty.now).widest < 2 ^ 31 = c.in_ok-layout_of.ensures.narrow in
    (λ err. subst (λ (n : ℕ). 2 ^ 31 ≤ n) (sym e.has_width) (on_err c.offset_in.result c.offset_in.ensures.wide err), λ wide. absurd (omega arith))
