use Rattle.std.proofs.Common.{◌∙◌, ◌+◌, ◌<◌, ◌++◌, ap, sym, map, length, arith}
use Rattle.std.proofs.lemmas.List.{length-map}
use Rattle.std.proofs.lemmas.Result.{on_ok_weaker}
use Rattle.ir_writer.specs.Constants.{type_parts}
use Rattle.ir_writer.proofs.TypeTexts.{list_step, scalar_bytes, struct_bytes, some_length, array_written, braces_written}
use Rattle.ir_writer.proofs.types.+types.Goals as goal

pub write_types-loop-place-preserved : goal.write_types-loop-place-preserved
write_types-loop-place-preserved t c =
    list_step type_parts c.args.types.now c.loop-place.place (c.loop-place.place + 1) c.index-types-place.result _ _ _ _ c.loop-place-test.true c.index-types-place.is (omega arith)
    c.in_ok-write_separator.ensures c.in_ok-write_type.ensures c.loop-place.invariant

pub write_fields-returns : goal.write_fields-returns
write_fields-returns t c =
    let some : 0 < length c.args.types.now = some_length c.args.types.now c.is_empty.result c.is_empty.ensures c.if-is_empty.false in
    on_ok_weaker c.append-3.result
    (λ e. braces_written (map type_parts c.args.types.now) _ _ _ _ (omega (arith, length-map c.args.types.now type_parts)) c.in_ok-append.ensures.ok c.in_ok-write_types.ensures e)
    c.append-3.ensures.ok

pub write_type-returns-in-One : goal.write_type-returns-in-One
write_type-returns-in-One t c =
    on_ok_weaker c.append.result
    (λ e. e ∙ ap (λ x. c.args.out.now ++ x) (c.scalar_word.ensures ∙ sym (scalar_bytes c.args.ty.now c.in-One.scalar c.in-One.is)))
    c.append.ensures.ok

pub write_type-returns-in_ok-write_type-in-Array : goal.write_type-returns-in_ok-write_type-in-Array
write_type-returns-in_ok-write_type-in-Array t c =
    on_ok_weaker c.append-in-Array-3.result
    (λ e. array_written c.args.ty.now c.in-Array.count c.in-Array.element c.get.result.now _ _ _ _ _ _ c.in-Array.is c.get.ensures
    c.in_ok-append-in-Array.ensures.ok c.in_ok-write_decimal-in-Array.ensures c.in_ok-append-in-Array-2.ensures.ok c.in_ok-write_type-in-Array.ensures e)
    c.append-in-Array-3.ensures.ok

pub write_type-returns-in-Struct : goal.write_type-returns-in-Struct
write_type-returns-in-Struct t c =
    on_ok_weaker c.write_fields.result
    (λ e. e ∙ ap (λ x. c.args.out.now ++ x) (sym (struct_bytes c.args.ty.now c.in-Struct.fields c.as_slice.result.now c.in-Struct.is c.as_slice.ensures)))
    c.write_fields.ensures
