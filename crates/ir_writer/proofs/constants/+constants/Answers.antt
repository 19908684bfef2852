use Rattle.std.proofs.Common.{◌≡◌, ◌∙◌, ◌+◌, ◌<◌, ◌++◌, ap, sym, map, length, ◌⊎◌, inl, inr, FitsSigned, w64, rules, arith}
use Rattle.std.proofs.lemmas.Int.{to_z-of_z}
use Rattle.std.proofs.lemmas.Result.{on_ok_weaker}
use Rattle.ir_lexer.specs.Written.{bytes_of}
use Rattle.ir_syntax.specs.declared.constant.Const.{Const}
use Rattle.ir_syntax.specs.FormedBody.{item_name}
use Rattle.ir_writer.specs.Constants.{braced, address, typed_part, typed_fields, constant_parts}
use Rattle.ir_writer.proofs.TypeTexts.{list_step, array_layer, none_length, some_length, braces_written}
use Rattle.ir_writer.proofs.ConstantTexts.{number_bytes, null_bytes, address_bytes, undef_bytes, poison_bytes, zero_bytes, text_written, many_bytes, typed_written, elements_written, field_step, fields_over, fields_none, fields_some}
use Rattle.ir_writer.proofs.constants.+constants.Goals as goal
use Rattle.ir_writer.proofs.constants.+constants.Goals.{write_fields-then-is_empty-via-then-is_empty, write_fields-then-is_empty-via-else-is_empty+then-is_empty-2}

pub write_constant-returns-in-Int : goal.write_constant-returns-in-Int
write_constant-returns-in-Int t c =
    on_ok_weaker c.write_number.result
    (λ e. e ∙ ap (λ x. c.args.out.now ++ x) (sym (number_bytes (map item_name c.args.items.now) c.args.ty.now c.args.constant.now c.in-Int.n c.in-Int.is)))
    c.write_number.ensures

pub write_constant-returns-in-Null : goal.write_constant-returns-in-Null
write_constant-returns-in-Null t c =
    on_ok_weaker c.append.result
    (λ e. e ∙ ap (λ x. c.args.out.now ++ x) (sym (null_bytes (map item_name c.args.items.now) c.args.ty.now c.args.constant.now c.in-Null.is)))
    c.append.ensures.ok

pub write_constant-returns-in-Addr : goal.write_constant-returns-in-Addr
write_constant-returns-in-Addr t c =
    let range : FitsSigned w64 c.in-Addr.offset = search rules in
    on_ok_weaker c.write_address.result
    (λ e. e ∙ ap (λ z. c.args.out.now ++ bytes_of (address (map item_name c.args.items.now) c.in-Addr.place z)) (to_z-of_z w64 c.in-Addr.offset range)
    ∙ ap (λ x. c.args.out.now ++ x) (sym (address_bytes (map item_name c.args.items.now) c.args.ty.now c.args.constant.now c.in-Addr.place c.in-Addr.offset c.in-Addr.is)))
    c.write_address.ensures

pub write_constant-returns-in-Undef : goal.write_constant-returns-in-Undef
write_constant-returns-in-Undef t c =
    on_ok_weaker c.append-in-Undef.result
    (λ e. e ∙ ap (λ x. c.args.out.now ++ x) (sym (undef_bytes (map item_name c.args.items.now) c.args.ty.now c.args.constant.now c.in-Undef.is)))
    c.append-in-Undef.ensures.ok

pub write_constant-returns-in-Poison : goal.write_constant-returns-in-Poison
write_constant-returns-in-Poison t c =
    on_ok_weaker c.append-in-Poison.result
    (λ e. e ∙ ap (λ x. c.args.out.now ++ x) (sym (poison_bytes (map item_name c.args.items.now) c.args.ty.now c.args.constant.now c.in-Poison.is)))
    c.append-in-Poison.ensures.ok

pub write_constant-returns-in-Zero : goal.write_constant-returns-in-Zero
write_constant-returns-in-Zero t c =
    on_ok_weaker c.append-in-Zero.result
    (λ e. e ∙ ap (λ x. c.args.out.now ++ x) (sym (zero_bytes (map item_name c.args.items.now) c.args.ty.now c.args.constant.now c.in-Zero.is)))
    c.append-in-Zero.ensures.ok

pub write_constant-returns-in_ok-append-in-Text : goal.write_constant-returns-in_ok-append-in-Text
write_constant-returns-in_ok-append-in-Text t c =
    on_ok_weaker c.write_quoted.result
    (λ e. text_written (map item_name c.args.items.now) c.args.ty.now c.args.constant.now c.in-Text.bytes c.as_slice.result.now _ _ _ c.in-Text.is c.as_slice.ensures c.in_ok-append-in-Text.ensures.ok e)
    c.write_quoted.ensures

pub write_constant-returns-in-Many : goal.write_constant-returns-in-Many
write_constant-returns-in-Many t c =
    on_ok_weaker c.write_many.result
    (λ e. e ∙ ap (λ x. c.args.out.now ++ x) (sym (many_bytes (map item_name c.args.items.now) c.args.ty.now c.args.constant.now c.in-Many.parts c.as_slice-in-Many.result.now c.in-Many.is c.as_slice-in-Many.ensures)))
    c.write_many.ensures

pub write_typed_part-returns : goal.write_typed_part-returns
write_typed_part-returns t c =
    on_ok_weaker c.write_constant.result
    (λ e. typed_written (constant_parts (map item_name c.args.items.now) c.args.constant.now) c.args.ty.now _ _ _ _ c.in_ok-write_type.ensures c.in_ok-append.ensures.ok e)
    c.write_constant.ensures

pub write_many-returns-in_ok-write_elements-in-Array : goal.write_many-returns-in_ok-write_elements-in-Array
write_many-returns-in_ok-write_elements-in-Array t c =
    on_ok_weaker c.append-in-Array.result
    (λ e. elements_written (map item_name c.args.items.now) c.args.ty.now c.get.result.now c.in-Array.field-0 c.args.parts.now _ _ _ _ (array_layer c.args.ty.now _ _ _ c.in-Array.is c.get.ensures)
    c.in_ok-append-in-Array.ensures.ok c.in_ok-write_elements-in-Array.ensures e)
    c.append-in-Array.ensures.ok

pub write_elements-loop-place-preserved : goal.write_elements-loop-place-preserved
write_elements-loop-place-preserved t c =
    list_step (λ (constant : Const). typed_part (constant_parts (map item_name c.args.items.now) constant) c.args.element.now) c.args.parts.now c.loop-place.place (c.loop-place.place + 1) c.index-parts-place.result _ _ _ _ c.loop-place-test.true c.index-parts-place.is (omega arith)
    c.in_ok-write_separator.ensures c.in_ok-write_typed_part.ensures c.loop-place.invariant

pub write_typed_fields-returns-then-place-types : goal.write_typed_fields-returns-then-place-types
write_typed_fields-returns-then-place-types t c =
    fields_over (constant_parts (map item_name c.args.items.now)) c.args.parts.now c.args.types.now c.loop-place.place _ _ (omega arith) c.loop-place.invariant

pub write_typed_fields-loop-place-preserved : goal.write_typed_fields-loop-place-preserved
write_typed_fields-loop-place-preserved t c =
    field_step (constant_parts (map item_name c.args.items.now)) c.args.parts.now c.args.types.now c.loop-place.place (c.loop-place.place + 1) c.index-parts-place.result c.index-types-place.result _ _ _ _
    c.loop-place-test.true c.index-parts-place.is (omega arith) c.index-types-place.is (omega arith)
    c.in_ok-write_separator.ensures c.in_ok-write_typed_part.ensures c.loop-place.invariant

pub write_fields-returns-then-is_empty : goal.write_fields-returns-then-is_empty
write_fields-returns-then-is_empty t c =
    on_ok_weaker c.append.result
    (λ e. e ∙ ap (λ lists. c.args.out.now ++ bytes_of (braced lists)) (sym (fields_none (constant_parts (map item_name c.args.items.now)) c.args.parts.now c.args.types.now none)))
    c.append.ensures.ok
  where
    none : (length c.args.types.now ≡ 0) ⊎ (length c.args.parts.now ≡ 0)
    none = elim c.then-is_empty.branch [
      | write_fields-then-is_empty-via-then-is_empty w ↦ inl (none_length c.args.types.now c.is_empty.result c.is_empty.ensures w.if-is_empty.true)
      | write_fields-then-is_empty-via-else-is_empty+then-is_empty-2 w ↦ inr (none_length c.args.parts.now w.is_empty-else-is_empty.result w.is_empty-else-is_empty.ensures w.if-is_empty-2.true)
    ]

pub write_fields-returns : goal.write_fields-returns
write_fields-returns t c =
    let types : 0 < length c.args.types.now = some_length c.args.types.now c.is_empty.result c.is_empty.ensures c.if-is_empty.false in
    let parts : 0 < length c.args.parts.now = some_length c.args.parts.now c.is_empty-else-is_empty.result c.is_empty-else-is_empty.ensures c.if-is_empty-2.false in
    on_ok_weaker c.append-3.result
    (λ e. braces_written (typed_fields (map (constant_parts (map item_name c.args.items.now)) c.args.parts.now) c.args.types.now) _ _ _ _
    (fields_some (constant_parts (map item_name c.args.items.now)) c.args.parts.now c.args.types.now types parts) c.in_ok-append.ensures.ok c.in_ok-write_typed_fields.ensures e)
    c.append-3.ensures.ok
