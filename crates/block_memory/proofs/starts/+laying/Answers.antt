use Rattle.std.proofs.Common.{◌≡◌, ℕ, ◌+◌, ◌-◌, ◌≤◌, max, length, map, drop, replicate, refl, ap, sym, subst, ◌∙◌, arith}
use Rattle.std.proofs.lemmas.Bool.{ltb-true}
use denote.Param.Weighed.{most, at_most}
use Rattle.ir_types.specs.Layout.{size, extent, round_up, end_from}
use Rattle.ir_syntax.specs.declared.constant.Const.TheViews.{size-Const, sized-Many}
use Rattle.ir_syntax.specs.InitialBytes.{initial_parts}
use Rattle.block_memory.specs.declared.value.Part.TheVariants as part
use Rattle.block_memory.specs.Mirrors.Laying.{IsLaidBefore, elements, fields_behind, items_in}
use Rattle.block_memory.specs.Mirrors.Writing.{set_from}
use Rattle.block_memory.proofs.Laying.{size_scalar, text_size, int_scalar, null_scalar, item_scalar, item_there, int_fits, null_fits, item_fits, address_fits, laid_Int, laid_Null, laid_Addr, laid_Undef, laid_Poison, laid_Zero, laid_Text}
use Rattle.block_memory.proofs.LayingParts.{length-set_from, laid_length, laid_as, laid_before_as, nothing_before, element_before, element_suits, AreElements, are_elements, AreFields, are_fields, next_end, field_suits, field_there, field_narrow, field_within, field_before, all_fields, many_suit, many_bytes}
use Rattle.block_memory.proofs.Writing.{num}
use Rattle.block_memory.proofs.Starting.{has_item}
use Rattle.block_memory.proofs.starts.+laying.Goals as goal

pub lay-scalar_of-requires : goal.lay-scalar_of-requires
lay-scalar_of-requires t c =
    int_scalar (length (items_in c.args.p.now c.args.home)) c.in-Int.number c.args.ty.now c.args.constant.now c.in-Int.is c.requires.suits

pub lay-put-requires-clause-room : goal.lay-put-requires-clause-room
lay-put-requires-clause-room t c =
    omega (arith, size_scalar c.args.ty.now c.scalar_of.result c.scalar_of.ensures, c.requires.room)

pub lay-put-requires-clause-of_type : goal.lay-put-requires-clause-of_type
lay-put-requires-clause-of_type t c =
    int_fits (length (items_in c.args.p.now c.args.home)) c.in-Int.number c.args.ty.now c.args.constant.now c.scalar_of.result c.in-Int.is c.scalar_of.ensures c.requires.suits

pub lay-scalar_of-requires-in-Null : goal.lay-scalar_of-requires-in-Null
lay-scalar_of-requires-in-Null t c =
    null_scalar (length (items_in c.args.p.now c.args.home)) c.args.ty.now c.args.constant.now c.in-Null.is c.requires.suits

pub lay-put-requires-in-Null-clause-room : goal.lay-put-requires-in-Null-clause-room
lay-put-requires-in-Null-clause-room t c =
    omega (arith, size_scalar c.args.ty.now c.scalar_of-in-Null.result c.scalar_of-in-Null.ensures, c.requires.room)

pub lay-put-requires-in-Null-clause-of_type : goal.lay-put-requires-in-Null-clause-of_type
lay-put-requires-in-Null-clause-of_type t c =
    null_fits (length (items_in c.args.p.now c.args.home)) c.args.ty.now c.args.constant.now c.scalar_of-in-Null.result c.in-Null.is c.scalar_of-in-Null.ensures c.requires.suits

pub lay-scalar_of-requires-in-Addr : goal.lay-scalar_of-requires-in-Addr
lay-scalar_of-requires-in-Addr t c =
    item_scalar (length (items_in c.args.p.now c.args.home)) c.in-Addr.item c.in-Addr.offset c.args.ty.now c.args.constant.now c.in-Addr.is c.requires.suits

pub lay-put-requires-in-Addr-clause-room : goal.lay-put-requires-in-Addr-clause-room
lay-put-requires-in-Addr-clause-room t c =
    omega (arith, size_scalar c.args.ty.now c.scalar_of-in-Addr.result c.scalar_of-in-Addr.ensures, c.requires.room)

pub lay-put-requires-in-Addr-clause-of_type : goal.lay-put-requires-in-Addr-clause-of_type
lay-put-requires-in-Addr-clause-of_type t c =
    address_fits _ c.in-Addr.offset c.address_of.result c.scalar_of-in-Addr.result c.address_of.ensures (item_fits (length (items_in c.args.p.now c.args.home)) c.in-Addr.item c.in-Addr.offset c.args.ty.now c.args.constant.now c.scalar_of-in-Addr.result c.in-Addr.is c.scalar_of-in-Addr.ensures c.requires.suits)

pub lay-address_of-requires : goal.lay-address_of-requires
lay-address_of-requires t c =
    has_item c.args.p.now c.args.home c.in-Addr.item (ltb-true c.in-Addr.item (length (items_in c.args.p.now c.args.home)) (item_there (length (items_in c.args.p.now c.args.home)) c.in-Addr.item c.in-Addr.offset c.args.ty.now c.args.constant.now c.in-Addr.is c.requires.suits))

pub lay-lay_text-requires : goal.lay-lay_text-requires
lay-lay_text-requires t c =
    omega (arith, ap length c.as_slice.ensures, text_size (length (items_in c.args.p.now c.args.home)) c.in-Text.bytes c.args.ty.now c.args.constant.now c.in-Text.is c.requires.suits, c.requires.room)

pub lay-returns-in-Int : goal.lay-returns-in-Int
lay-returns-in-Int t c =
    laid_Int c.args.p.now c.args.home c.in-Int.number c.args.ty.now c.args.constant.now c.scalar_of.result c.args.at c.args.parts.now c.put.new.self c.in-Int.is c.scalar_of.ensures c.put.ensures

pub lay-returns-in-Null : goal.lay-returns-in-Null
lay-returns-in-Null t c =
    laid_Null c.args.p.now c.args.home c.args.ty.now c.args.constant.now c.scalar_of-in-Null.result c.args.at c.args.parts.now c.put-in-Null.new.self c.in-Null.is c.scalar_of-in-Null.ensures c.put-in-Null.ensures

pub lay-returns-in-Addr : goal.lay-returns-in-Addr
lay-returns-in-Addr t c =
    laid_Addr c.args.p.now c.args.home c.in-Addr.item c.in-Addr.offset c.args.ty.now c.args.constant.now c.scalar_of-in-Addr.result c.address_of.result c.args.at c.args.parts.now c.put-in-Addr.new.self c.in-Addr.is c.scalar_of-in-Addr.ensures (item_fits (length (items_in c.args.p.now c.args.home)) c.in-Addr.item c.in-Addr.offset c.args.ty.now c.args.constant.now c.scalar_of-in-Addr.result c.in-Addr.is c.scalar_of-in-Addr.ensures c.requires.suits) c.address_of.ensures c.put-in-Addr.ensures

pub lay-returns-in-Undef : goal.lay-returns-in-Undef
lay-returns-in-Undef t c =
    laid_Undef c.args.p.now c.args.home c.args.ty.now c.args.constant.now c.args.at c.bytes_in.result c.args.parts.now c.fill.new.self c.in-Undef.is c.bytes_in.ensures c.fill.ensures

pub lay-returns-in-Poison : goal.lay-returns-in-Poison
lay-returns-in-Poison t c =
    laid_Poison c.args.p.now c.args.home c.args.ty.now c.args.constant.now c.args.at c.bytes_in-in-Poison.result c.args.parts.now c.fill-in-Poison.new.self c.in-Poison.is c.bytes_in-in-Poison.ensures c.fill-in-Poison.ensures

pub lay-returns-in-Zero : goal.lay-returns-in-Zero
lay-returns-in-Zero t c =
    laid_Zero c.args.p.now c.args.home c.args.ty.now c.args.constant.now c.args.at c.bytes_in-in-Zero.result c.args.parts.now c.fill-in-Zero.new.self c.in-Zero.is c.bytes_in-in-Zero.ensures c.fill-in-Zero.ensures

pub lay-returns-in-Text : goal.lay-returns-in-Text
lay-returns-in-Text t c =
    laid_Text c.args.p.now c.args.home (length (items_in c.args.p.now c.args.home)) c.in-Text.bytes c.args.ty.now c.args.constant.now c.args.at c.args.parts.now c.lay_text.new.parts c.in-Text.is c.requires.suits (c.lay_text.ensures ∙ ap (λ bytes. set_from c.args.parts.now c.args.at (map num bytes)) c.as_slice.ensures)

pub lay-returns-in-Many : goal.lay-returns-in-Many
lay-returns-in-Many t c =
    laid_as c.args.p.now c.args.home _ (initial_parts c.args.constant.now c.args.ty.now) c.args.at _ _ c.args.parts.now c.lay_many.new.parts
    (many_bytes c.args.ty.now c.args.constant.now c.in-Many.constants c.as_slice-in-Many.result.now c.in-Many.is c.as_slice-in-Many.ensures) refl c.lay_many.ensures

pub lay_elements-loop-constant-preserved : goal.lay_elements-loop-constant-preserved
lay_elements-loop-constant-preserved t c = record {
  laid =
      subst (λ (n : ℕ). IsLaidBefore c.args.p.now c.args.home (elements c.args.element.now c.args.constants.now) (elements c.args.element.now (drop (c.loop-constant.constant-index + 1) c.args.constants.now)) c.args.at (c.loop-constant.place + n) c.args.parts.now c.lay.new.parts)
      (sym c.bytes_in-size.ensures)
      (element_before c.args.p.now c.args.home c.args.element.now c.args.constants.now c.loop-constant.constant-index c.constant-item.result c.args.at c.loop-constant.place c.args.parts.now c.loop-constant.parts c.lay.new.parts
      c.loop-constant-test.true c.constant-item.is c.loop-constant.invariant.laid c.lay.ensures);
  place = omega (arith, c.bytes_in-size.ensures, c.loop-constant.invariant.place);
  long = laid_length c.args.p.now c.args.home _ _ _ c.loop-constant.parts c.lay.new.parts c.lay.ensures ∙ c.loop-constant.invariant.long;
  suit = (element_suits (length (items_in c.args.p.now c.args.home)) c.args.element.now c.args.constants.now c.loop-constant.constant-index c.constant-item.result c.loop-constant-test.true c.constant-item.is c.loop-constant.invariant.suit).1;
}

pub lay_many-returns-in-Array : goal.lay_many-returns-in-Array
lay_many-returns-in-Array t c =
    let e : AreElements (length (items_in c.args.p.now c.args.home)) c.args.ty.now c.get.result.now c.args.constants.now =
    are_elements (length (items_in c.args.p.now c.args.home)) c.args.ty.now _ _ c.get.result.now c.args.constants.now c.in-Array.is c.get.ensures c.requires.narrow c.requires.suit in
    laid_as c.args.p.now c.args.home _ _ c.args.at _ _ c.args.parts.now c.lay_elements.new.parts (sym e.bytes) (ap (λ n. c.args.at + n) (sym e.has_size)) c.lay_elements.ensures

pub lay_many-returns-in-Struct : goal.lay_many-returns-in-Struct
lay_many-returns-in-Struct t c =
    let e : AreFields (length (items_in c.args.p.now c.args.home)) c.args.ty.now c.as_slice.result.now c.args.constants.now =
    are_fields (length (items_in c.args.p.now c.args.home)) c.args.ty.now _ c.as_slice.result.now c.args.constants.now c.in-Struct.is c.as_slice.ensures c.requires.narrow c.requires.suit in
    laid_as c.args.p.now c.args.home _ _ c.args.at _ _ c.args.parts.now c.lay_fields.new.parts
    (ap (λ n. fields_behind 0 n c.args.constants.now c.as_slice.result.now) c.bytes_in.ensures ∙ sym e.bytes) (ap (λ n. c.args.at + n) c.bytes_in.ensures) c.lay_fields.ensures

pub lay-lay_many-requires : goal.lay-lay_many-requires
lay-lay_many-requires t c =
    let sized : size-Const c.args.constant.now ≡ max (most size-Const c.in-Many.constants) 0 + 1 = ap size-Const c.in-Many.is ∙ sized-Many c.in-Many.constants in
    let same : most size-Const c.as_slice-in-Many.result.now ≡ most size-Const c.in-Many.constants = ap (most size-Const) c.as_slice-in-Many.ensures in
    (omega (arith, sized, same, c.decreases), (many_suit (length (items_in c.args.p.now c.args.home)) c.args.ty.now c.args.constant.now c.in-Many.constants c.as_slice-in-Many.result.now c.in-Many.is c.as_slice-in-Many.ensures c.requires.suits, (c.requires.narrow, c.requires.room)))

pub lay_many-lay_elements-requires : goal.lay_many-lay_elements-requires
lay_many-lay_elements-requires t c =
    let e : AreElements (length (items_in c.args.p.now c.args.home)) c.args.ty.now c.get.result.now c.args.constants.now =
    are_elements (length (items_in c.args.p.now c.args.home)) c.args.ty.now _ _ c.get.result.now c.args.constants.now c.in-Array.is c.get.ensures c.requires.narrow c.requires.suit in
    (omega arith, (e.suit, (e.narrow, omega (arith, e.has_size, c.requires.room))))

pub lay_many-lay_fields-requires : goal.lay_many-lay_fields-requires
lay_many-lay_fields-requires t c =
    let e : AreFields (length (items_in c.args.p.now c.args.home)) c.args.ty.now c.as_slice.result.now c.args.constants.now =
    are_fields (length (items_in c.args.p.now c.args.home)) c.args.ty.now _ c.as_slice.result.now c.args.constants.now c.in-Struct.is c.as_slice.ensures c.requires.narrow c.requires.suit in
    (omega arith, (e.suit, (e.narrow, (c.bytes_in.ensures ∙ e.has_size, omega (arith, c.bytes_in.ensures, c.requires.room)))))

-- ---- fields

pub lay_fields-loop-k-init : goal.lay_fields-loop-k-init
lay_fields-loop-k-init t c = record {
  laid =
      laid_before_as c.args.p.now c.args.home _ _ c.args.at c.args.at (c.args.at + 0) c.args.parts.now c.args.parts.now (omega arith)
      (nothing_before c.args.p.now c.args.home (fields_behind 0 c.args.size c.args.constants.now c.args.fields.now) c.args.at c.args.parts.now);
  long = refl;
  suit = c.requires.suit;
  ends = refl;
  within = omega arith;
}

pub lay_fields-layout_in-layout-requires : goal.lay_fields-layout_in-layout-requires
lay_fields-layout_in-layout-requires t c = field_narrow c.args.fields.now c.loop-k.k c.index-fields-k.result (field_there (length (items_in c.args.p.now c.args.home)) c.args.constants.now c.args.fields.now c.loop-k.k c.loop-k-test.true c.requires.suit) c.index-fields-k.is c.requires.narrow

pub lay_fields-rounded_up-offset-requires-clause-narrow : goal.lay_fields-rounded_up-offset-requires-clause-narrow
lay_fields-rounded_up-offset-requires-clause-narrow t c = omega (arith, c.loop-k.invariant.within, c.requires.size, c.requires.narrow)

pub lay_fields-overflow_add-at : goal.lay_fields-overflow_add-at
lay_fields-overflow_add-at t c = omega (arith, c.loop-k.invariant.within, c.requires.room, c.len-room.ensures, c.len-room.auto)

pub lay_fields-fill-requires : goal.lay_fields-fill-requires
lay_fields-fill-requires t c =
    omega (arith, (field_within c.args.fields.now c.loop-k.k c.loop-k.end c.rounded_up-offset.result c.index-fields-k.result (field_there (length (items_in c.args.p.now c.args.home)) c.args.constants.now c.args.fields.now c.loop-k.k c.loop-k-test.true c.requires.suit) c.index-fields-k.is c.loop-k.invariant.ends (c.rounded_up-offset.ensures.value ∙ ap (round_up c.loop-k.end) c.layout_in-layout.ensures.align)), c.rounded_up-offset.ensures.above, c.requires.size, c.requires.room, c.loop-k.invariant.long)

pub lay_fields-overflow_add-at-in-loop-k : goal.lay_fields-overflow_add-at-in-loop-k
lay_fields-overflow_add-at-in-loop-k t c = omega (arith, (field_within c.args.fields.now c.loop-k.k c.loop-k.end c.rounded_up-offset.result c.index-fields-k.result (field_there (length (items_in c.args.p.now c.args.home)) c.args.constants.now c.args.fields.now c.loop-k.k c.loop-k-test.true c.requires.suit) c.index-fields-k.is c.loop-k.invariant.ends (c.rounded_up-offset.ensures.value ∙ ap (round_up c.loop-k.end) c.layout_in-layout.ensures.align)), c.requires.size, c.requires.room, c.len-room.ensures, c.len-room.auto)

pub lay_fields-lay-requires : goal.lay_fields-lay-requires
lay_fields-lay-requires t c =
    let smaller : size-Const c.index-constants-k.result ≤ most size-Const c.args.constants.now = subst (λ (k : _). size-Const k ≤ most size-Const c.args.constants.now) (sym c.index-constants-k.is) (at_most size-Const c.args.constants.now c.loop-k.k _ c.loop-k-test.true) in
    let long : length c.fill.new.self ≡ length c.loop-k.parts = ap length c.fill.ensures ∙ length-set_from c.loop-k.parts (c.args.at + c.loop-k.end) (replicate (c.rounded_up-offset.result - c.loop-k.end) (part.Num 0)) in (
      omega (arith, smaller, c.decreases),
      (
        (field_suits (length (items_in c.args.p.now c.args.home)) c.args.constants.now c.args.fields.now c.loop-k.k c.index-constants-k.result c.index-fields-k.result c.loop-k-test.true c.index-constants-k.is (field_there (length (items_in c.args.p.now c.args.home)) c.args.constants.now c.args.fields.now c.loop-k.k c.loop-k-test.true c.requires.suit) c.index-fields-k.is c.loop-k.invariant.suit).0,
        (
          field_narrow c.args.fields.now c.loop-k.k c.index-fields-k.result (field_there (length (items_in c.args.p.now c.args.home)) c.args.constants.now c.args.fields.now c.loop-k.k c.loop-k-test.true c.requires.suit) c.index-fields-k.is c.requires.narrow,
          omega (arith, (field_within c.args.fields.now c.loop-k.k c.loop-k.end c.rounded_up-offset.result c.index-fields-k.result (field_there (length (items_in c.args.p.now c.args.home)) c.args.constants.now c.args.fields.now c.loop-k.k c.loop-k-test.true c.requires.suit) c.index-fields-k.is c.loop-k.invariant.ends (c.rounded_up-offset.ensures.value ∙ ap (round_up c.loop-k.end) c.layout_in-layout.ensures.align)), c.requires.size, c.requires.room, c.loop-k.invariant.long, long),
        ),
      ),
    )

pub lay_fields-overflow_add-end : goal.lay_fields-overflow_add-end
lay_fields-overflow_add-end t c = omega (arith, (field_within c.args.fields.now c.loop-k.k c.loop-k.end c.rounded_up-offset.result c.index-fields-k.result (field_there (length (items_in c.args.p.now c.args.home)) c.args.constants.now c.args.fields.now c.loop-k.k c.loop-k-test.true c.requires.suit) c.index-fields-k.is c.loop-k.invariant.ends (c.rounded_up-offset.ensures.value ∙ ap (round_up c.loop-k.end) c.layout_in-layout.ensures.align)), c.layout_in-layout.ensures.size, c.requires.size, c.requires.room, c.len-room.ensures, c.len-room.auto)

pub lay_fields-loop-k-preserved : goal.lay_fields-loop-k-preserved
lay_fields-loop-k-preserved t c = record {
  laid = subst (λ (n : ℕ). IsLaidBefore c.args.p.now c.args.home (fields_behind 0 c.args.size c.args.constants.now c.args.fields.now) (fields_behind (c.rounded_up-offset.result + n) c.args.size (drop (c.loop-k.k + 1) c.args.constants.now) (drop (c.loop-k.k + 1) c.args.fields.now)) c.args.at (c.args.at + (c.rounded_up-offset.result + n)) c.args.parts.now c.lay.new.parts)
      (sym c.layout_in-layout.ensures.size)
      (field_before c.args.p.now c.args.home c.args.size c.args.constants.now c.args.fields.now c.loop-k.k c.index-constants-k.result c.index-fields-k.result c.args.at c.loop-k.end c.rounded_up-offset.result c.args.parts.now c.loop-k.parts c.fill.new.self c.lay.new.parts
      c.loop-k-test.true c.index-constants-k.is (field_there (length (items_in c.args.p.now c.args.home)) c.args.constants.now c.args.fields.now c.loop-k.k c.loop-k-test.true c.requires.suit) c.index-fields-k.is (c.rounded_up-offset.ensures.value ∙ ap (round_up c.loop-k.end) c.layout_in-layout.ensures.align) c.loop-k.invariant.laid c.fill.ensures c.lay.ensures);
  long =
      laid_length c.args.p.now c.args.home _ _ _ c.fill.new.self c.lay.new.parts c.lay.ensures
      ∙ ap length c.fill.ensures ∙ length-set_from c.loop-k.parts (c.args.at + c.loop-k.end) (replicate (c.rounded_up-offset.result - c.loop-k.end) (part.Num 0)) ∙ c.loop-k.invariant.long;
  suit = (field_suits (length (items_in c.args.p.now c.args.home)) c.args.constants.now c.args.fields.now c.loop-k.k c.index-constants-k.result c.index-fields-k.result c.loop-k-test.true c.index-constants-k.is (field_there (length (items_in c.args.p.now c.args.home)) c.args.constants.now c.args.fields.now c.loop-k.k c.loop-k-test.true c.requires.suit) c.index-fields-k.is c.loop-k.invariant.suit).1;
  ends =
      ap (λ n. end_from (c.rounded_up-offset.result + n) (map extent (drop (c.loop-k.k + 1) c.args.fields.now))) c.layout_in-layout.ensures.size
      ∙ ap (λ n. end_from (n + size c.index-fields-k.result) (map extent (drop (c.loop-k.k + 1) c.args.fields.now))) (c.rounded_up-offset.ensures.value ∙ ap (round_up c.loop-k.end) c.layout_in-layout.ensures.align)
      ∙ next_end c.args.fields.now c.loop-k.k c.loop-k.end c.index-fields-k.result (field_there (length (items_in c.args.p.now c.args.home)) c.args.constants.now c.args.fields.now c.loop-k.k c.loop-k-test.true c.requires.suit) c.index-fields-k.is c.loop-k.invariant.ends;
  within = omega (arith, (field_within c.args.fields.now c.loop-k.k c.loop-k.end c.rounded_up-offset.result c.index-fields-k.result (field_there (length (items_in c.args.p.now c.args.home)) c.args.constants.now c.args.fields.now c.loop-k.k c.loop-k-test.true c.requires.suit) c.index-fields-k.is c.loop-k.invariant.ends (c.rounded_up-offset.ensures.value ∙ ap (round_up c.loop-k.end) c.layout_in-layout.ensures.align)), c.layout_in-layout.ensures.size, c.requires.size);
}

pub lay_fields-returns : goal.lay_fields-returns
lay_fields-returns t c =
    all_fields c.args.p.now c.args.home c.args.size c.args.constants.now c.args.fields.now c.loop-k.k c.args.at c.loop-k.end c.args.parts.now c.loop-k.parts c.fill-2.new.self
    (omega (arith, c.loop-k-test.false)) c.loop-k.invariant.within c.loop-k.invariant.laid c.fill-2.ensures
