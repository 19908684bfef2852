use Rattle.std.proofs.Common.{◌≡◌, ℕ, ◌<◌, ◌≤◌, ◌^◌, map, subst, sym, refl, rules, arith, IfOk, OnOk, OnErr}
use Rattle.ir_types.proofs.Extents.{scalar_extent, array_extent, struct_extent, max_one-align, struct_width-ge_field}
use Rattle.ir_types.specs.Layout.{extent, struct_width, IsTooWide}
use Rattle.ir_types.proofs.layouts.+layout.Goals as goal

pub layout_of-returns-in_err-element-in-Array-clause-wide : goal.layout_of-returns-in_err-element-in-Array-clause-wide
layout_of-returns-in_err-element-in-Array-clause-wide t c =
    let e = array_extent c.args.ty.now _ _ c.in-Array.is in
    let wide : IsTooWide c.args.ty.now = grind arith in
    search rules

pub layout_of-returns-in_err-size-in-Array-clause-wide : goal.layout_of-returns-in_err-size-in-Array-clause-wide
layout_of-returns-in_err-size-in-Array-clause-wide t c =
    let e = array_extent c.args.ty.now _ _ c.in-Array.is in
    let wide : IsTooWide c.args.ty.now = grind arith in
    search rules

pub layout_of-returns-in-One-clause-size : goal.layout_of-returns-in-One-clause-size
layout_of-returns-in-One-clause-size t c = let e = scalar_extent c.args.ty.now c.in-One.scalar c.in-One.is in cc

pub layout_of-returns-in-One-clause-align : goal.layout_of-returns-in-One-clause-align
layout_of-returns-in-One-clause-align t c = let e = scalar_extent c.args.ty.now c.in-One.scalar c.in-One.is in cc

pub layout_of-returns-in-One-clause-narrow : goal.layout_of-returns-in-One-clause-narrow
layout_of-returns-in-One-clause-narrow t c = let e = scalar_extent c.args.ty.now c.in-One.scalar c.in-One.is in omega arith

pub layout_of-returns-in_ok-size-in-Array-clause-size : goal.layout_of-returns-in_ok-size-in-Array-clause-size
layout_of-returns-in_ok-size-in-Array-clause-size t c = let e = array_extent c.args.ty.now _ _ c.in-Array.is in grind arith

pub layout_of-returns-in_ok-size-in-Array-clause-align : goal.layout_of-returns-in_ok-size-in-Array-clause-align
layout_of-returns-in_ok-size-in-Array-clause-align t c = let e = array_extent c.args.ty.now _ _ c.in-Array.is in grind arith

pub layout_of-returns-in_ok-size-in-Array-clause-narrow : goal.layout_of-returns-in_ok-size-in-Array-clause-narrow
layout_of-returns-in_ok-size-in-Array-clause-narrow t c = let e = array_extent c.args.ty.now _ _ c.in-Array.is in grind arith

pub layout_of-returns-in-Struct-clause-size : goal.layout_of-returns-in-Struct-clause-size
layout_of-returns-in-Struct-clause-size t c =
    let e = struct_extent c.args.ty.now _ _ c.in-Struct.is c.as_slice.ensures in
    subst (λ (n : ℕ). IfOk c.struct_layout.result (λ layout. layout.size ≡ n)) (sym e.has_size) c.struct_layout.ensures.size

pub layout_of-returns-in-Struct-clause-align : goal.layout_of-returns-in-Struct-clause-align
layout_of-returns-in-Struct-clause-align t c =
    let e = struct_extent c.args.ty.now _ _ c.in-Struct.is c.as_slice.ensures in
    subst (λ (n : ℕ). IfOk c.struct_layout.result (λ layout. layout.align ≡ n)) (sym e.has_align) c.struct_layout.ensures.align

pub layout_of-returns-in-Struct-clause-narrow : goal.layout_of-returns-in-Struct-clause-narrow
layout_of-returns-in-Struct-clause-narrow t c =
    let e = struct_extent c.args.ty.now _ _ c.in-Struct.is c.as_slice.ensures in
    subst (λ (n : ℕ). OnOk c.struct_layout.result (n < 2 ^ 31)) (sym e.has_width) c.struct_layout.ensures.narrow

pub layout_of-returns-in-Struct-clause-wide : goal.layout_of-returns-in-Struct-clause-wide
layout_of-returns-in-Struct-clause-wide t c =
    let e = struct_extent c.args.ty.now _ _ c.in-Struct.is c.as_slice.ensures in
    subst (λ (n : ℕ). OnErr c.struct_layout.result (2 ^ 31 ≤ n)) (sym e.has_width) c.struct_layout.ensures.wide

pub struct_layout-loop-field-init : goal.struct_layout-loop-field-init
struct_layout-loop-field-init t c = record {
  end = refl;
  align = max_one-align (map extent c.args.fields.now);
  wider = λ h. h;
  within = λ h. h;
  narrow = omega arith;
  positive = omega arith;
  small = omega arith;
}

pub struct_layout-returns-in_err-end-clause-wide : goal.struct_layout-returns-in_err-end-clause-wide
struct_layout-returns-in_err-end-clause-wide t c =
    let far = struct_width-ge_field c.args.fields.now _ c.loop-field.end c.field-item.result c.loop-field-test.true c.field-item.is c.loop-field.invariant.end in
    let wide : 2 ^ 31 ≤ struct_width (map extent c.args.fields.now) = grind arith in
    search rules
