use Rattle.std.proofs.Common.{ℕ, ◌≤◌, ◌^◌, Some, sym, ◌∙◌, ap, subst, rules, arith}
use Rattle.ir_types.proofs.Extents.{array_extent, struct_extent}
use Rattle.ir_types.proofs.Walks.{stride_at_One, stride_at_Array, stride_of_field, stride_of_none}
use Rattle.std.specs.Option.{option_map}
use Rattle.ir_types.specs.declared.shape.Stride.TheVariants.{Each, Field}
use Rattle.ir_types.specs.Layout.{size, IsTooWide}
use Rattle.ir_types.proofs.walk.stride_at.Goals as goal

pub returns-in_err-layout-in-Array-clause-wide : goal.returns-in_err-layout-in-Array-clause-wide
returns-in_err-layout-in-Array-clause-wide c =
    let e = array_extent c.args.ty.now _ _ c.in-Array.is in
    let wide : IsTooWide c.args.ty.now = grind arith in
    search rules

pub returns-in_err-offset-in-Some-clause-wide : goal.returns-in_err-offset-in-Some-clause-wide
returns-in_err-offset-in-Some-clause-wide c =
    let e = struct_extent c.args.ty.now _ _ c.in-Struct.is c.as_slice.ensures in
    let wide : IsTooWide c.args.ty.now = subst (λ (n : ℕ). 2 ^ 31 ≤ n) (sym e.has_width) c.in_err-offset-in-Some.ensures.wide in
    search rules

pub returns-in-One-clause-ok : goal.returns-in-One-clause-ok
returns-in-One-clause-ok c = sym (stride_at_One _ _ c.args.index c.in-One.is)

pub returns-in_ok-layout-in-Array-clause-ok : goal.returns-in_ok-layout-in-Array-clause-ok
returns-in_ok-layout-in-Array-clause-ok c =
    ap (λ n. Some (Each n)) c.in_ok-layout-in-Array.ensures.size ∙ ap (λ t. Some (Each (size t))) c.get.ensures ∙ sym (stride_at_Array c.args.ty.now _ _ c.args.index c.in-Array.is)

pub returns-in-Some-2-clause-ok : goal.returns-in-Some-2-clause-ok
returns-in-Some-2-clause-ok c =
    ap (option_map Field) (sym c.in-Some-2.is ∙ c.in_ok-offset-in-Some.ensures.ok) ∙ sym (stride_of_field c.args.ty.now _ _ c.args.index _ c.in-Struct.is c.as_slice.ensures c.in-Some.ensures)

pub returns-in-None-2-clause-ok : goal.returns-in-None-2-clause-ok
returns-in-None-2-clause-ok c =
    ap (option_map Field) (sym c.in-None-2.is ∙ c.in_ok-offset-in-Some.ensures.ok) ∙ sym (stride_of_field c.args.ty.now _ _ c.args.index _ c.in-Struct.is c.as_slice.ensures c.in-Some.ensures)

pub returns-in-None-clause-ok : goal.returns-in-None-clause-ok
returns-in-None-clause-ok c = sym (stride_of_none c.args.ty.now _ c.args.index c.in-Struct.is c.in-None.ensures)
