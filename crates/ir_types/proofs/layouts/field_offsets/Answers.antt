use Rattle.std.proofs.Common.{ℕ, List, ◌++◌, ◌≤◌, ◌^◌, map, refl, ap, rules, arith}
use Rattle.ir_types.proofs.Extents.{max_one-align, struct_width-ge_field, greatest_width-ge}
use Rattle.ir_types.specs.Layout.{extent, struct_width, offsets_from}
use Rattle.ir_types.proofs.layouts.field_offsets.Goals as goal

pub loop-field-init : goal.loop-field-init
loop-field-init c = record {
  offsets = ap (λ (xs : List ℕ). xs ++ offsets_from 0 (map extent c.args.fields.now)) c.new-offsets.ensures;
  end = refl;
  align = max_one-align (map extent c.args.fields.now);
  within = λ h. h;
  narrow = omega arith;
  positive = omega arith;
  small = omega arith;
}

pub returns-in_err-field-clause-cause : goal.returns-in_err-field-clause-cause
returns-in_err-field-clause-cause c =
    let far = greatest_width-ge c.args.fields.now _ c.field-item.result c.loop-field-test.true c.field-item.is in
    let wide : 2 ^ 31 ≤ struct_width (map extent c.args.fields.now) = grind arith in
    search rules

pub returns-in_err-offset-clause-cause : goal.returns-in_err-offset-clause-cause
returns-in_err-offset-clause-cause c =
    let far = struct_width-ge_field c.args.fields.now _ c.loop-field.end c.field-item.result c.loop-field-test.true c.field-item.is c.loop-field.invariant.end in
    let wide : 2 ^ 31 ≤ struct_width (map extent c.args.fields.now) = grind arith in
    search rules

pub returns-in_err-end-clause-cause : goal.returns-in_err-end-clause-cause
returns-in_err-end-clause-cause c =
    let far = struct_width-ge_field c.args.fields.now _ c.loop-field.end c.field-item.result c.loop-field-test.true c.field-item.is c.loop-field.invariant.end in
    let wide : 2 ^ 31 ≤ struct_width (map extent c.args.fields.now) = grind arith in
    search rules
