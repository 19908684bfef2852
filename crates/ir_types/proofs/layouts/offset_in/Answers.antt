use Rattle.std.proofs.Common.{◌≤◌, ◌^◌, map, rules, arith}
use Rattle.ir_types.proofs.Extents.{struct_width-ge_field, greatest_width-ge}
use Rattle.ir_types.specs.Layout.{extent, struct_width}
use Rattle.ir_types.proofs.layouts.offset_in.Goals as goal

pub returns-in_err-field-clause-wide : goal.returns-in_err-field-clause-wide
returns-in_err-field-clause-wide c =
    let far = greatest_width-ge c.args.fields.now _ c.index-fields-k.result c.loop-k-test.true c.index-fields-k.is in
    let wide : 2 ^ 31 ≤ struct_width (map extent c.args.fields.now) = grind arith in
    search rules

pub returns-in_err-offset-clause-wide : goal.returns-in_err-offset-clause-wide
returns-in_err-offset-clause-wide c =
    let far = struct_width-ge_field c.args.fields.now _ c.loop-k.end c.index-fields-k.result c.loop-k-test.true c.index-fields-k.is c.loop-k.invariant.end in
    let wide : 2 ^ 31 ≤ struct_width (map extent c.args.fields.now) = grind arith in
    search rules

pub returns-in_err-end-clause-wide : goal.returns-in_err-end-clause-wide
returns-in_err-end-clause-wide c =
    let far = struct_width-ge_field c.args.fields.now _ c.loop-k.end c.index-fields-k.result c.loop-k-test.true c.index-fields-k.is c.loop-k.invariant.end in
    let wide : 2 ^ 31 ≤ struct_width (map extent c.args.fields.now) = grind arith in
    search rules
