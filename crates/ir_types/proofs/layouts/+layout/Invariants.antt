-- what the fields so far and those that are left make together is what all make
use Rattle.std.proofs.Common.{◌≡◌, ◌<◌, ◌≤◌, ◌^◌, max, map, drop}
use Rattle.ir_types.specs.Layout.{extent, end_from, greatest_align, greatest_width}
use Rattle.ir_types.proofs.layouts.+layout.Given as goal

abbrev pub invariant-struct_layout-loop-field : goal.invariant-struct_layout-loop-field
invariant-struct_layout-loop-field l = record {
  end : end_from l.end (map extent (drop l.field-index l.fields)) ≡ end_from 0 (map extent l.fields);
  align : max l.align (greatest_align (map extent (drop l.field-index l.fields))) ≡ greatest_align (map extent l.fields);
  wider : 2 ^ 31 ≤ greatest_width (map extent (drop l.field-index l.fields)) → 2 ^ 31 ≤ greatest_width (map extent l.fields);
  within : 2 ^ 31 ≤ greatest_width (map extent l.fields) → 2 ^ 31 ≤ greatest_width (map extent (drop l.field-index l.fields));
  narrow : l.end < 2 ^ 31;
  positive : 0 < l.align;
  small : l.align ≤ 8;
}
