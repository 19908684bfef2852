-- the offsets so far, and then those of the fields that are left, which lie from the end so far on, are all; and what both
-- make together is what all make
use Rattle.std.proofs.Common.{◌≡◌, ◌<◌, ◌≤◌, ◌^◌, ◌++◌, max, map, drop}
use Rattle.ir_types.specs.Layout.{extent, end_from, offsets_from, greatest_align, greatest_width}
use Rattle.ir_types.proofs.layouts.field_offsets.Given as goal

abbrev pub invariant-loop-field : goal.invariant-loop-field
invariant-loop-field l = record {
  offsets : l.offsets ++ offsets_from l.end (map extent (drop l.field-index l.fields)) ≡ offsets_from 0 (map extent l.fields);
  end : end_from l.end (map extent (drop l.field-index l.fields)) ≡ end_from 0 (map extent l.fields);
  align : max l.align (greatest_align (map extent (drop l.field-index l.fields))) ≡ greatest_align (map extent l.fields);
  within : 2 ^ 31 ≤ greatest_width (map extent l.fields) → 2 ^ 31 ≤ greatest_width (map extent (drop l.field-index l.fields));
  narrow : l.end < 2 ^ 31;
  positive : 0 < l.align;
  small : l.align ≤ 8;
}
