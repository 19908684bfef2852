-- the greatest alignment so far and of the fields that are left
use Rattle.std.proofs.Common.{◌≡◌, ◌<◌, ◌≤◌, max, map, drop}
use Rattle.ir_types.specs.Layout.{align, extent, greatest_align}
use Rattle.ir_types.proofs.layouts.+alignment.Given as goal

abbrev pub invariant-loop-field : goal.invariant-loop-field
invariant-loop-field l = record {
  value : max l.align (greatest_align (map extent (drop l.field-index l.field-items))) ≡ align l.ty;
  positive : 0 < l.align;
  small : l.align ≤ 8;
}
