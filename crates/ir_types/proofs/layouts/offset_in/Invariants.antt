-- the offset is among those of the fields that are left, which lie from the end so far on
use Rattle.std.proofs.Common.{◌≡◌, ◌<◌, ◌≤◌, ◌-◌, ◌^◌, map, drop}
use Rattle.std.specs.List.{slice_get}
use Rattle.ir_types.specs.Layout.{extent, end_from, offsets_from}
use Rattle.ir_types.proofs.layouts.offset_in.Given as goal

abbrev pub invariant-loop-k : goal.invariant-loop-k
invariant-loop-k l = record {
  offset : slice_get (offsets_from l.end (map extent (drop l.k l.fields))) (l.at - l.k) ≡ slice_get (offsets_from 0 (map extent l.fields)) l.at;
  end : end_from l.end (map extent (drop l.k l.fields)) ≡ end_from 0 (map extent l.fields);
  before : l.k ≤ l.at;
  narrow : l.end < 2 ^ 31;
}
