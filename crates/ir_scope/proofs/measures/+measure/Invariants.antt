-- the measures so far and those of the fields that are left
use Rattle.std.proofs.Common.{◌≡◌, ◌+◌, ◌≤◌, max, map, sum, drop}
use Rattle.ir_types.specs.Nesting.{nesting, nodes, greatest}
use Rattle.ir_scope.proofs.measures.+measure.Given as goal

abbrev pub invariant-all_measured-loop-field : goal.invariant-all_measured-loop-field
invariant-all_measured-loop-field l = record {
  nesting : max l.all.nesting (greatest (map nesting (drop l.field-index l.fields))) ≡ greatest (map nesting l.fields);
  nests : l.all.nesting ≤ l.depth;
  nodes : l.all.nodes + sum (map nodes (drop l.field-index l.fields)) ≡ sum (map nodes l.fields);
  few : l.all.nodes ≤ l.most;
}
