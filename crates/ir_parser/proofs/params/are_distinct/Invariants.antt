-- the names so far
use Rattle.std.proofs.Common.{◌≡◌, true, take}
use Rattle.name_table.specs.Places.{are_distinct}
use Rattle.ir_parser.proofs.params.are_distinct.Given as goal

abbrev pub invariant-loop-name : goal.invariant-loop-name
invariant-loop-name l = record {
  names : l.seen ≡ take l.name-index l.names;
  well : are_distinct (take l.name-index l.names) ≡ true;
}
