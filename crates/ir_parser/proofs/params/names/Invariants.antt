-- the names so far, and those that are left
use Rattle.std.proofs.Common.{◌≡◌, ◌≤◌, ◌++◌, map, drop}
use Rattle.ir_parser.specs.Items.{names_from}
use Rattle.ir_parser.proofs.params.names.Given as goal

abbrev pub invariant-loop-param : goal.invariant-loop-param
invariant-loop-param l = record {
  made : l.names ++ names_from l.number (map (λ p. p.1) (drop l.param-index l.params)) ≡ names_from 0 (map (λ p. p.1) l.params);
  few : l.number ≤ l.param-index;
}
