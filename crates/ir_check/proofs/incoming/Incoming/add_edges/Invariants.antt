-- the edges so far, and those that are left, are all
use Rattle.std.proofs.Common.{◌≡◌, map, drop}
use Rattle.ir_check.specs.Incoming.{with_edges}
use Rattle.ir_check.proofs.incoming.Incoming.add_edges.Given as goal

abbrev pub invariant-loop-case : goal.invariant-loop-case
invariant-loop-case l =
    with_edges l.self l.from (map (λ case. case.1) (drop l.case-index l.case-items)) ≡ with_edges l.initial.self l.from (map (λ case. case.1) l.case-items)
