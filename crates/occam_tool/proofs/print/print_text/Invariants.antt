use Rattle.std.proofs.Common.{◌≡◌, length}
use Rattle.occam_tool.proofs.Printed.{ToldSo}
use Rattle.occam_tool.proofs.print.print_text.Given as goal

abbrev pub invariant-loop-rest : goal.invariant-loop-rest
invariant-loop-rest g l = record {
  so_far : ToldSo (g.O.Sink.taken l.fn.out) (g.O.Sink.taken l.out) l.text l.rest;
  faults : g.O.Sink.faults l.out ≡ g.O.Sink.faults l.fn.out;
}

abbrev pub decreases-loop-rest : goal.decreases-loop-rest
decreases-loop-rest g l = length l.rest
