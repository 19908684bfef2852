use Rattle.std.proofs.Common.{take}
use Rattle.fold_facts.specs.Entering.{Lists}
use Rattle.fold_facts.proofs.entered.Entered.list_all.Given as goal

abbrev pub invariant-loop-edge : goal.invariant-loop-edge
invariant-loop-edge l = Lists l.fn.self l.self l.from (take l.edge-index l.edges)
