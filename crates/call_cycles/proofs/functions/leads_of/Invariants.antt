use Rattle.std.proofs.Common.{◌≡◌, ◌++◌, drop}
use Rattle.call_cycles.specs.Mirrors.Numbering.{leads_from}
use Rattle.call_cycles.proofs.functions.leads_of.Given as goal

abbrev pub invariant-loop-item : goal.invariant-loop-item
invariant-loop-item l = l.leads ++ leads_from l.program.targets l.numbers l.home l.item (drop l.item l.items) ≡ leads_from l.program.targets l.numbers l.home 0 l.items
