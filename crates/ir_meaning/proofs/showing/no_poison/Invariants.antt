use Rattle.std.proofs.Common.{◌≡◌, drop}
use Rattle.ir_steps.specs.Showing.{no_poison}
use Rattle.ir_meaning.proofs.showing.no_poison.Given as goal

abbrev pub invariant-loop-value : goal.invariant-loop-value
invariant-loop-value l = no_poison (drop l.value-index l.values) ≡ no_poison l.values
