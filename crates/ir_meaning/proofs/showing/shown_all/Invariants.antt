use Rattle.std.proofs.Common.{◌≡◌, ◌++◌, drop}
use Rattle.block_memory.specs.Answers.{Gives, and_then}
use Rattle.ir_steps.specs.Showing.{shown_all}
use Rattle.ir_meaning.proofs.showing.shown_all.Given as goal

abbrev pub invariant-loop-value : goal.invariant-loop-value
invariant-loop-value l = and_then (λ more. Gives (l.all ++ more)) (shown_all l.p l.memory (drop l.value-index l.values)) ≡ shown_all l.p l.memory l.values
