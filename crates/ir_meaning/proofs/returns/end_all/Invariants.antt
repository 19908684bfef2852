use Rattle.std.proofs.Common.{◌≡◌, drop}
use Rattle.ir_steps.specs.Returns.{end_all}
use Rattle.ir_meaning.proofs.returns.end_all.Given as goal

-- what is left to end, ended, leaves what ending all would
abbrev pub invariant-loop-number : goal.invariant-loop-number
invariant-loop-number l = end_all (drop l.number-index l.numbers) l.memory ≡ end_all l.numbers l.fn.memory
