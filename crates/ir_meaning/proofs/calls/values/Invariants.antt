use Rattle.std.proofs.Common.{◌≡◌, ◌++◌, drop, map}
use Rattle.ir_syntax.specs.declared.body.Arg.{Arg}
use Rattle.block_memory.specs.Answers.{Gives, and_then}
use Rattle.ir_steps.specs.Operands.{values}
use Rattle.ir_meaning.specs.Models.{frame_of}
use Rattle.ir_meaning.proofs.calls.values.Given as goal

abbrev pub invariant-loop-arg : goal.invariant-loop-arg
invariant-loop-arg l = and_then (λ more. Gives (l.values.items ++ more)) (values l.p (frame_of l.p l.frame) (map (λ (a : Arg). a.value) (drop l.arg-index l.args))) ≡ values l.p (frame_of l.p l.frame) (map (λ (a : Arg). a.value) l.args)
