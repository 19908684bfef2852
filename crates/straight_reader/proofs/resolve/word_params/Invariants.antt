-- so many so far
use Rattle.std.proofs.Common.{◌≡◌, replicate}
use Rattle.ir_syntax.specs.Straight.{word_param}
use Rattle.straight_reader.proofs.resolve.word_params.Given as goal

abbrev pub invariant-loop-at : goal.invariant-loop-at
invariant-loop-at l = l.params ≡ replicate l._at word_param
