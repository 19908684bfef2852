-- the text so far, and then that of the types that are left, is the text of all
use Rattle.std.proofs.Common.{◌≡◌, [], ◌∷◌, ◌++◌, map, drop}
use Rattle.ir_lexer.specs.Written.{bytes_of}
use Rattle.ir_writer.specs.Words.{listed, scalar}
use Rattle.ir_writer.proofs.TypeTexts.{left_from}
use Rattle.ir_writer.proofs.calls.write_scalars.Given as goal

abbrev pub invariant-loop-place : goal.invariant-loop-place
invariant-loop-place l = l.out ++ bytes_of (left_from l.place (map (λ ty. scalar ty ∷ []) (drop l.place l.types))) ≡ l.initial.out ++ bytes_of (listed (map (λ ty. scalar ty ∷ []) l.types))
