-- What holds of an answer that is one of a program's.
use Rattle.std.proofs.Common.{List}
use Rattle.std.specs.Prelude.{ℕ, Result, Ok, Err, IfOk}
use Rattle.ir_syntax.specs.Programs.{ProgramData, IsProgram}
use Rattle.specialise.specs.declared.piece.Piece.{Piece}
use Rattle.winnowed_form.specs.declared.winnowed.ShapeFault.{ShapeFault}
use Rattle.winnowed_form.specs.declared.winnowed.Winnowed.{Winnowed}
use Rattle.winnowed_form.specs.Conditions.{HasWinnowed}

pub again : (p : ProgramData) (pieces : List (List ℕ × Piece)) (Q : Winnowed → Type 0) (r : Result Winnowed ShapeFault) → ((w : Winnowed) → IsProgram p → HasWinnowed p pieces w → Q w)
    → IfOk r (λ w. IsProgram p) → IfOk r (HasWinnowed p pieces) → IfOk r Q
again p pieces Q (Ok w) law program has = law w program has
again p pieces Q (Err fault) law program has = tt
