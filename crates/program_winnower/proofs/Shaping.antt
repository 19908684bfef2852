-- Why needed pieces aren't assembled is why the program isn't winnowed.
use Rattle.std.proofs.Common.{◌≡◌, ℕ, List, sym, subst}
use Rattle.ir_syntax.specs.Programs.{ProgramData}
use Rattle.specialise.specs.declared.piece.Piece.{Piece}
use Rattle.winnowed_form.specs.declared.winnowed.ShapeFault.{ShapeFault}
use Rattle.winnowed_form.specs.declared.winnowed.ShapeFault.TheVariants as shape
use Rattle.winnowed_form.specs.Conditions.{IsCause}
use Rattle.program_winnower.specs.declared.fault.WinnowFault.{WinnowFault}
use Rattle.program_winnower.specs.Winnowing.{AreFewPieces, RefusesProgram, of_shape}

clashes : (p : ProgramData) (pieces : List (List ℕ × Piece)) (fault : ShapeFault) → AreFewPieces p pieces → IsCause p pieces fault → RefusesProgram p (of_shape fault)
clashes p pieces (shape.NameClash symbol) are clash = record { pieces = pieces; are = are; clash = clash }
clashes p pieces shape.OutOfMemory are clash = tt

pub clash_found : (p : ProgramData) (pieces : List (List ℕ × Piece)) (fault : ShapeFault) (other : WinnowFault) → other ≡ of_shape fault → AreFewPieces p pieces → IsCause p pieces fault → RefusesProgram p other
clash_found p pieces fault other is are clash = subst (RefusesProgram p) (sym is) (clashes p pieces fault are clash)
