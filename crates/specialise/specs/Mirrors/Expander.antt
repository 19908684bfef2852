-- What an expander holds, and what it expands a row into.
use Rattle.std.specs.Prelude.{◌≡◌, ℕ, Bool, List}
use Rattle.ir_syntax.specs.Programs.{ProgramData}
use Rattle.interface.specs.Asked.{AreCycles}
use Rattle.specialise.specs.declared.expander.Expander.{Expander}
use Rattle.specialise.specs.declared.piece.Piece.{Piece}
use Rattle.specialise.specs.Pieces.{IsRowExpansion}
use Rattle.specialise.specs.Mirrors.Expanding.{row_needs, row_size}

-- It expands for the program, with the program's call cycles.
pub record IsExpanderOf (p : ProgramData) (e : Expander) : Type 0 where
  pub program : e.program.now ≡ p
  pub cycles : AreCycles p e.cycles

-- The piece is the row's, and its needs and size are those that the row has as functions.
pub record Expands (p : ProgramData) (cycles : List (List Bool)) (row : List ℕ) (piece : Piece) : Type 0 where
  pub is : IsRowExpansion p cycles row piece
  pub needs : piece.calls ≡ row_needs p cycles row
  pub size : piece.size ≡ row_size p row
