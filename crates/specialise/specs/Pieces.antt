-- What demands expand into.
use Rattle.std.specs.Prelude.{◌≡◌, ℕ, Bool, List, [], Option, None, Some, IsSome}
use Rattle.ir_types.specs.declared.scalar.Known.{Known}
use Rattle.ir_syntax.specs.declared.item.Var.{Var}
use Rattle.ir_syntax.specs.declared.item.Func.{Func}
use Rattle.ir_syntax.specs.declared.item.Item.{Item}
use Rattle.ir_syntax.specs.declared.item.Item.TheVariants as item
use Rattle.ir_syntax.specs.Results.{count}
use Rattle.ir_syntax.specs.Symbols.{item_at}
use Rattle.ir_syntax.specs.Programs.{ProgramData}
use Rattle.fold_facts.specs.Assigned.{Assigned}
use Rattle.fold_facts.specs.Closed.{IsLeastClosed}
use Rattle.fold_facts.specs.OfFunction.{IsAssignmentOf}
use Rattle.fold_facts.specs.Places.{blocks_of}
use Rattle.demands.specs.declared.demand.Demand.{Demand}
use Rattle.demands.specs.declared.demand.Demand.TheVariants.{Func as function, Var as variable}
use Rattle.demands.specs.Order.{symbol_of}
use Rattle.demands.specs.Reading.{read_row}
use Rattle.specialise.specs.declared.piece.Piece.{Piece}
use Rattle.specialise.specs.Residual.{residual}
use Rattle.specialise.specs.Needs.{body_asks, init_asks, AreRowsOf}

-- ---- by an assignment

-- the residual body of a function by an assignment, what it needs, and how many phis, instructions and terminators it has
pub record IsPieceBy (p : ProgramData) (cycles : List (List Bool)) (home : ℕ) (known : List Known) (func : Func) (a : Assigned) (piece : Piece) : Type 0 where
  pub body : piece.body ≡ Some (residual known func a)
  pub calls : AreRowsOf (body_asks p cycles home (residual known func a).blocks) piece.calls
  pub size : piece.size ≡ count (residual known func a)

abbrev pub IsPieceAt : ProgramData → List (List Bool) → ℕ → List Known → Assigned → Option Item → Piece → Type 0
IsPieceAt p cycles home known a None piece = ⊥
IsPieceAt p cycles home known a (Some (item.Var var)) piece = ⊥
IsPieceAt p cycles home known a (Some (item.Func func)) piece = IsPieceBy p cycles home known func a piece

-- the piece of a demand for a function, by an assignment of the function
abbrev pub IsResidual : ProgramData → List (List Bool) → Demand → Assigned → Piece → Type 0
IsResidual p cycles (variable symbol) a piece = ⊥
IsResidual p cycles (function symbol pattern) a piece = IsPieceAt p cycles symbol.module pattern a (item_at p.modules symbol) piece

abbrev pub IsAssignmentAt : Assigned → Option Item → Type 0
IsAssignmentAt a None = ⊥
IsAssignmentAt a (Some (item.Var var)) = ⊥
IsAssignmentAt a (Some (item.Func func)) = IsSome func.body × IsAssignmentOf func a

-- an assignment of the function that is demanded
abbrev pub IsAssignmentFor : ProgramData → Demand → Assigned → Type 0
IsAssignmentFor p (variable symbol) a = ⊥
IsAssignmentFor p (function symbol pattern) a = IsAssignmentAt a (item_at p.modules symbol)

-- ---- by the least closed one

pub record HasLeastPiece (p : ProgramData) (cycles : List (List Bool)) (home : ℕ) (known : List Known) (func : Func) (piece : Piece) : Type 0 where
  pub facts : Assigned
  pub of : IsAssignmentOf func facts
  pub least : IsLeastClosed (record { known = known }) (blocks_of func) facts
  pub is : IsPieceBy p cycles home known func facts piece

-- A variable has no body. It needs what its initialiser names.
pub record IsVariablePiece (p : ProgramData) (home : ℕ) (var : Var) (piece : Piece) : Type 0 where
  pub body : piece.body ≡ None
  pub calls : AreRowsOf (init_asks p home var.init) piece.calls
  pub size : piece.size ≡ 0

abbrev pub IsExpansionAt : ProgramData → List (List Bool) → Demand → Option Item → Piece → Type 0
IsExpansionAt p cycles d None piece = ⊥
IsExpansionAt p cycles (variable symbol) (Some (item.Var var)) piece = IsVariablePiece p symbol.module var piece
IsExpansionAt p cycles (variable symbol) (Some (item.Func func)) piece = ⊥
IsExpansionAt p cycles (function symbol pattern) (Some (item.Var var)) piece = ⊥
IsExpansionAt p cycles (function symbol pattern) (Some (item.Func func)) piece = HasLeastPiece p cycles symbol.module pattern func piece

-- what a demand of the program expands into
abbrev pub IsExpansion : ProgramData → List (List Bool) → Demand → Piece → Type 0
IsExpansion p cycles d piece = IsExpansionAt p cycles d (item_at p.modules (symbol_of d)) piece

-- What a row expands into that is no demand's.
pub record IsNothing (piece : Piece) : Type 0 where
  pub body : piece.body ≡ None
  pub calls : piece.calls ≡ []
  pub size : piece.size ≡ 0

abbrev pub IsExpansionBy : ProgramData → List (List Bool) → Option Demand → Piece → Type 0
IsExpansionBy p cycles None piece = IsNothing piece
IsExpansionBy p cycles (Some d) piece = IsExpansion p cycles d piece

-- What a row expands into in a program: what the demand does that has the row, or nothing where none has it.
abbrev pub IsRowExpansion : ProgramData → List (List Bool) → List ℕ → Piece → Type 0
IsRowExpansion p cycles row piece = IsExpansionBy p cycles (read_row p.modules row) piece
