-- Which pieces are assembled, and what assembling answers.
use Rattle.std.specs.Prelude.{◌≡◌, ℕ, Bool, List, All, map}
use Rattle.ir_syntax.specs.Programs.{ProgramData}
use Rattle.fixed_point.specs.Needs.{AreAllNeeded}
use Rattle.fold_facts.specs.Assigned.{Assigned}
use Rattle.demands.specs.declared.demand.Demand.{Demand}
use Rattle.demands.specs.declared.demand.Demand.TheVariants.{Func as function, Var as variable}
use Rattle.demands.specs.Demands.{IsDemand}
use Rattle.demands.specs.Names.{are_unknown}
use Rattle.demands.specs.Order.{symbol_of, pattern_of}
use Rattle.demands.specs.Rows.{words_of}
use Rattle.interface.specs.Asked.{AreCycles}
use Rattle.interface.specs.Roots.{roots}
use Rattle.specialise.specs.declared.piece.Piece.{Piece}
use Rattle.specialise.specs.Pieces.{IsExpansion, IsResidual, IsAssignmentFor, IsRowExpansion}
use Rattle.specialise.specs.Mirrors.Expanding.{row_needs}
use Rattle.winnowed_form.specs.declared.member.Member.{Member}
use Rattle.winnowed_form.specs.declared.winnowed.ShapeFault.{ShapeFault}
use Rattle.winnowed_form.specs.declared.winnowed.ShapeFault.TheVariants.{NameClash, OutOfMemory}
use Rattle.winnowed_form.specs.declared.winnowed.Winnowed.{Winnowed}
use Rattle.winnowed_form.specs.Basis.{basis}
use Rattle.winnowed_form.specs.Members.{AreMembers}
use Rattle.winnowed_form.specs.Clashes.{AreFree, IsFirstTaken, copy_names}
use Rattle.winnowed_form.specs.Winnowed.{IsWinnowedOf}

-- ---- pieces

-- The pieces are the needed rows with their expansions.
pub record AreNeededPieces (p : ProgramData) (pieces : List (List ℕ × Piece)) : Type 0 where
  pub cycles : List (List Bool)
  pub are_cycles : AreCycles p cycles
  pub needed : AreAllNeeded (row_needs p cycles) (map words_of (roots p cycles)) (map (λ pair. pair.0) pieces)
  pub expanded : All (λ pair. IsRowExpansion p cycles pair.0 pair.1) pieces

-- what is left by some assignment of the function that is demanded; a variable has what it expands into
pub record IsLeft (p : ProgramData) (cycles : List (List Bool)) (d : Demand) (piece : Piece) : Type 0 where
  pub assigned : Assigned
  pub of : IsAssignmentFor p d assigned
  pub is : IsResidual p cycles d assigned piece

abbrev pub IsPieceOf : ProgramData → List (List Bool) → Demand → Piece → Type 0
IsPieceOf p cycles (variable symbol) piece = IsExpansion p cycles (variable symbol) piece
IsPieceOf p cycles (function symbol pattern) piece = IsLeft p cycles (function symbol pattern) piece

-- The row is that of a demand of the program, and the piece is one of this demand.
pub record IsDemandPiece (p : ProgramData) (cycles : List (List Bool)) (row : List ℕ) (piece : Piece) : Type 0 where
  pub demand : Demand
  pub is_demand : IsDemand p.modules demand
  pub has_row : words_of demand ≡ row
  pub is : IsPieceOf p cycles demand piece

-- The pieces of a set of demands.
pub record AreDemandPieces (p : ProgramData) (pieces : List (List ℕ × Piece)) : Type 0 where
  pub cycles : List (List Bool)
  pub are_cycles : AreCycles p cycles
  pub demands : All (λ pair. IsDemandPiece p cycles pair.0 pair.1) pieces

-- ---- answers

-- The modules are the winnowed ones of the pieces' demands, no copy of which has the name of an item.
pub record HasWinnowed (p : ProgramData) (pieces : List (List ℕ × Piece)) (w : Winnowed) : Type 0 where
  pub cycles : List (List Bool)
  pub are_cycles : AreCycles p cycles
  pub members : List Member
  pub are_members : AreMembers p pieces members
  pub free : AreFree p.modules (copy_names (basis p cycles) members)
  pub is : IsWinnowedOf (basis p cycles) members w

-- A copy has the name of an item: the first such name in the order of demands.
pub record HasClash (p : ProgramData) (pieces : List (List ℕ × Piece)) (name : List ℕ) : Type 0 where
  pub cycles : List (List Bool)
  pub are_cycles : AreCycles p cycles
  pub members : List Member
  pub are_members : AreMembers p pieces members
  pub is : IsFirstTaken p.modules (copy_names (basis p cycles) members) name

-- Want of memory has no cause.
abbrev pub IsCause : ProgramData → List (List ℕ × Piece) → ShapeFault → Type 0
IsCause p pieces (NameClash name) = HasClash p pieces name
IsCause p pieces OutOfMemory = Unit {0}
