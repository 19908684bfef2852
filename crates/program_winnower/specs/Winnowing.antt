-- What a linked program is winnowed to, and why it isn't.
use Rattle.std.specs.Prelude.{◌≤◌, ℕ, Bool, List, length, map, sum_by}
use Rattle.ir_syntax.specs.Programs.{ProgramData}
use Rattle.fixed_point.specs.declared.fault.FixFault.{FixFault}
use Rattle.fixed_point.specs.declared.fault.FixFault.TheVariants as fix
use Rattle.fixed_point.specs.Needs.{NeedsMoreThan, WeighsMoreThan}
use Rattle.demands.specs.Rows.{words_of}
use Rattle.interface.specs.Asked.{AreCycles}
use Rattle.interface.specs.Roots.{roots}
use Rattle.specialise.specs.declared.piece.Piece.{Piece}
use Rattle.specialise.specs.Mirrors.Expanding.{row_needs, row_size}
use Rattle.winnowed_form.specs.declared.winnowed.ShapeFault.{ShapeFault}
use Rattle.winnowed_form.specs.declared.winnowed.ShapeFault.TheVariants as shape
use Rattle.winnowed_form.specs.declared.winnowed.Winnowed.{Winnowed}
use Rattle.winnowed_form.specs.Conditions.{AreNeededPieces, HasWinnowed, HasClash}
use Rattle.program_winnower.specs.declared.fault.WinnowFault.{WinnowFault}
use Rattle.program_winnower.specs.declared.fault.WinnowFault.TheVariants as fault

-- ---- what is needed, and its limits

-- The pieces are the needed rows with their expansions, at most 65,536, whose sizes add to at most 8,388,608.
pub record AreFewPieces (p : ProgramData) (pieces : List (List ℕ × Piece)) : Type 0 where
  pub needed : AreNeededPieces p pieces
  pub few : length pieces ≤ 65536
  pub small : sum_by (λ (pair : List ℕ × Piece). row_size p pair.0) pieces ≤ 8388608

pub record NeedsTooMany (p : ProgramData) : Type 0 where
  pub cycles : List (List Bool)
  pub are_cycles : AreCycles p cycles
  pub more : NeedsMoreThan (row_needs p cycles) (map words_of (roots p cycles)) 65536

pub record NeedsTooMuch (p : ProgramData) : Type 0 where
  pub cycles : List (List Bool)
  pub are_cycles : AreCycles p cycles
  pub more : WeighsMoreThan (row_needs p cycles) (row_size p) (map words_of (roots p cycles)) 8388608

-- Want of memory has no cause.
abbrev pub RefusesNeeds : ProgramData → FixFault → Type 0
RefusesNeeds p fix.TooManyDemands = NeedsTooMany p
RefusesNeeds p fix.TooMuchCode = (NeedsTooMany p → ⊥) × NeedsTooMuch p
RefusesNeeds p fix.OutOfMemory = Unit {0}

-- ---- winnowing

-- The modules are the winnowed ones of what the program needs, which is within the limits.
pub record IsWinnowedProgram (p : ProgramData) (w : Winnowed) : Type 0 where
  pub pieces : List (List ℕ × Piece)
  pub are : AreFewPieces p pieces
  pub winnowed : HasWinnowed p pieces w

-- What is needed is within the limits, and a copy has the name of an item: the first such name.
pub record HasProgramClash (p : ProgramData) (name : List ℕ) : Type 0 where
  pub pieces : List (List ℕ × Piece)
  pub are : AreFewPieces p pieces
  pub clash : HasClash p pieces name

abbrev pub RefusesProgram : ProgramData → WinnowFault → Type 0
RefusesProgram p fault.TooManyDemands = NeedsTooMany p
RefusesProgram p fault.TooMuchCode = (NeedsTooMany p → ⊥) × NeedsTooMuch p
RefusesProgram p (fault.NameClash symbol) = HasProgramClash p symbol
RefusesProgram p fault.OutOfMemory = Unit {0}

-- ---- the same faults

abbrev pub of_needs : FixFault → WinnowFault
of_needs fix.TooManyDemands = fault.TooManyDemands
of_needs fix.TooMuchCode = fault.TooMuchCode
of_needs fix.OutOfMemory = fault.OutOfMemory

abbrev pub of_shape : ShapeFault → WinnowFault
of_shape (shape.NameClash symbol) = fault.NameClash symbol
of_shape shape.OutOfMemory = fault.OutOfMemory
