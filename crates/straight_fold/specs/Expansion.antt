-- What the row of a demand expands into.
use Rattle.std.specs.Prelude.{◌≡◌, ℕ, suc, List, [], length, slice_get, Option, None, Some}
use Rattle.ir_syntax.specs.declared.item.Item.{Item}
use Rattle.ir_syntax.specs.declared.item.Module.{Module}
use Rattle.demands.specs.declared.demand.Demand.{Demand}
use Rattle.demands.specs.declared.demand.Demand.TheVariants.{Func, Var}
use Rattle.demands.specs.Reading.{read_row}
use Rattle.straight_plan.specs.declared.fact.Fact.{Fact}
use Rattle.straight_plan.specs.declared.cut.Cut.{Cut}
use Rattle.straight_plan.specs.Residual.{residual}
use Rattle.straight_plan.specs.Asked.{program_items, insts_at}
use Rattle.straight_fold.specs.declared.piece.Found.{Found}
use Rattle.straight_fold.specs.declared.piece.Piece.{Piece}
use Rattle.straight_fold.specs.Facts.{facts_of}
use Rattle.straight_fold.specs.Calls.{rows_of}

-- Each of a demand of the program, or of a row that none has. Only a function has something.
abbrev pub found_at : List Item → Option Demand → Option Found
found_at items None = None
found_at items (Some (Var symbol)) = None
found_at items (Some (Func symbol pattern)) = Some (record { demand = Func symbol pattern; facts = facts_of pattern (insts_at (slice_get items symbol.item)) })

abbrev pub needs_at : List Item → Option Demand → List (List ℕ)
needs_at items None = []
needs_at items (Some (Var symbol)) = []
needs_at items (Some (Func symbol pattern)) =
    let insts = insts_at (slice_get items symbol.item) in rows_of items pattern (facts_of pattern insts) insts

abbrev pub size_at : List Item → Option Demand → ℕ
size_at items None = 0
size_at items (Some (Var symbol)) = 0
size_at items (Some (Func symbol pattern)) =
    let insts = insts_at (slice_get items symbol.item) in suc (length (residual pattern (facts_of pattern insts) insts))

-- what the row with these words needs, and its size
abbrev pub row_needs : List Module → List ℕ → List (List ℕ)
row_needs modules row = needs_at (program_items modules) (read_row modules row)

abbrev pub row_size : List Module → List ℕ → ℕ
row_size modules row = size_at (program_items modules) (read_row modules row)

-- the piece of a demand, or of none
pub record IsPieceAt (items : List Item) (d : Option Demand) (piece : Piece) : Type 0 where
  pub found : piece.found ≡ found_at items d
  pub needs : piece.needs ≡ needs_at items d
  pub size : piece.size ≡ size_at items d

-- and of a row
abbrev pub IsPieceOf : List Module → List ℕ → Piece → Type 0
IsPieceOf modules row piece = IsPieceAt (program_items modules) (read_row modules row) piece

-- ---- the cut of a function that was found

abbrev pub cut_at : List Fact → Demand → Option Cut
cut_at facts (Var symbol) = None
cut_at facts (Func symbol pattern) = Some (record { ask = record { place = symbol.item; pattern = pattern }; facts = facts })

abbrev pub cut_of : Found → Option Cut
cut_of found = cut_at found.facts found.demand
